pub mod PartLaws
pub mod Progressing
pub mod Beginning
pub mod StripeRuns
pub mod Covering
pub mod Writing
mod Worked
