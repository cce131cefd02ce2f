pub mod Asking
pub mod Prefixes
pub mod Feeding
pub mod Finishing
pub mod Telling
pub mod Within
pub mod Leading
pub mod Nearing
mod Worked
