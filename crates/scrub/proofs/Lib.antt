pub mod Hearing
pub mod Looking
