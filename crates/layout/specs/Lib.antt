pub mod Segments
pub mod Runs
pub mod Names
pub mod Limits
pub mod Checks
pub mod Texts
pub mod Places
