pub mod Checks
pub mod Operations
pub mod Walks
pub mod Lasts
pub mod Reviews
pub mod Sweeps
pub mod Judging
pub mod Examining
