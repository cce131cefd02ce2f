pub mod Decisions
pub mod Messages
pub mod Operations
pub mod Foremost
pub mod Tallies
