pub mod Scrubs
pub mod Decisions
