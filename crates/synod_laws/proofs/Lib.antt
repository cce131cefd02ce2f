pub mod Ballots
pub mod Agreement
pub mod Steps
pub mod Acceptors
pub mod Greatest
pub mod Example
