pub mod Acceptors
pub mod Proposers
pub mod Evidence
