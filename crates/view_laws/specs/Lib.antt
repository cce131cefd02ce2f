pub mod Ends
pub mod Following
pub mod Successors
pub mod Syncs
