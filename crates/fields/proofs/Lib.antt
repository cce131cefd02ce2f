pub mod Writings
pub mod Loops
