pub mod Flags
pub mod Parses
pub mod Legal
