pub mod Draws
pub mod Lines
pub mod Spellings
pub mod Disks
