pub mod Fits
pub mod Lives
pub mod Marks
pub mod Registers
pub mod Strict
pub mod Walk
