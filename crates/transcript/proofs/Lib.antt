pub mod Happenings
pub mod Turns
pub mod Rising
pub mod TextReading
