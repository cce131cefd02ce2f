pub mod Told
pub mod Calls
pub mod TextReport
pub mod Words
