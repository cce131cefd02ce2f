pub mod StampOrder
pub mod Seats
pub mod Keeping
