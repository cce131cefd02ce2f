pub mod Content
mod Copies
mod Given
mod Pieces
pub mod Told
