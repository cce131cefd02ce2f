pub mod Pieces
pub mod Contents
pub mod Halts
pub mod Ranges
pub mod Inside
pub mod Blocks
