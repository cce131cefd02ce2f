pub mod Changes
pub mod Contents
pub mod Pieces
pub mod Soundness
