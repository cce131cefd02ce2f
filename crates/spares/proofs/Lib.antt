pub mod LeftBricks
pub mod Replacing
pub mod Soundness
mod Worked
