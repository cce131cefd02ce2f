pub mod WholeMessages
pub mod Sizes
