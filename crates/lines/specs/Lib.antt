pub mod Tokens
pub mod Grammar
pub mod Lines
pub mod Reading
pub mod LineReader
pub mod Splits
