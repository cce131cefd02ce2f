pub mod Numbers
pub mod HexTokens
pub mod Arguments
pub mod FirstWords
pub mod LineLengths
pub mod RawLines
pub mod WholeLines
pub mod LineReading
pub mod Needs
mod Scanning
pub mod Passing
pub mod Answering
pub mod HeadLines
pub mod ScheduleLines
mod BrickTokens
pub mod Splits
