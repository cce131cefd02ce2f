pub mod CommandLines
pub mod Words
