pub mod Spelling
pub mod Reading
pub mod LogSpelling
pub mod Sources
