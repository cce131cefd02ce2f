pub mod Layouts
pub mod Listed
pub mod Images
pub mod Reading
pub mod Stores
pub mod Steps
pub mod Laid
pub mod Ends
