pub mod Wire
pub mod Sessions
pub mod Talks
pub mod Lives
