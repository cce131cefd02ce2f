pub mod Parts
pub mod Plans
pub mod Members
pub mod Courses
pub mod Reactions
pub mod Handling
pub mod Calls
pub mod Learning
