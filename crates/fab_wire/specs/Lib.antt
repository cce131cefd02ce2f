pub mod Values
pub mod Requests
pub mod Replies
pub mod Clients
pub mod Spelling
