pub mod Promises
pub mod Sending
pub mod Replies
pub mod TheChoices
pub mod Deciding
pub mod Ends
