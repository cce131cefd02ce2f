pub mod Calls
pub mod Datagrams
pub mod Ends
pub mod Memory
pub mod Moments
pub mod Scripts
pub mod Standard
