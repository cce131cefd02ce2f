pub mod Asking
pub mod Held
pub mod Holdings
pub mod InMemory
pub mod Opening
pub mod Slots
