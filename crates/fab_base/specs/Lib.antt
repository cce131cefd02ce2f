pub mod Stamps
pub mod Layouts
pub mod Faults
pub mod Asks
pub mod Texts
