pub mod DiskText
pub mod SpeltLines
pub mod DrawnLines
pub mod Worked
