pub mod Rows
pub mod Bodies
pub mod Fields
pub mod LogRecords
pub mod Records
pub mod Uses
pub mod Writings
