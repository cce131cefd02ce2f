pub mod RisingLogs
