pub mod Jobs
pub mod Evidence
