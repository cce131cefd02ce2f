mod Keys
pub mod Known
mod Lending
