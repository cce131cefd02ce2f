pub mod Outputs
pub mod Printed
pub mod Spellings
pub mod LineSteps
pub mod Sound
