pub mod BlockOps
