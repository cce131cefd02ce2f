pub mod Lanes
pub mod Sums
pub use Rattle.gf_field.specs.Field
