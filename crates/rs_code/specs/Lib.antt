pub mod Codewords
pub mod Stripes
pub use Rattle.gf_field.specs.Field
pub use Rattle.gf_field.specs.Polynomials
pub use Rattle.gf_lanes.specs.Lanes
pub use Rattle.gf_lanes.specs.Sums
