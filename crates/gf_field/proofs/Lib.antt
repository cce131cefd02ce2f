pub mod Doubling
pub mod FieldLaws
pub mod Inverses
pub mod Lagrange
pub mod PolynomialLaws
pub mod PowerLaws
pub mod Roots
