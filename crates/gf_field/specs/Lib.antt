pub mod BitPolynomials
pub mod Field
pub mod Polynomials
pub mod Powers
