pub mod Polynomials
pub mod Steps
pub mod PolynomialLaws
