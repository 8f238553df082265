pub mod Monomials
pub mod Canonical
pub mod Taking
pub mod Subtraction
pub mod LongDivision
pub mod Rule
pub mod Degree
