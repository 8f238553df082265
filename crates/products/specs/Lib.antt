pub mod Sums
pub mod Indices
pub mod Products
pub mod Lines
pub mod Searches
pub mod Coefficients
