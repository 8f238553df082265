pub mod Filling
pub mod Matrices
pub mod Loading
pub mod Products
pub mod Rows
pub mod Parts
