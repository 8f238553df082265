pub mod RowAddition
pub mod Inversion
pub mod Zeros
