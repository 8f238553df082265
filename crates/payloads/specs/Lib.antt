pub mod PutRecords
pub mod Along
pub mod Diagonals
pub mod Blocks
pub mod ClosedCoefficients
pub mod Written
