pub mod Coefficients
pub mod Entries
pub mod Listing
pub mod PutRows
pub mod PutEntries
pub mod PutOverZeros
