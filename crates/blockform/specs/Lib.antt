pub mod Diagonal
pub mod Read
