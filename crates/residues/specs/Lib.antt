pub mod Remainders
pub mod Primes
pub mod Table
pub mod Euclid
pub mod Answer
