-- The theorems on which the edit of a definition bears.
pub mod Divisibility
