pub mod Smith
pub mod SmithEntries
pub mod Moved
pub mod Diagonal
pub mod Chain
pub mod FrobeniusSearch
pub mod FieldRules
