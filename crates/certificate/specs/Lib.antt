pub mod Numbering
pub mod Sizes
pub mod ReadRecords
