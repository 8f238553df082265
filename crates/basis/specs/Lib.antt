-- The definitions and laws of the changes of basis.
pub mod Frame
pub mod Entries
pub mod Shear
pub mod Replace
pub mod State
pub mod Overwriting
pub mod Steps
pub mod Changes
pub mod Searches
