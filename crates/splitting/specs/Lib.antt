-- The definitions and laws of the block that is split off.
pub mod Finding
pub mod Shapes
pub mod Chain
pub mod Killing
pub mod Wipe
pub mod Insertion
pub mod Pass
pub mod Settle
pub mod Probe
pub mod Tails
pub mod Reaching
pub mod Powers
pub mod Tests
pub mod Passing
pub mod Blocking
