pub mod Reordering
pub mod Rotation
pub mod Exchange
pub mod Orders
pub mod Turning
