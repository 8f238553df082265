pub mod Exports
pub mod Finding
