pub mod Questions
pub mod Loading
