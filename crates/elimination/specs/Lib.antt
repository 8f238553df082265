-- The form that is built from the back, and what the elimination delivers.
pub mod Form
pub mod Scalar
pub mod Reduced
