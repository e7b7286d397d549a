pub mod WellFormed
pub mod Blocks
pub mod Lead
pub mod Scalar
pub mod Characters
pub mod Examples
