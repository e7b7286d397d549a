pub mod Joins
pub mod Trimmed
pub mod Examples
