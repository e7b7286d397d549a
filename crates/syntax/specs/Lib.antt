pub mod Scan
pub mod Property
pub mod Comparison
