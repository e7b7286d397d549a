pub mod Forms
pub mod Bounds
