pub mod Starred
pub mod Narrow
