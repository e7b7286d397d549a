pub mod Query
pub mod Text
pub mod Tree
