pub mod Relation
pub mod Completion
pub mod Point
