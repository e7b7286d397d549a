pub mod Walk
pub mod Reading
pub mod Writing
pub mod Counting
pub mod Answers
