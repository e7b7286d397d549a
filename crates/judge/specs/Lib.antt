pub mod Meaning
pub mod Environment
pub mod Answers
