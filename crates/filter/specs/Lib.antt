pub mod Refusal
pub mod Check
pub mod Meaning
pub mod Evaluate
pub mod Noted
pub mod Demand3
pub mod Answers
