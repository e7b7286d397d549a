pub mod Groups
pub mod Conjunction
pub mod Conjoin
pub mod Terms
