pub mod Rest
pub mod Steps
pub mod Bound
pub mod Loop
pub mod Examples
