pub mod Decides
pub mod Steps
pub mod Numbering
pub mod Runs
pub mod Memory
pub mod Recalled
pub mod Texts
pub mod Examples
