pub mod Run
pub mod Live
pub mod Matcher
pub mod Recent
pub mod Remembered
pub mod Examples
