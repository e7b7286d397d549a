pub mod Abnf
pub mod Limits
