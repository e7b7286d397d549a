pub mod Char
pub mod Text
pub mod Abnf
