pub mod Written
pub mod Digits
pub mod Laws
pub mod Examples
