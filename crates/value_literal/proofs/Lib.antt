pub mod Laws
pub mod Ascii
pub mod Examples
