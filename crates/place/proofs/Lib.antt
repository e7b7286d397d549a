pub mod Placing
pub mod Negating
