pub mod Place
pub mod Negation
