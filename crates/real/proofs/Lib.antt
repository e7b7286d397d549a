pub mod Patterns
pub mod Scales
pub mod Laws
pub mod Nearest
pub mod Examples
pub mod Comparisons
