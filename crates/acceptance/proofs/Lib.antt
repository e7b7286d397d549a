pub mod Layers
pub mod Derived
pub mod DerivedQuery
pub mod Counted
pub mod Accepted
pub mod Tokens
pub mod ReadAgain
pub mod Defaults
