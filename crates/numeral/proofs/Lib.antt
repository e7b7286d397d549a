pub mod Laws
pub mod Longest
pub mod Alone
pub mod Fit
pub mod Bounds
pub mod Local
