pub mod Laws
pub mod Sorts
pub mod Examples
pub mod Local
