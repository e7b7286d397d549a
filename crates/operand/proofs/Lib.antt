pub mod Laws
pub mod Examples
pub mod Exclusive
pub mod Local
