pub mod Laws
pub mod Part
pub mod Examples
