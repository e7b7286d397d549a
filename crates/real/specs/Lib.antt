pub mod Real
pub mod Scale
pub mod Order
pub mod Value
pub mod Examples
