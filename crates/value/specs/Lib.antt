pub mod Compare
pub mod Unit
pub mod Plain
pub mod Item
pub mod Read
pub mod Examples
