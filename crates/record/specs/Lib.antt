pub mod Record
pub mod Walked
pub mod Write
pub mod Name
pub mod Reserved
pub mod Kind
pub mod Examples
