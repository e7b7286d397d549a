pub mod Table
pub mod Properties
pub mod Hash
pub mod Sample
pub mod Examples
