pub mod Hashes
pub mod Before
pub mod Laws
pub mod Good
pub mod Find
pub mod Examples
