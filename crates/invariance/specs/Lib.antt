pub mod Wider
pub mod NamedProperties
pub mod SameRecords
