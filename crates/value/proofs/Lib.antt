pub mod Laws
pub mod PlainUnits
pub mod CharacterUnits
pub mod Ordering
pub mod Reading
pub mod Comparing
pub mod Examples
