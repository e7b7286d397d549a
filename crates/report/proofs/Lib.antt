pub mod Values
pub mod Fits
pub mod Laws
pub mod Writing
pub mod Lines
pub mod Words
pub mod Corollaries
pub mod Examples
