pub mod Laws
pub mod Counts
pub mod Counting
pub mod Corollaries
