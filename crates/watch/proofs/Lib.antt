pub mod Windows
pub mod Counting
pub mod Marks
pub mod Passing
pub mod Laws
pub mod PlainMarks
pub mod Corollaries
pub mod Examples
