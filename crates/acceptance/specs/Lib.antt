pub mod Comparisons
pub mod Reading
pub mod Acceptable
pub mod ReadAgain
