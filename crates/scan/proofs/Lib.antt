pub mod Runs
pub mod Ends
pub mod Alike
