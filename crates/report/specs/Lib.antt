pub mod Line
pub mod Text
pub mod Output
pub mod Totalled
pub mod Examples
