pub mod Liking
