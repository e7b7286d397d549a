pub mod Starred
pub mod Marks
pub mod Watches
pub mod Printed
pub mod Namings
pub mod Conjunctions
