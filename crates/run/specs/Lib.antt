pub mod Fault
pub mod Run
pub mod Totals
