pub mod Sides
pub mod Named
pub mod RightSides
pub mod Meeting
pub mod Judging
pub mod Local
