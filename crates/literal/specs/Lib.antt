pub mod Integer
pub mod RealLiteral
pub mod Literal
pub mod Sort
pub mod Examples
