pub mod Cause
pub mod Named
pub mod Index
pub mod LiteralReading
pub mod Element
pub mod PatternLiteral
pub mod Answers
pub mod Examples
