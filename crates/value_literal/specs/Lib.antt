pub mod LiteralValue
pub mod DatetimeText
pub mod Examples
