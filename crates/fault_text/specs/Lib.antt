pub mod FaultText
pub mod Part
pub mod Examples
