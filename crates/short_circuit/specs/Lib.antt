pub mod Count
pub mod Walk
pub mod Examples
