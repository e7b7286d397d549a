pub mod Window
pub mod Watch
pub mod Examples
