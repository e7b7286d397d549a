pub mod Token
pub mod Reader
pub mod Examples
pub mod Grammar
