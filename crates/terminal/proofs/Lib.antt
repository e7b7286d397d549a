pub mod KindCodes
pub mod Inside
