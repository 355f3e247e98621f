pub mod Inside
pub mod Ways
