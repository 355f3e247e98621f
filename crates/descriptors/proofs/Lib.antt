pub mod Rows
pub mod Refs
pub mod Grow
pub mod Closing
pub mod Moving
pub mod Advancing
pub mod Examining
pub mod Callers
