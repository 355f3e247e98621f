pub mod Entry
pub mod Marks
pub mod Finding
pub mod Passes
