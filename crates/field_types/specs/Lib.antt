pub mod Layouts
pub mod Types
pub mod Rows
pub mod Parameters
