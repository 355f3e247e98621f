pub mod Rows
pub mod Allowed
