pub mod Cutting
pub mod Callers
