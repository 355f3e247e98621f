pub mod Ways
pub mod Plain
