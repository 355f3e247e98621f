pub mod Ways
pub mod Fours
