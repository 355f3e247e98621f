pub mod Shifts
pub mod Ways
