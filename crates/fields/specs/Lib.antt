pub mod Plan
pub mod Parts
pub mod Replaced
