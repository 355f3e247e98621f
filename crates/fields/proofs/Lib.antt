pub mod Parts
pub mod Replacing
