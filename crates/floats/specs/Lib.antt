pub mod Reals
pub mod Format
pub mod Scaled
