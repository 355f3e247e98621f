pub mod Giving
pub mod Zeros
