pub mod Tied
pub mod Writing
pub mod Left
