pub mod Decimal
pub mod Putting
pub mod Words
pub mod Going
pub mod Standing
pub mod Blocks
pub mod File
