pub mod Big
pub mod Digits
pub mod Sign
pub mod Whole
pub mod Pairs
pub mod Decimals
