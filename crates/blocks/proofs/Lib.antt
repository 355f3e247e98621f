pub mod Plans
pub mod Calling
pub mod Items
pub mod Wholes
pub mod Values
pub mod Lending
pub mod Decimals
