pub mod Answers
pub mod Lending
pub mod Order
pub mod Packing
