pub mod Described
pub mod Sda
pub mod Entries
