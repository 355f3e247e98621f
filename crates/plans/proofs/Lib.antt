pub mod Lists
pub mod Stores
pub mod Rows
pub mod Referred
pub mod Fields
