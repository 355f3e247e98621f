pub mod Tables
pub mod Judged
pub mod Kept
