pub mod Stores
pub mod Passing
pub mod Layouts
pub mod Callers
