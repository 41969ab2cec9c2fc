pub mod Small
pub mod Unique
