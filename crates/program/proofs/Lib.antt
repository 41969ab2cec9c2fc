pub mod Lines
pub mod Cap
pub mod Unique
