pub mod Limits
pub mod Layout
pub mod Judge
pub mod First
