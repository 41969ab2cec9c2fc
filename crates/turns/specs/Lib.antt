pub mod Code
pub mod Stands
