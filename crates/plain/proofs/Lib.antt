pub mod Arms
pub mod Turns
pub mod Unique
