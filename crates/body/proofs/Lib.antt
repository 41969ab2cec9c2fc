pub mod Arms
pub mod Unique
