pub mod Arms
pub mod Loops
pub mod Unique
