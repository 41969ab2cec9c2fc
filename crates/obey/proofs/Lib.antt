pub mod Arms
pub mod Decides
pub mod Unique
