pub mod Reading
pub mod Stages
pub mod Longest
