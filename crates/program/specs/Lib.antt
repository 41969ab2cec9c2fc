pub mod JobLines
pub mod Printing
pub mod Whole
pub mod Example
