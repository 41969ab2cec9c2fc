pub mod Ends
pub mod Accepted
pub mod Unique
