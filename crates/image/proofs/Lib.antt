pub mod Walk
pub mod Accepted
pub mod Cut
pub mod Unique
