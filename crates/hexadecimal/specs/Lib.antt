pub mod Hex
pub mod Steps
pub mod Laws
