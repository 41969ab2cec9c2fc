pub mod Asks
pub mod Parts
pub mod Happens
pub mod Serves
