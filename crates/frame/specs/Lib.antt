pub mod Fields
pub mod Ops
pub mod Fault
pub mod Laws
pub mod Agree
