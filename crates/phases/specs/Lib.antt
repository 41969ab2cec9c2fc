pub mod Phases
pub mod Laws
