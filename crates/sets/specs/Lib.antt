-- What sets of small numbers are, and the laws that tell what is in them.
pub mod Sets
pub mod Laws
pub mod Members
