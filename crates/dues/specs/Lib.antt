pub mod Codes
pub mod Dues
pub mod Laws
