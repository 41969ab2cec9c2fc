pub mod Text
pub mod Both
