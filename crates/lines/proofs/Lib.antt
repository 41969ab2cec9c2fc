pub mod Lines
pub mod Texts
pub mod RoundTrip
pub mod Cap
pub mod Unique
pub mod Few
