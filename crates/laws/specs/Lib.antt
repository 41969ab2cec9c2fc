-- Definitions and laws that know nothing of images or kernels.
pub mod Choice
pub mod Lists
pub mod Span
pub mod Unique
