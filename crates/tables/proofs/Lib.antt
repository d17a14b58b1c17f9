pub mod Numbered
pub mod Ranges
