pub mod Rows
pub mod Makes
pub mod Entries
pub mod Fills
pub mod Steps
