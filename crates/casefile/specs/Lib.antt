pub mod Cleared
pub mod Passed
pub mod Lines
pub mod Names
pub mod Pins
