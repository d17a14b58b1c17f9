pub mod Values
pub mod Making
pub mod Runs
