pub mod Atoms
pub mod Checks
