pub mod Lines
pub mod Words
pub mod Decimal
pub mod Runs
