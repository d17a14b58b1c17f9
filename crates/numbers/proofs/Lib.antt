pub mod Ends
pub mod Extremes
