pub mod Paths
mod Walks
mod Passes
pub mod Sats
mod Holding
mod Filling
mod Examples
