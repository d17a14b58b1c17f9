pub mod Shapings
