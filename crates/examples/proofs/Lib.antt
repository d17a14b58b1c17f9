pub mod Deciding
pub mod Listing
