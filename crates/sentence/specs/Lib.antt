pub mod Tokens
pub mod Signs
pub mod Steps
