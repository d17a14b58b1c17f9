pub mod Rules
pub mod Typing
