pub mod Trees
pub mod Numbers
pub mod Whole
pub mod Columns
pub mod Settling
pub mod Alike
pub mod Saying
pub mod Sides
mod Examples
