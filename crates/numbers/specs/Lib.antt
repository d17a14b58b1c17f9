pub mod Numbers
pub mod Laws
pub mod Means
pub mod Folds
pub mod Outputs
