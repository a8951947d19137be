pub mod Folds
pub mod Reduced
