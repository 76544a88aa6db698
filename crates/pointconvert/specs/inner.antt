pub mod Fitting
pub mod Again
