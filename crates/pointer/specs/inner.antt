pub mod Data
pub mod Again
pub mod Numbers
