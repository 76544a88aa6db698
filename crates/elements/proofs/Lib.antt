pub mod Again
mod Further
pub mod Entry
pub mod Most
pub mod Texts
