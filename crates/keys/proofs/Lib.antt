pub mod Loops
pub mod Keys
