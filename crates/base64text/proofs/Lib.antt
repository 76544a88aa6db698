mod Below
pub mod Alphabet
pub mod Texts
mod Turns
