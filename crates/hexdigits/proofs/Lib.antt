pub mod Digits
pub mod Texts
pub mod Turn
pub mod Pairs
pub mod BlockLaws
