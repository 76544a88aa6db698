pub mod Tails
pub mod StopLaws
pub mod Texts
pub mod Table
pub mod Low
pub mod Pass
pub mod Turns
