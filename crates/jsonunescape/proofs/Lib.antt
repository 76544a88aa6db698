pub mod Unescape
pub mod Parts
pub mod RunLaws
pub mod Letters
pub mod ShortLaws
