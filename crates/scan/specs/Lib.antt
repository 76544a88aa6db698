pub mod Choice
pub mod Place
pub mod Bytes
pub mod Ascii
pub mod Compare
pub mod inner
