pub mod Uleb
pub mod Varint
