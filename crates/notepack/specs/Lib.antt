pub mod Layout
pub mod Strict
pub mod Unpack
pub mod Views
pub mod Seen
pub mod inner
