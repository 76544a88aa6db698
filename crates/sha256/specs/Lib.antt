pub mod Operations
pub mod Constants
pub mod Roots
pub mod Compression
pub mod Message
pub mod Pieces
pub mod inner
