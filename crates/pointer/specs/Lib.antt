pub mod Pointer
pub mod Layout
pub mod Entries
pub mod Written
pub mod Named
pub mod Seen
pub mod Theorems
pub mod inner
