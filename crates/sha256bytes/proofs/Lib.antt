pub mod StateLaws
pub mod Entries
pub mod Calls
pub mod Telling
