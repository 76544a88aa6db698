pub mod Meaning
pub mod Field
pub mod Object
pub mod Entries
pub mod inner
