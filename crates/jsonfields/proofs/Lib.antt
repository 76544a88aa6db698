pub mod Strings
pub mod Plain
pub mod Items
pub mod Values
pub mod Names
pub mod Says
