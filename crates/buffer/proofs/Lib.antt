pub mod Laws
pub mod EntryLaws
pub mod OverLaws
pub mod Places
