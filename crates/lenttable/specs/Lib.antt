pub mod Empty
pub mod inner
