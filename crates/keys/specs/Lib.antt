pub mod Key
pub mod inner
