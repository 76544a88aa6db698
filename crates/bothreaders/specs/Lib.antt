pub mod Both
pub mod inner
