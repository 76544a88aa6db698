pub mod StringForm
pub mod inner
