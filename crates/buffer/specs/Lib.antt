pub mod Store
pub mod Entry
