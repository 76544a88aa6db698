pub mod Half
pub mod Run
pub mod Short
