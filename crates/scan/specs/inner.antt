pub mod Blocks
pub mod Otherwise
pub mod Span
