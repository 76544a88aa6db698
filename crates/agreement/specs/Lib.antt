pub mod Counted
pub mod Stored
pub mod Demand3
pub mod Demand2
pub mod Given
