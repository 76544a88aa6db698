pub mod Counting
pub mod Faults
pub mod Runs
pub mod Simple
pub mod Turns
