pub mod Cells
pub mod Entries
pub mod Good
pub mod Offers
pub mod Lowest
pub mod Shown
