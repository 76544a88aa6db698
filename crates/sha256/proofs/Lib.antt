pub mod WordLaws
pub mod Turns
pub mod Cutting
pub mod Joining
pub mod Filling
pub mod Rule
