pub mod Texts
pub mod Bad
pub mod Tags
pub mod Turns
pub mod Forms
pub mod Asking
pub mod Elements
