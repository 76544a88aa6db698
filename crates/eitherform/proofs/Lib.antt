pub mod Asking
pub mod Offering
