pub mod Closing
pub mod Needs
pub mod Numbers
