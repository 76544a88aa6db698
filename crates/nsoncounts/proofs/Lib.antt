pub mod Laws
pub mod Spelling
pub mod Fields
pub mod Decimals
pub mod Counting
pub mod Placing
