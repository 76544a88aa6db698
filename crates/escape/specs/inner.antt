pub mod Block
pub mod Quoted
pub mod Which
pub mod Back
pub mod Controls
