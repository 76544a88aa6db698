pub mod Laws
pub mod Sizing
pub mod Turns
pub mod Standing
pub mod Walking
