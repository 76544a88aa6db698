pub mod Cells
pub mod Table
pub mod Offer
pub mod Standing
pub mod inner
