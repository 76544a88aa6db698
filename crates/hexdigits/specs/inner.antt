pub mod Block
pub mod LowerHex
