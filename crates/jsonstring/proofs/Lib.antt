pub mod Turn
pub mod PlainLaws
pub mod LooseLaws
pub mod ClashLaws
