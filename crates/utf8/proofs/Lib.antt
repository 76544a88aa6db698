pub mod RowLaws
pub mod WidthLaws
pub mod Laws
pub mod EncodeLaws
pub mod WindowLaws
pub mod FittingLaws
mod WalkLaws
pub mod Former
