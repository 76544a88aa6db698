pub mod ByteLaws
pub mod TextLaws
pub mod QuotedLaws
pub mod PlainLaws
pub mod BlockLaws
