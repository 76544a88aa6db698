pub mod Grammar
pub mod Token
pub mod Text
pub mod Value
pub mod inner
