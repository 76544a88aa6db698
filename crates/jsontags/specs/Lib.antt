pub mod TagText
pub mod inner
