pub mod UlebLaws
pub mod SpelledLaws
pub mod VarintLaws
pub mod Turn
pub mod Further
