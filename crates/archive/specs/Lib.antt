pub mod Archive
pub mod Current
pub mod inner
