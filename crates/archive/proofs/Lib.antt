pub mod Lookup
pub mod Laws
pub mod Run
pub mod Current
pub mod Alone
pub mod Distinct
pub mod Places
