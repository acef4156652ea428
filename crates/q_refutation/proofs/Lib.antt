pub mod Refuting
pub mod Refusing
pub mod FirstEmpty
pub mod SharedRefuting
pub mod SharedFront
