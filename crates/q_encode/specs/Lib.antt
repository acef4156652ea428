pub mod Sides
pub mod Translations
pub mod Needless
pub mod Selected
pub mod Sums
pub mod Encoded
