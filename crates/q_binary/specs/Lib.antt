pub mod BinaryProofs
pub mod Reading
pub mod Builders
pub mod Forms
