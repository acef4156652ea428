pub mod Builders
pub mod Causes
pub mod Grammar
pub mod Logs
pub mod Reading
pub mod Spelled
pub mod Texts
pub mod Fronts
