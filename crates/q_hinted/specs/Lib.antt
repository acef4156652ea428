pub mod Builders
pub mod Filled
pub mod Grammar
pub mod Logs
pub mod Parts
pub mod Reading
pub mod Spelled
pub mod Texts
