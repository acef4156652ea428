pub mod Words
pub mod Causes
pub mod Lines
pub mod Reading
pub mod Steps
pub mod Scanning
pub mod Offences
pub mod Grammar
