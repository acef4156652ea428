pub mod Below
pub mod Words
pub mod Lines
pub mod Stands
pub mod Answers
pub mod Refusals
