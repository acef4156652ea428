pub mod Rows
pub mod Tables
pub mod Layout
pub mod ByNumber
