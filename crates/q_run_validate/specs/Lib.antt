pub mod ValidatedLines
pub mod Validates
