pub mod SameBlocks
pub mod SameSteps
pub mod Composing
pub mod MadeSteps
