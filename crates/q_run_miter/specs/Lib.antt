pub mod MiteredLines
pub mod Mitering
