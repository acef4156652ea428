pub mod Prelude
pub mod Nodes
pub mod Rings
pub mod Chains
pub mod Layout
pub mod Seen
pub mod Gaps
