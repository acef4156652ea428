pub mod Making
pub mod HintedMaking
pub mod Parts
