pub mod HintedRefuting
pub mod HintedFront
