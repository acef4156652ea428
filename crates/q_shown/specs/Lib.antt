pub mod HintedRefutations
