pub mod SharedRuns
pub mod HintedSharedRuns
