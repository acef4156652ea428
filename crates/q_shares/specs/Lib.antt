pub mod Shares
pub mod HintedShares
