pub mod HintedBytes
pub mod OpenEnds
pub mod NumberTexts
pub mod ProofNumbers
pub mod HintedSpelledIsRead
pub mod HintedReadIsSpelled
pub mod Profiles
pub mod HintedRoundTrip
mod HintedPieces
mod Fewer
