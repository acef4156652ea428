mod PlainVariables
pub mod LogBytes
pub mod LogRoundTrip
pub mod LogSpelledIsRead
pub mod LogReadIsSpelled
pub mod WritableRuns
mod ResultOrder
pub mod LiteralTexts
pub mod StepLengths
pub mod HandedSteps
pub mod LeastInFront
pub mod LogPieces
mod Fewer
pub mod StepEnds
