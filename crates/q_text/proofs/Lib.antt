pub mod WordShapes
pub mod TokenLaw
pub mod SpelledWords
pub mod Decimals
pub mod LongerTexts
pub mod LiteralLengths
pub mod BytePieces
