pub mod Boxed
pub mod AnnotatedLines
pub mod AnnotatedShares
pub mod Annotates
pub mod AnnotatedParts
pub mod JoinedParts
pub mod Readings
