pub mod KnownValues
pub mod ClauseReads
pub mod ClauseValues
pub mod FalseClause
pub mod WordBits
pub mod LineValues
pub mod NodeValues
