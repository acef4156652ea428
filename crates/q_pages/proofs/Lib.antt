mod FilledRows
pub mod PageEntries
pub mod TableRows
