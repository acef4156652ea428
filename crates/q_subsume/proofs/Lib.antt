pub mod ClauseLengths
pub mod PairTests
pub mod SubsumeChanges
pub mod SubsumeResults
pub mod SubsumeSearch
