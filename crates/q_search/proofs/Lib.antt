pub mod PathLemmas
pub mod BudgetedSearch
pub mod PathValues
pub mod NodeSteps
