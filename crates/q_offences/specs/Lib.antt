pub mod Tables
pub mod FormulaFronts
pub mod FormulaTable
pub mod Fronts
pub mod Logs
pub mod CircuitTable
