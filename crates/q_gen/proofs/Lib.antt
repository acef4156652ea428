pub mod GeneratedPrefix
pub mod DrawnClauses
pub mod RandomWords
pub mod GeneratedClauses
pub mod GeneratedFile
