pub mod Words
pub mod Texts
pub mod Tokens
pub mod Numbers
pub mod Pieces
