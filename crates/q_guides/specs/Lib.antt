pub mod MoveTexts
