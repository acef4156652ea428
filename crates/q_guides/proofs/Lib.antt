mod MoveFields
mod MoveLines
