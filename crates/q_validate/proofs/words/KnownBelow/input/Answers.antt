use Rattle.q_validate.proofs.WordBits.{input-told, input-untold}
use Rattle.q_validate.proofs.words.KnownBelow.input.Goals as goal

pub returns-then-place-lt-DEPTH : goal.returns-then-place-lt-DEPTH
returns-then-place-lt-DEPTH c = input-told c.args.place c.if-place-lt-DEPTH.true

pub returns : goal.returns
returns c = input-untold c.args.place c.if-place-lt-DEPTH.false
