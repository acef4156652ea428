use Rattle.std.proofs.Common.{◌∙◌, ap, sym, take, Some}
use Rattle.q_guides.proofs.MoveLines.{halves-none, halves-some, rest_behind}
use Rattle.q_guides.proofs.fields.halves.Goals as goal

pub returns-in-Some : goal.returns-in-Some
returns-in-Some c =
    ap (λ back. Some (take c.in-Some.at c.args.text.now, back)) (rest_behind c.args.text.now c.in-Some.at)
    ∙ halves-some c.args.divider c.args.text.now c.in-Some.at (sym c.in-Some.is ∙ c.place_of.ensures)

pub returns-in-None : goal.returns-in-None
returns-in-None c = halves-none c.args.divider c.args.text.now (sym c.in-None.is ∙ c.place_of.ensures)
