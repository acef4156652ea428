use Rattle.std.proofs.Common.{◌∙◌, ap, sym, inl, inr, refl, option_map}
use Rattle.q_guides.proofs.MoveLines.{back-shorter, lines-none, lines-some}
use Rattle.q_guides.proofs.move_text.first_line.Goals as goal

pub returns-in-Some-clause-first : goal.returns-in-Some-clause-first
returns-in-Some-clause-first c =
    inl (lines-some c.args.text.now (c.in-Some.it.0.now, c.in-Some.it.1.now) (sym c.halves.ensures ∙ ap (option_map (λ p. (p.0.now, p.1.now))) c.in-Some.is))

pub returns-in-Some-clause-shorter : goal.returns-in-Some-clause-shorter
returns-in-Some-clause-shorter c =
    back-shorter 10 c.args.text.now (c.in-Some.it.0.now, c.in-Some.it.1.now) (sym c.halves.ensures ∙ ap (option_map (λ p. (p.0.now, p.1.now))) c.in-Some.is)

pub returns-in-None-clause-first : goal.returns-in-None-clause-first
returns-in-None-clause-first c =
    inr (lines-none c.args.text.now (sym c.halves.ensures ∙ ap (option_map (λ p. (p.0.now, p.1.now))) c.in-None.is), refl)
