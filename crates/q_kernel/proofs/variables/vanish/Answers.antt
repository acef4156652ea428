use Rattle.std.proofs.Common.{length, sym, ◌∙◌, ap}
use Rattle.q_logic.specs.Prelude.{Literal}
use Rattle.q_occ.specs.Places.{places_of}
use Rattle.q_kernel.proofs.OccurrenceChanges.{not-listed, vanished}
use Rattle.q_kernel.proofs.variables.vanish.Goals as goal

pub returns-then-count-eq0-2-clause-occurring : goal.returns-then-count-eq0-2-clause-occurring
returns-then-count-eq0-2-clause-occurring c = λ f u.
    let n = not-listed c.args.occ.now c.args.lit (sym c.count.ensures ∙ c.if-count-eq0.true) (ap (λ (l : Literal). length (places_of c.args.occ.now l)) (sym c.negated.ensures) ∙ sym c.count-then-count-eq0.ensures ∙ c.if-count-eq0-2.true) in
    vanished c.stop.new.uses c.args.prefix.now.bounds c.args.occ.now c.args.lit c.var.result f c.var.ensures.value n (c.stop.ensures.occurring f u)
