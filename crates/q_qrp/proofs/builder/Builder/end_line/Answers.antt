use Rattle.std.proofs.Common.{◌≡◌, ◌∙◌, ap, arith}
use Rattle.std.proofs.lemmas.Grind.{common_steps}
use Rattle.q_qrp.specs.declared.builder.Place.TheVariants.{After}
use Rattle.q_qrp.specs.Reading.{Gathered}
use Rattle.q_qrp.proofs.TraceLines.{gathered-ended}
use Rattle.q_qrp.proofs.builder.Builder.end_line.Goals as goal

pub invariant_of-self-2 : goal.invariant_of-self-2
invariant_of-self-2 c =
    let g : Gathered = record {
      place = c.self.inside.place;
      rows = c.self.inside.rows.items;
      terms = c.self.inside.terms;
      row = c.self.inside.row;
      pending = c.self.inside.pending;
    } in
    let e : g.place ≡ After = ap (λ (x : Gathered). x.place) c.self.view_is ∙ c.requires in
    let h = gathered-ended g g.pending e c.self.invariant in
    rw (c.push_reserved.ensures.items, c.reserve.ensures.items, c.in_ok-push.ensures.ok, c.as_slice.ensures) h
