use Rattle.std.proofs.Common.{◌≡◌, ℕ, cond, eqb, ap, ap₂, ◌∙◌, Option}
use Rattle.q_certificate.specs.Prelude.{look_at}
use Rattle.q_herbrand.specs.Drafted.{either}
use Rattle.q_herbrand.proofs.MergedRows.{merged-below, merged-rest}
use Rattle.q_herbrand.proofs.drafting.merge.Goals as goal

pub loop-place-preserved : goal.loop-place-preserved
loop-place-preserved c =
    let lit : c.first_of-lit.result ≡ either (look_at c.args.circuits.now.items c.loop-place.place) (look_at c.args.inputs.now.items c.loop-place.place) =
    c.first_of-lit.ensures ∙ ap₂ either c.get.ensures c.get-in-loop-place.ensures in
    record {
      done = merged-below c.args.circuits.now.items c.args.inputs.now.items c.loop-place.row.items c.put_some.new.row.items
          c.loop-place.place (λ x. c.in_ok-put_some.ensures x
          ∙ ap (λ (l : Option ℕ). cond (eqb x c.loop-place.place) l (look_at c.loop-place.row.items x)) lit)
          c.loop-place.invariant.done;
      rest = merged-rest c.loop-place.row.items c.put_some.new.row.items c.loop-place.place c.first_of-lit.result
          c.in_ok-put_some.ensures c.loop-place.invariant.rest;
    }
