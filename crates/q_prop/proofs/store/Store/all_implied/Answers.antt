use Rattle.std.proofs.Common.{[], ◌++◌, arith, refl}
use Rattle.std.proofs.lemmas.Option.{slice_get_within}
use Rattle.q_prop.specs.Slots.{filled, without}
use Rattle.q_prop.proofs.CompleteRoot.{empty_implied}
use Rattle.q_prop.proofs.SlotLemmas.{filled-in, slice_get-Contains}
use Rattle.q_prop.proofs.store.Store.all_implied.Goals as goal

pub returns-then-len-eq0-clause-exact : goal.returns-then-len-eq0-clause-exact
returns-then-len-eq0-clause-exact c = (
  (λ _ t h.
      let j = slice_get-Contains c.args.tails.now t h in
      let inside = slice_get_within c.args.tails.now j.0 t j.1 in
      absurd (omega (arith, inside, c.len.ensures, c.if-len-eq0.true))),
  (λ all. refl),
)

pub returns-then-is_refuted-clause-exact : goal.returns-then-is_refuted-clause-exact
returns-then-is_refuted-clause-exact c =
    let s = without c.self.inside.propagator c.args.skip in
    let h = c.is_refuted.ensures.refuted c.if-is_refuted.true in
    rw (← c.self.view_is) (λ _ t m. empty_implied (filled s) (c.args.lits.now ++ t) (filled-in s h.0 [] h.1), λ _. refl)

pub returns-in-Some-clause-exact : goal.returns-in-Some-clause-exact
returns-in-Some-clause-exact c =
    rw (← c.self.view_is) (rw (c.in-Some.is, c.complete.ensures, c.is_refuted.ensures.same) at c.in_ok-answer.ensures.exact)

pub returns-in-None-clause-exact : goal.returns-in-None-clause-exact
returns-in-None-clause-exact c =
    rw (← c.self.view_is) (rw (c.each_implied.ensures.same, c.complete.ensures, c.is_refuted.ensures.same) at c.each_implied-in-None.ensures.exact)
