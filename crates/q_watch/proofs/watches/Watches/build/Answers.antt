use Rattle.std.proofs.Common.{ℕ, List, Contains, inl, inr, sym, subst, arith}
use Rattle.std.proofs.lemmas.List.Elements.{Contains-push_cases}
use Rattle.q_kernel.proofs.ForLoops.{live-turn, all-came}
use Rattle.q_watch.proofs.watches.Watches.build.Goals as goal

pub put-requires : goal.put-requires
put-requires c = live-turn _ _ c.ids-id-items.ensures.live c.into_iter-id-iterator.ensures.into_iter_gives c.loop-id.yielded_by c.in-Some.ensures.steps

pub loop-id-init : goal.loop-id-init
loop-id-init c d D j h = absurd (let i = h.1 in omega arith)

pub loop-id-preserved : goal.loop-id-preserved
loop-id-preserved c d D j h s m = c.in_ok-put.ensures d D j s m (elim (Contains-push_cases c.loop-id.yielded c.in-Some.id d h) [
  | inl a ↦ inr (c.loop-id.invariant d D j a s m)
  | inr q ↦ inl (sym q)
])

pub returns : goal.returns
returns c d D j s m =
    let came = all-came _ c.into_iter-id-iterator.ensures.into_iter_gives c.loop-id.yielded_by c.in-None.ensures.steps.0 in
    c.loop-id.invariant d D j (subst (λ (xs : List ℕ). Contains xs d) (sym came) (c.ids-id-items.ensures.all d (record { there = (D, s) }))) s m
