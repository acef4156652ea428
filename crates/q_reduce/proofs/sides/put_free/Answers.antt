use Rattle.std.proofs.Common.{ℕ, List, [], ◌∷◌, sym, subst, inl, inr}
use Rattle.q_logic.specs.Prelude.{IsIn}
use Rattle.q_logic.proofs.Common.{IsIn-append}
use Rattle.q_kernel.specs.Prelude.{slots, HoldsLiteral}
use Rattle.q_kernel.proofs.ForLoops.{holder-turn}
use Rattle.q_reduce.specs.Paths.{Lacks}
use Rattle.q_reduce.proofs.sides.put_free.Goals as goal

pub lacks-requires : goal.lacks-requires
lacks-requires c =
    let h = holder-turn c.args.kernel.now c.args.lit c.loop-d.yielded c.holders-d-items.ensures.hold c.into_iter-d-iterator.ensures.into_iter_gives c.loop-d.yielded_by c.in-Some.ensures.steps in
    (h.0, h.1)

pub loop-d-preserved-then-not-contains : goal.loop-d-preserved-then-not-contains
loop-d-preserved-then-not-contains c y m =
    let k = c.args.kernel.now in
    let d = c.in-Some.d in
    elim (IsIn-append y c.loop-d.list.items (d ∷ []) (subst (λ (xs : List ℕ). IsIn y xs) c.in_ok-push.ensures.items m)) [
      | inl a ↦ c.loop-d.invariant y a
      | inr b ↦ elim b [
        | inl e ↦ inr (
          subst (λ (x : ℕ). HoldsLiteral k x c.args.lit) (sym e) (holder-turn k c.args.lit c.loop-d.yielded c.holders-d-items.ensures.hold c.into_iter-d-iterator.ensures.into_iter_gives c.loop-d.yielded_by c.in-Some.ensures.steps),
          subst (λ (x : ℕ). Lacks (slots k) x c.args.u) (sym e) (c.lacks.ensures c.if-lacks.true),
        )
        | inr none ↦ absurd none
      ]
    ]
