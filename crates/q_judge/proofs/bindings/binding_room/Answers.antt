use Rattle.std.proofs.Common.{◌∙◌, ◌∷◌, [], ◌<◌, take, get_or, length, sym, subst, arith, add-one, true≢false, ℕ, inl, inr}
use Rattle.q_logic.specs.declared.formulas.Quant.TheVariants.{Exists}
use Rattle.q_logic.specs.declared.formulas.Bound.{Bound}
use Rattle.q_pages.specs.Rows.{IsMade}
use Rattle.q_judge.proofs.BoundPieces.{bound-either, bound-cases}
use Rattle.q_judge.proofs.ScopedPrefix.{take-next}
use Rattle.q_judge.proofs.bindings.binding_room.Goals as goal

pub loop-bound-preserved : goal.loop-bound-preserved
loop-bound-preserved c =
    let d : Bound = record { quant = Exists; var = 0 } in
    let P = c.args.prefix.now in
    let i = c.loop-bound.bound-index in
    let b = get_or P i d in
    let room = c.in_ok-make_room.ensures.room in
    rw (add-one, take-next P i d c.loop-bound-test.true) (
      (λ v. c.in_ok-make_room.ensures.same v ∙ c.loop-bound.invariant.0 v),
      (λ v h. elim (bound-either (take i P) (b ∷ []) v h) [
        | inl k ↦ c.in_ok-make_room.ensures.kept.made v (c.loop-bound.invariant.1 v k)
        | inr k ↦ elim (bound-cases b [] v k) [
          | inl e ↦ subst (λ (w : ℕ). IsMade c.make_room.new.self w) e room
          | inr e ↦ absurd (true≢false (sym e.1))
        ]
      ]),
    )
