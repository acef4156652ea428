use Rattle.std.proofs.Common.{◌≡◌, ◌∷◌, ◌++◌, [], ℕ, List, None, length, sym, ap, subst}
use Rattle.q_logic.specs.Prelude.{Clause, others}
use Rattle.q_kernel.specs.Prelude.{slots}
use Rattle.q_blocked.specs.declared.plan.Stage.{Stage}
use Rattle.q_blocked.specs.Growths.{IsGrowing, IsAsked}
use Rattle.q_blocked.proofs.SetGrowth.{growing-staged}
use Rattle.q_blocked.proofs.cover.end_stage.Goals as goal

pub returns-in_ok-note-clause-growing : goal.returns-in_ok-note-clause-growing
returns-in_ok-note-clause-growing c k id (C, e, g, a) =
    let old = c.args.growth.now in
    let new = c.note.new.self in
    let X = others id (slots k) in
    let asked : new.asked.items ≡ old.asked.items = ap (λ v. v.items) c.in_ok-note.ensures.asked in (
      C,
      e,
      subst (λ (S : Clause). IsGrowing k.prefix X C S new.plan.stages.items new.base new.worked) (sym c.in_ok-note.ensures.set)
          (subst (λ (ss : List Stage). IsGrowing k.prefix X C old.set ss new.base new.worked) (sym c.in_ok-note.ensures.stages)
          (subst (λ (n : ℕ). IsGrowing k.prefix X C old.set (old.plan.stages.items ++ record { to = length old.set; on = None } ∷ []) n new.worked) (sym c.in_ok-note.ensures.base)
          (subst (λ (n : ℕ). IsGrowing k.prefix X C old.set (old.plan.stages.items ++ record { to = length old.set; on = None } ∷ []) (length old.set) n) (sym c.in_ok-note.ensures.worked)
          (growing-staged k.prefix X C old.set old.plan.stages.items old.base old.worked g)))),
      subst (λ (S : Clause). IsAsked X S new.asked.items) (sym c.in_ok-note.ensures.set) (subst (λ (xs : List ℕ). IsAsked X old.set xs) (sym asked) a),
    )
