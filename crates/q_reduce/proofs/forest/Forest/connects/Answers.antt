use Rattle.std.proofs.Common.{List, ℕ, get_or, subst}
use Rattle.q_logic.specs.Prelude.{IsIn}
use Rattle.q_logic.proofs.Common.{get_or-IsIn}
use Rattle.q_reduce.proofs.forest.Forest.connects.Goals as goal

pub returns-then-leads_to_any : goal.returns-then-leads_to_any
returns-then-leads_to_any c t =
    let r = c.leads_to_any.ensures c.if-leads_to_any.true in (
      get_or c.deref-from-items.result.now c.loop-from.from-index 0,
      r.0,
      subst (λ (xs : List ℕ). IsIn (get_or c.deref-from-items.result.now c.loop-from.from-index 0) xs) c.deref-from-items.ensures.value (get_or-IsIn c.deref-from-items.result.now c.loop-from.from-index 0 c.loop-from-test.true),
      subst (λ (xs : List ℕ). IsIn r.0 xs) c.deref.ensures.value r.1,
      r.2,
    )
