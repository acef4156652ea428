use Rattle.std.proofs.Common.{rules, ◌≡◌, ◌≤◌, ◌+◌, arith, sym, ap, true≢false}
use Rattle.q_logic.specs.declared.limits.Limits.{Limits}
use Rattle.q_logic.specs.Prelude.{live}
use Rattle.q_kernel.specs.Prelude.{slots}
use Rattle.q_kernel.proofs.SlotLists.{size-parts}
use Rattle.q_expand.proofs.ConnectedWalks.{size-room, others-room}
use Rattle.q_expand.proofs.AllDependents.{limits-hold, limits-told}
use Rattle.q_expand.proofs.expand.keeps_limits.Goals as goal

pub returns-then-greatest_var-count : goal.returns-then-greatest_var-count
returns-then-greatest_var-count c =
    let k = c.args.kernel.now in
    let v : c.standard-limits.result.vars ≡ 16777215 = ap (λ (m : Limits). m.vars) c.standard-limits.ensures in
    ((λ t. absurd (true≢false (sym t))), (λ h. absurd (let i = (limits-told k c.args.u.var c.args.dependents.now c.sound.ensures c.requires.whole h).0 in omega (arith, i, v, c.greatest_var.ensures, c.count.ensures, c.if-greatest_var-count.true))))

pub overflow_add-clauses : goal.overflow_add-clauses
overflow_add-clauses c =
    let k = c.args.kernel.now in
    let a = others-room k c.args.u.var c.args.dependents.now c.requires.whole.dependents in
    let b = size-parts (live (slots k)) in
    omega (arith, a, b, c.sound.ensures.size, c.clauses.ensures, c.others.ensures)

pub returns-then-clauses-limits : goal.returns-then-clauses-limits
returns-then-clauses-limits c =
    let k = c.args.kernel.now in
    let v : c.standard-limits.result.clauses ≡ 33554432 = ap (λ (m : Limits). m.clauses) c.standard-limits.ensures in
    ((λ t. absurd (true≢false (sym t))), (λ h. absurd (let i = (limits-told k c.args.u.var c.args.dependents.now c.sound.ensures c.requires.whole h).1 in omega (arith, i, v, c.clauses.ensures, c.others.ensures, c.if-clauses-limits.true))))

pub overflow_add-lits : goal.overflow_add-lits
overflow_add-lits c =
    let k = c.args.kernel.now in
    let a = size-room k c.args.u.var c.args.dependents.now c.requires.whole.dependents in
    omega (arith, a, c.sound.ensures.size, c.size.ensures, c.size-2.ensures)

pub returns : goal.returns
returns c =
    let k = c.args.kernel.now in
    let r = c.args.dependents.now in
    let v : c.standard-limits.result.vars ≡ 16777215 = ap (λ (m : Limits). m.vars) c.standard-limits.ensures in
    let w : c.standard-limits.result.clauses ≡ 33554432 = ap (λ (m : Limits). m.clauses) c.standard-limits.ensures in
    let x : c.standard-limits.result.lits ≡ 134217728 = ap (λ (m : Limits). m.lits) c.standard-limits.ensures in (
      (λ t.
          let i : c.size.result + c.size-2.result ≤ c.standard-limits.result.lits + (c.clauses.result + c.others.result) + c.args.own = search rules in
          limits-hold k c.args.u.var r c.sound.ensures c.requires.whole
          (omega (arith, v, c.greatest_var.ensures, c.count.ensures, c.if-greatest_var-count.false))
          (omega (arith, w, c.clauses.ensures, c.others.ensures, c.if-clauses-limits.false))
          (omega (arith, x, i, c.clauses.ensures, c.others.ensures, c.size.ensures, c.size-2.ensures, c.requires.own))),
      (λ h. let i = (limits-told k c.args.u.var r c.sound.ensures c.requires.whole h).2 in
          let j : c.size.result + c.size-2.result ≤ c.standard-limits.result.lits + (c.clauses.result + c.others.result) + c.args.own = omega (arith, x, i, c.clauses.ensures, c.others.ensures, c.size.ensures, c.size-2.ensures, c.requires.own) in
          search rules),
    )
