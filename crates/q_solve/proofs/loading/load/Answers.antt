use Rattle.std.proofs.Common.{◌≡◌, ◌<◌, ◌+◌, ℕ, true, [], eqb, length, ap, ◌∙◌, subst, arith}
use Rattle.q_logic.specs.Prelude.{Literal, Prefix, is_bound, nothing}
use Rattle.q_logic.specs.Decisions.{standing}
use Rattle.q_search.specs.Paths.{along, rest_of}
use Rattle.q_solve.specs.Counting.{if_so, count_of, times, times_in}
use Rattle.q_solve.specs.Counted.{row_of}
use Rattle.q_solve.proofs.EnteredClauses.{loaded-more}
use Rattle.q_solve.proofs.loading.load.Goals as goal

pub loop-i-preserved : goal.loop-i-preserved
loop-i-preserved c =
    let F = c.args.formula.now in
    let C = c.clause-clause.result.now in
    let p : c.prefix-prefix.result.now ≡ F.prefix = c.prefix-prefix.ensures.value in
    let s : length C < 18446744073709551616 = omega arith in
    loaded-more F c.loop-i.sides c.enter.new.sides c.loop-i.counts c.push.new.self c.loop-i.i C c.count_clause.result c.loop-i.invariant c.clause-clause.ensures.value s
    (c.count_clause.ensures ∙ ap (λ (P : Prefix). count_of (standing (rest_of P []) (along P [] nothing)) C) p)
    c.in_ok-push.ensures
    (subst (λ (P : Prefix). (k : Literal) → is_bound P k.var ≡ true → (i : ℕ) → times i (row_of P c.enter.new.sides k) ≡ times i (row_of P c.loop-i.sides k) + if_so (eqb c.loop-i.i i) (times_in k C)) p c.in_ok-enter.ensures)
