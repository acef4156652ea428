use Rattle.std.proofs.Common.{◌≡◌, ◌≤◌, length, arith, sym, subst, ◌∙◌, true≢false}
use Rattle.q_logic.specs.Prelude.{Literal, live, clauses_of}
use Rattle.q_logic.proofs.Common.{universal-is_bound}
use Rattle.q_kernel.specs.Prelude.{slots, formula_in}
use Rattle.q_kernel.proofs.TextCosts.{proper-var}
use Rattle.q_expand.specs.Dependents.{IsWhole}
use Rattle.q_expand.proofs.AllDependents.{whole-expandable, occurs-own}
use Rattle.q_expand.proofs.expand.fits.Goals as goal

pub new-lit-requires-clause-positive : goal.new-lit-requires-clause-positive
new-lit-requires-clause-positive c = (proper-var (formula_in c.args.kernel.now) c.args.u c.sound.ensures.proper (universal-is_bound c.args.kernel.now.prefix c.args.u (sym c.is_universal.ensures ∙ c.if-not-is_universal.false))).0

pub new-lit-requires-clause-small : goal.new-lit-requires-clause-small
new-lit-requires-clause-small c = let h = (proper-var (formula_in c.args.kernel.now) c.args.u c.sound.ensures.proper (universal-is_bound c.args.kernel.now.prefix c.args.u (sym c.is_universal.ensures ∙ c.if-not-is_universal.false))).1 in omega (arith, h)

pub returns-then-own-eq0-clause-applies : goal.returns-then-own-eq0-clause-applies
returns-then-own-eq0-clause-applies c =
    let k = c.args.kernel.now in
    let n : length (clauses_of c.args.u (live (slots k))) ≡ 0 = sym (subst (λ (l : Literal). c.clauses_with-own.result ≡ length (clauses_of l.var (live (slots k)))) c.new-lit.ensures c.clauses_with-own.ensures.number) ∙ c.if-own-eq0.true in
    ((λ t. absurd (true≢false (sym t))), (λ a. absurd (let o = occurs-own c.args.u (live (slots k)) a.fits.occurs in omega (arith, o, n))))

pub grow-requires-clause-bound : goal.grow-requires-clause-bound
grow-requires-clause-bound c = rw c.new-lit.ensures (universal-is_bound c.args.kernel.now.prefix c.args.u (sym c.is_universal.ensures ∙ c.if-not-is_universal.false))

pub returns-clause-applies : goal.returns-clause-applies
returns-clause-applies c =
    let k = c.args.kernel.now in
    let u = c.args.u in
    let n : c.clauses_with-own.result ≡ length (clauses_of u (live (slots k))) = subst (λ (l : Literal). c.clauses_with-own.result ≡ length (clauses_of l.var (live (slots k)))) c.new-lit.ensures c.clauses_with-own.ensures.number in
    let g = c.in_ok-grow.ensures.whole c.if-not-branch.false in
    let w : IsWhole k u c.grow.new.self = subst (λ (l : Literal). IsWhole k l.var c.grow.new.self) c.new-lit.ensures g.0 in
    let some : 1 ≤ length (clauses_of u (live (slots k))) = omega (arith, n, c.if-own-eq0.false) in
    let l = rw c.new-lit.ensures at c.keeps_limits.ensures in (
      (λ t. record {
        fits = whole-expandable k u c.grow.new.self c.sound.ensures w c.args.bounds.now.expand (sym c.is_universal.ensures ∙ c.if-not-is_universal.false) some g.1.vars (let s = g.1.size in omega (arith, s, n));
        in_limits = l.0 t;
      }),
      (λ a. l.1 a.in_limits),
    )
