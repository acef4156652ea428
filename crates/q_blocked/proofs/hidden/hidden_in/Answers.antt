use Rattle.std.proofs.Common.{◌≡◌, ◌↔◌, ◌∙◌, ◌<◌, ◌==◌, true, false, refl, sym, subst, length, arith}
use Rattle.std.proofs.lemmas.Bool.Decides.{nat_tests}
use Rattle.std.proofs.lemmas.Option.{same_Some}
use Rattle.q_logic.specs.Prelude.{Literal, negation, Clause, IsIn}
use Rattle.q_blocked.specs.Walks.{Gives}
use Rattle.q_logic.proofs.Common.{item-in, test-false}
use Rattle.q_blocked.proofs.HiddenLiterals.{gives-only, gives-first, gives_none-another, gives_none-there}
use Rattle.q_blocked.proofs.hidden.hidden_in.Goals as goal

not_empty : (C : Clause) → (length C == 0) ≡ false → 0 < length C
not_empty C e = grind (arith, nat_tests)

pub returns-then-has-clause-none : goal.returns-then-has-clause-none
returns-then-has-clause-none c e =
    let r = c.in-Some.ensures.some c.in-Some.k refl in
    let h : c.has.result ≡ true ↔ IsIn (negation c.in-Some.k) c.args.set.now = rw c.negated.ensures at c.has.ensures in
    gives_none-there c.args.set.now c.args.clause.now c.in-Some.k r.0 r.1 (h.0 c.if-has.true)

pub returns-then-not-others_in-clause-none : goal.returns-then-not-others_in-clause-none
returns-then-not-others_in-clause-none c e =
    let r = c.in-Some.ensures.some c.in-Some.k refl in
    gives_none-another c.args.set.now c.args.clause.now c.in-Some.k r.0 r.1 (test-false c.others_in.result c.others_in.ensures c.if-not-others_in.true)

pub returns-in-Some-clause-some : goal.returns-in-Some-clause-some
returns-in-Some-clause-some c new e =
    let r = c.in-Some.ensures.some c.in-Some.k refl in
    let h : c.has.result ≡ true ↔ IsIn (negation c.in-Some.k) c.args.set.now = rw c.negated.ensures at c.has.ensures in
    let g : Gives c.args.set.now c.args.clause.now (negation c.in-Some.k) = gives-only c.args.set.now c.args.clause.now c.in-Some.k r.0 (c.others_in.ensures.0 c.if-not-others_in.false) (test-false c.has.result h c.if-has.false) in
    subst (λ (x : Literal). Gives c.args.set.now c.args.clause.now x) (sym c.negated-in-Some.ensures ∙ same_Some c.negated-in-Some.result new e) g

pub returns-clause-some : goal.returns-clause-some
returns-clause-some c new e =
    let m = item-in c.args.clause.now 0 c.index-clause-0.result (not_empty c.args.clause.now (sym c.is_empty.ensures ∙ c.if-is_empty.false)) c.index-clause-0.is in
    let g : Gives c.args.set.now c.args.clause.now (negation c.index-clause-0.result) = gives-first c.args.set.now c.args.clause.now c.index-clause-0.result m (c.in_default.ensures.none refl) c.requires in
    subst (λ (x : Literal). Gives c.args.set.now c.args.clause.now x) (sym c.negated-2.ensures ∙ same_Some c.negated-2.result new e) g
