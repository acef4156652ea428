use Rattle.std.proofs.Common.{◌∙◌, true≢false, sym, subst}
use Rattle.std.proofs.lemmas.Option.{same_Some}
use Rattle.q_logic.specs.Prelude.{IsBelow, negation, Clause, Matrix, IsIn, ArePairs, first_of, resolvent}
use Rattle.q_kernel.specs.Prelude.{slots, MayAdd, IsAdded}
use Rattle.q_rule.proofs.RuleSteps.{clause-within}
use Rattle.q_eliminate.specs.Growing.{CanGrow, HasGrown}
use Rattle.q_eliminate.proofs.AddedClauses.{may-come, has-come, come-none, resolvent-ordered, resolvent-within, told-plain, told-tautology}
use Rattle.q_eliminate.proofs.adding.add_one.Goals as goal

pub is_tautology-requires : goal.is_tautology-requires
is_tautology-requires c = subst (λ (U : Clause). ArePairs IsBelow U) (sym (c.deref.ensures.value ∙ c.resolve.ensures.resolvent)) (resolvent-ordered c.args.lit c.lits.result.now c.lits-2.result.now c.lits-2.ensures.ordered)

pub add_implied-requires : goal.add_implied-requires
add_implied-requires c =
    let k = c.args.kernel.now in
    let C = c.lits.result.now in
    let D = c.lits-2.result.now in
    let l = c.args.lit in
    let e = told-plain (slots k) l c.args.c c.args.d C D c.lits.ensures.clause c.lits-2.ensures.clause c.deref.result.now (c.deref.ensures.value ∙ c.resolve.ensures.resolvent) (λ t. true≢false (sym (c.is_tautology.ensures.1 t) ∙ c.if-not-is_tautology.true)) in
    let n : IsIn (negation l) D = subst (λ (X : Clause). IsIn (negation l) X) (same_Some c.requires.other.clause D (sym c.requires.other.there ∙ c.lits-2.ensures.clause)) c.requires.other.held in
    subst (λ (U : Clause). MayAdd k (first_of U) U) (sym (c.deref-then-not-is_tautology.ensures.value ∙ c.resolve.ensures.resolvent))
    (may-come k l c.args.c c.args.d C D c.sound.ensures c.lits.ensures.clause c.lits-2.ensures.clause c.lits-2.ensures.ordered n (subst (λ (V : Matrix). CanGrow k V) e c.requires.room))

pub returns-then-not-is_tautology-clause-grown : goal.returns-then-not-is_tautology-clause-grown
returns-then-not-is_tautology-clause-grown c =
    let k = c.args.kernel.now in
    let n = c.add_implied.new.self in
    let C = c.lits.result.now in
    let D = c.lits-2.result.now in
    let l = c.args.lit in
    let e = told-plain (slots k) l c.args.c c.args.d C D c.lits.ensures.clause c.lits-2.ensures.clause c.deref.result.now (c.deref.ensures.value ∙ c.resolve.ensures.resolvent) (λ t. true≢false (sym (c.is_tautology.ensures.1 t) ∙ c.if-not-is_tautology.true)) in
    let h : IsAdded k n (first_of (resolvent l C D)) (resolvent l C D) c.add_implied.result = subst (λ (U : Clause). IsAdded k n (first_of U) U c.add_implied.result) (c.deref-then-not-is_tautology.ensures.value ∙ c.resolve.ensures.resolvent) c.add_implied.ensures in
    subst (λ (V : Matrix). HasGrown k n V) (sym e)
    (has-come k n (resolvent l C D) c.add_implied.result (resolvent-ordered l C D c.lits-2.ensures.ordered) c.sound.ensures
    (resolvent-within k.prefix l C D (clause-within k c.args.c C c.sound.ensures c.lits.ensures.clause) (clause-within k c.args.d D c.sound.ensures c.lits-2.ensures.clause)) h)

pub returns-else-not-is_tautology-clause-grown : goal.returns-else-not-is_tautology-clause-grown
returns-else-not-is_tautology-clause-grown c =
    let k = c.args.kernel.now in
    subst (λ (V : Matrix). HasGrown k k V)
    (sym (told-tautology (slots k) c.args.lit c.args.c c.args.d c.lits.result.now c.lits-2.result.now c.lits.ensures.clause c.lits-2.ensures.clause c.deref.result.now (c.deref.ensures.value ∙ c.resolve.ensures.resolvent) (c.is_tautology.ensures.0 c.if-not-is_tautology.false)))
    (come-none k)
