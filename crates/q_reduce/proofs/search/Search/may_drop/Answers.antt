use Rattle.std.proofs.Common.{List, ◌∙◌, sym, refl, subst, true≢false}
use Rattle.std.proofs.lemmas.Option.{same_Some}
use Rattle.q_logic.specs.Prelude.{Clause, IsIn}
use Rattle.q_logic.proofs.Common.{universal-is_bound}
use Rattle.q_kernel.specs.Prelude.{slots}
use Rattle.q_reduce.specs.Forests.{ForestMap, AreForestsOf}
use Rattle.q_reduce.proofs.AbsentNegation.{absent-reducible}
use Rattle.q_reduce.proofs.ForestPaths.{leads-stays}
use Rattle.q_reduce.proofs.search.Search.may_drop.Goals as goal

pub returns-then-count-eq0-clause-yes : goal.returns-then-count-eq0-clause-yes
returns-then-count-eq0-clause-yes c C e =
    let k = c.args.kernel.now in
    let q = same_Some c.requires.live.0 C (sym c.requires.live.1 ∙ e) in
    let m : IsIn c.args.lit C = subst (λ (x : Clause). IsIn c.args.lit x) q c.requires.live.2 in
    let none = rw c.negated.ensures at c.count.ensures.none in
    ((λ t. absent-reducible k.prefix (slots k) c.args.c C c.args.lit e c.requires.universal m (none c.if-count-eq0.true)), (λ r. refl))

pub keep-requires-clause-bound : goal.keep-requires-clause-bound
keep-requires-clause-bound c = universal-is_bound c.args.kernel.now.prefix c.args.lit.var c.requires.universal

pub learn-requires-clause-bound : goal.learn-requires-clause-bound
learn-requires-clause-bound c = rw c.var.ensures.value (universal-is_bound c.args.kernel.now.prefix c.args.lit.var c.requires.universal)

pub note-requires-clause-bound : goal.note-requires-clause-bound
note-requires-clause-bound c = rw c.var-else-reducible.ensures.value (universal-is_bound c.args.kernel.now.prefix c.args.lit.var c.requires.universal)

pub keep-requires-clause-right : goal.keep-requires-clause-right
keep-requires-clause-right c = let fit = rw (← c.self.view_is) at c.requires.fit in fit.forests

pub returns-then-branch-clause-yes : goal.returns-then-branch-clause-yes
returns-then-branch-clause-yes c C e =
    let k = c.args.kernel.now in
    let h = c.requires.live in (
      (λ t. absurd (true≢false (sym t))),
      (λ r. absurd (leads-stays k.prefix (slots k) c.args.lit c.args.c (h.0, h.1, h.2, c.requires.universal) (c.in_ok-keep.ensures.leads c.if-branch.true) C e r)),
    )

pub note-requires-clause-right : goal.note-requires-clause-right
note-requires-clause-right c =
    let fit = rw (← c.self.view_is) at c.requires.fit in
    subst (λ (Fs : List ForestMap). AreForestsOf c.args.kernel.now Fs) (sym (c.adapt.ensures ∙ c.keep.ensures.same)) fit.forests

pub returns-in_err-learn-clause-fit : goal.returns-in_err-learn-clause-fit
returns-in_err-learn-clause-fit c =
    let fit = rw (← c.self.view_is) at c.requires.fit in
    record { regions = c.learn.ensures; forests = subst (λ (Fs : List ForestMap). AreForestsOf c.args.kernel.now Fs) (sym (c.adapt.ensures ∙ c.keep.ensures.same)) fit.forests }

pub returns-in_ok-learn-clause-fit : goal.returns-in_ok-learn-clause-fit
returns-in_ok-learn-clause-fit c =
    let fit = rw (← c.self.view_is) at c.requires.fit in
    record { regions = c.learn.ensures; forests = subst (λ (Fs : List ForestMap). AreForestsOf c.args.kernel.now Fs) (sym (c.adapt.ensures ∙ c.keep.ensures.same)) fit.forests }
