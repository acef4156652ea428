use Rattle.std.proofs.Common.{◌≡◌, ◌∙◌, ◌↔◌, List, Bool, true, false, Some, take, slice_get, sym, ap, subst, inl, inr}
use Rattle.std.proofs.lemmas.Option.{same_Some}
use Rattle.std.proofs.lemmas.Result.{IfOk-weaker}
use Rattle.q_logic.specs.Prelude.{Literal, Clause, Matrix, Prefix, IsIn, is_existential, others}
use Rattle.q_logic.specs.Blocking.{AllClash}
use Rattle.q_logic.proofs.CoverRun.{in_or_not}
use Rattle.q_kernel.specs.Prelude.{slots}
use Rattle.q_blocked.specs.Walks.{IsLooked, CoversNothing}
use Rattle.q_blocked.specs.Growths.{IsPassive, CoveredBy, HasCovered, HasLooked}
use Rattle.q_blocked.proofs.ClauseFronts.{place-front}
use Rattle.q_blocked.proofs.ReachedSets.{covered-blocked}
use Rattle.q_blocked.proofs.CoverPass.{covered-looked}
use Rattle.q_blocked.proofs.cover.cover_at.Goals as goal

pub returns-then-not-branch-clause-looked : goal.returns-then-not-branch-clause-looked
returns-then-not-branch-clause-looked c =
    let k = c.args.kernel.now in
    let X = others c.args.c (slots k) in
    let l = c.at-l.result in
    let new = c.end_stage.new.growth in
    let S : Clause = c.args.growth.now.set in
    let r = c.in_ok-end_stage.ensures.growing k c.args.c c.requires.growing in
    let q : new.set ≡ S = c.end_stage.ensures.set in
    let m : IsIn l (take new.base new.set) = place-front new.set c.args.place new.base l (subst (λ (T : Clause). slice_get T c.args.place ≡ Some l) (sym q) c.at-l.ensures) c.in_ok-end_stage.ensures.staged in
    let e : is_existential k.prefix l.var ≡ true = rw c.var.ensures.value at (sym c.is_existential.ensures ∙ c.if-not-is_existential.false) in
    let a : AllClash k.prefix X l S = subst (λ (b : Bool). IsLooked k.prefix X l S c.covered_at.new.found.items b) c.if-not-branch.true c.in_ok-covered_at.ensures in
    (r.0, r.1, covered-blocked k.prefix X r.0 new.set new.plan.stages.items new.base r.2.reached l m e (subst (λ (T : Clause). AllClash k.prefix X l T) (sym q) a))

passive : (P : Prefix) (X : Matrix) (S : Clause) (K : List Literal) (l : Literal) → ((k : Literal) → IsIn k K → ⊥) → IsLooked P X l S K true → IsPassive P X S l
passive P X S K l n h e = (h.0, λ j i. elim (in_or_not j S) [ inl m ↦ m | inr o ↦ absurd (n j ((h.1 j).1 (i, o))) ])

pub returns-then-is_bare-clause-looked : goal.returns-then-is_bare-clause-looked
returns-then-is_bare-clause-looked c =
    let k = c.args.kernel.now in
    let X = others c.args.c (slots k) in
    let S : Clause = c.args.growth.now.set in
    let K : List Literal = c.covered_at.new.found.items in
    let n : (j : Literal) → IsIn j K → ⊥ = λ j m. c.is_bare.ensures.none c.if-is_bare.true j (subst (λ (L : List Literal). IsIn j L) (sym c.deref.ensures.value) m) in
    let h : IsLooked k.prefix X c.at-l.result S K true = subst (λ (b : Bool). IsLooked k.prefix X c.at-l.result S K b) c.if-not-branch.false c.in_ok-covered_at.ensures in (
      c.requires.growing,
      Rattle.std.proofs.Common.refl,
      Rattle.std.proofs.Common.refl,
      λ l e. subst (λ (j : Literal). IsPassive k.prefix X S j) (same_Some c.at-l.result l (sym c.at-l.ensures ∙ e)) (passive k.prefix X S K c.at-l.result n h),
      Rattle.std.proofs.Common.refl,
    )

pub returns-then-covers_nothing-clause-looked : goal.returns-then-covers_nothing-clause-looked
returns-then-covers_nothing-clause-looked c =
    let k = c.args.kernel.now in
    let X = others c.args.c (slots k) in
    let S : Clause = c.args.growth.now.set in
    let h : CoversNothing k.prefix X c.at-l.result S = c.covers_nothing.ensures.nothing c.if-covers_nothing.true in (
      c.requires.growing,
      Rattle.std.proofs.Common.refl,
      Rattle.std.proofs.Common.refl,
      λ l e. subst (λ (j : Literal). IsPassive k.prefix X S j) (same_Some c.at-l.result l (sym c.at-l.ensures ∙ e)) (λ x. h),
      Rattle.std.proofs.Common.refl,
    )

pub cover_by-requires-clause-found : goal.cover_by-requires-clause-found
cover_by-requires-clause-found c l e =
    let k = c.args.kernel.now in
    let X = others c.args.c (slots k) in
    let S : Clause = c.args.growth.now.set in
    let K : List Literal = c.covered_at.new.found.items in
    let new = c.end_stage-2.new.growth in
    let q : new.set ≡ S = c.end_stage-2.ensures.set in
    let f : new.found.items ≡ K = ap (λ v. v.items) c.end_stage-2.ensures.found in
    let i : c.at-l.result ≡ l = same_Some c.at-l.result l (sym c.at-l.ensures ∙ subst (λ (T : Clause). slice_get T c.args.place ≡ Some l) q e) in
    let x : is_existential k.prefix c.at-l.result.var ≡ true = rw c.var.ensures.value at (sym c.is_existential.ensures ∙ c.if-not-is_existential.false) in
    let h : IsLooked k.prefix X c.at-l.result S K true = subst (λ (b : Bool). IsLooked k.prefix X c.at-l.result S K b) c.if-not-branch.false c.in_ok-covered_at.ensures in
    let s = c.is_bare.ensures.some c.if-is_bare.false in
    let r : CoveredBy k.prefix X S K c.at-l.result = record { existential = x; some = (s.0, subst (λ (L : List Literal). IsIn s.0 L) c.deref.ensures.value s.1); looked = h } in
    subst (λ (T : Clause). CoveredBy k.prefix X T new.found.items l) (sym q)
    (subst (λ (L : List Literal). CoveredBy k.prefix X S L l) (sym f)
    (subst (λ (j : Literal). CoveredBy k.prefix X S K j) i r))

pub returns-clause-looked : goal.returns-clause-looked
returns-clause-looked c =
    let k = c.args.kernel.now in
    let old = c.args.growth.now in
    let mid = c.end_stage-2.new.growth in
    let new = c.cover_by.new.growth in
    let Q : Literal → Type 0 = λ l. slice_get old.set c.args.place ≡ Some l in
    IfOk-weaker c.cover_by.result (HasCovered k c.args.c mid new) (HasLooked k c.args.c Q old new) (λ o h. covered-looked k c.args.c Q old mid new o c.end_stage-2.ensures.set c.end_stage-2.ensures.worked h) c.cover_by.ensures
