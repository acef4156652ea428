use Rattle.std.proofs.Common.{◌≡◌, ◌∙◌, true, false, sym, ap, subst, true≢false, Bool, ℕ}
use Rattle.q_logic.specs.declared.rule_bounds.Bounds.{Bounds}
use Rattle.q_logic.specs.Prelude.{Literal, is_bound, Fits}
use Rattle.q_logic.specs.Targets as theory
use Rattle.q_kernel.specs.Prelude.{Seen, slots, formula_in}
use Rattle.q_kernel.proofs.TextCosts.{proper-var}
use Rattle.q_reduce.specs.declared.target.Target.{Target}
use Rattle.q_reduce.specs.declared.target.Target.TheVariants.{Tautology, Unit, Cut, Pure}
use Rattle.q_reduce.specs.Targets.{target_of}
use Rattle.q_reduce.specs.Searches.{IsOfVariable}
use Rattle.q_rule.proofs.RuleSearch.{found-one, found-none}
use Rattle.q_reduce.proofs.find.find_pure.Goals as goal

pub returns-then-not-contains-clause-found : goal.returns-then-not-contains-clause-found
returns-then-not-contains-clause-found c =
    let k = c.args.kernel.now in
    let e : is_bound k.prefix c.args.var ≡ false = sym (rw c.prefix.ensures at c.contains.ensures) ∙ c.if-not-contains.true in
    found-none target_of k (IsOfVariable c.args.var) (absent k c.args.var e)
  where
    absent : (k : Seen) (v : ℕ) → is_bound k.prefix v ≡ false → (t : Target) → IsOfVariable v t → (B : Bounds) → Fits B k.prefix (slots k) (target_of t) → ⊥
    absent k v e (Tautology d) q B f = q
    absent k v e (Unit d) q B f = q
    absent k v e (Cut d l) q B f = q
    absent k v e (Pure l) q B f = true≢false (sym f.0 ∙ (ap (is_bound k.prefix) q ∙ e))

pub new-requires-clause-positive : goal.new-requires-clause-positive
new-requires-clause-positive c =
    let k = c.args.kernel.now in
    let e : is_bound k.prefix c.args.var ≡ true = sym (rw c.prefix.ensures at c.contains.ensures) ∙ c.if-not-contains.false in
    (proper-var (formula_in k) c.args.var c.sound.ensures.proper e).0

pub new-requires-clause-small : goal.new-requires-clause-small
new-requires-clause-small c =
    let k = c.args.kernel.now in
    let e : is_bound k.prefix c.args.var ≡ true = sym (rw c.prefix.ensures at c.contains.ensures) ∙ c.if-not-contains.false in
    (proper-var (formula_in k) c.args.var c.sound.ensures.proper e).1

pub returns-then-branch-clause-found : goal.returns-then-branch-clause-found
returns-then-branch-clause-found c =
    let k = c.args.kernel.now in
    found-one target_of k (IsOfVariable c.args.var) (Pure c.new.result) (ap (λ (l : Literal). l.var) c.new.ensures) (λ B. (c.in_ok-fits.ensures.fits B).0 c.if-branch.true)

pub returns-then-branch-2-clause-found : goal.returns-then-branch-2-clause-found
returns-then-branch-2-clause-found c =
    let k = c.args.kernel.now in
    found-one target_of k (IsOfVariable c.args.var) (Pure c.new-2.result) (ap (λ (l : Literal). l.var) c.new-2.ensures) (λ B. (c.in_ok-fits-2.ensures.fits B).0 c.if-branch-2.true)

pub returns-clause-found : goal.returns-clause-found
returns-clause-found c =
    let k = c.args.kernel.now in
    found-none target_of k (IsOfVariable c.args.var) (neither k c.args.var
    (λ B f. let g = subst (λ (l : Literal). Fits B k.prefix (slots k) (theory.pure l)) (sym c.new.ensures) f in true≢false (sym ((c.in_ok-fits.ensures.fits B).1 g) ∙ c.if-branch.false))
    (λ B f. let g = subst (λ (l : Literal). Fits B k.prefix (slots k) (theory.pure l)) (sym c.new-2.ensures) f in true≢false (sym ((c.in_ok-fits-2.ensures.fits B).1 g) ∙ c.if-branch-2.false)))
  where
    neither : (k : Seen) (v : ℕ) → ((B : Bounds) → Fits B k.prefix (slots k) (theory.pure (record { var = v; negative = false })) → ⊥) → ((B : Bounds) → Fits B k.prefix (slots k) (theory.pure (record { var = v; negative = true })) → ⊥) → (t : Target) → IsOfVariable v t → (B : Bounds) → Fits B k.prefix (slots k) (target_of t) → ⊥
    neither k v p n (Tautology d) q B f = q
    neither k v p n (Unit d) q B f = q
    neither k v p n (Cut d l) q B f = q
    neither k v p n (Pure l) q B f = go l.negative l.var q f
      where
        go : (b : Bool) (w : ℕ) → w ≡ v → Fits B k.prefix (slots k) (theory.pure (record { var = w; negative = b })) → ⊥
        go true w e g = n B (subst (λ (x : ℕ). Fits B k.prefix (slots k) (theory.pure (record { var = x; negative = true }))) e g)
        go false w e g = p B (subst (λ (x : ℕ). Fits B k.prefix (slots k) (theory.pure (record { var = x; negative = false }))) e g)
