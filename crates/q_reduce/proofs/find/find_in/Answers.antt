use Rattle.std.proofs.Common.{◌≡◌, ◌∙◌, ◌∷◌, [], ℕ, sym, refl, subst, true≢false, Some, None, Option}
use Rattle.q_logic.specs.declared.rule_bounds.Bounds.{Bounds}
use Rattle.q_logic.specs.Prelude.{Clause, slot, Fits}
use Rattle.q_logic.specs.Targets as theory
use Rattle.q_kernel.specs.Prelude.{Seen, slots}
use Rattle.q_reduce.specs.declared.target.Target.{Target}
use Rattle.q_reduce.specs.declared.target.Target.TheVariants.{Tautology, Unit, Cut, Pure}
use Rattle.q_reduce.specs.Targets.{target_of}
use Rattle.q_rule.specs.Searching.{IsFound}
use Rattle.q_reduce.specs.Searches.{IsOfClause, IsCutOf}
use Rattle.q_logic.proofs.Common.{test-false}
use Rattle.q_rule.proofs.RuleSearch.{found-one, found-none}
use Rattle.q_reduce.proofs.find.find_in.Goals as goal

stale : (k : Seen) (c : ℕ) → (((C : Clause) × (slot (slots k) c ≡ Some C)) → ⊥) → (t : Target) → IsOfClause c t → (B : Bounds) → Fits B k.prefix (slots k) (target_of t) → ⊥
stale k c n (Tautology d) q B f = let g : Fits B k.prefix (slots k) (theory.tautology c) = subst (λ (x : ℕ). Fits B k.prefix (slots k) (theory.tautology x)) q f in n (g.0, g.1)
stale k c n (Unit d) q B f = let g : Fits B k.prefix (slots k) (theory.unit c) = subst (λ (x : ℕ). Fits B k.prefix (slots k) (theory.unit x)) q f in n (g.0 ∷ [], g.1)
stale k c n (Cut d l) q B f = let g : Fits B k.prefix (slots k) (theory.cut c l) = subst (λ (x : ℕ). Fits B k.prefix (slots k) (theory.cut x l)) q f in n (g.0, g.1)
stale k c n (Pure l) q B f = q

pub returns-then-not-live-clause-found : goal.returns-then-not-live-clause-found
returns-then-not-live-clause-found c = found-none target_of c.args.kernel.now (IsOfClause c.args.c) (stale c.args.kernel.now c.args.c (test-false c.live.result c.live.ensures c.if-not-live.true))

pub returns-then-branch-clause-found : goal.returns-then-branch-clause-found
returns-then-branch-clause-found c = found-one target_of c.args.kernel.now (IsOfClause c.args.c) (Tautology c.args.c) refl (λ B. (c.in_ok-fits.ensures.fits B).0 c.if-branch.true)

pub returns-then-branch-2-clause-found : goal.returns-then-branch-2-clause-found
returns-then-branch-2-clause-found c = found-one target_of c.args.kernel.now (IsOfClause c.args.c) (Unit c.args.c) refl (λ B. (c.in_ok-fits-2.ensures.fits B).0 c.if-branch-2.true)

all : (k : Seen) (c : ℕ) (o : Option Target) → ((B : Bounds) → Fits B k.prefix (slots k) (theory.tautology c) → ⊥) → ((B : Bounds) → Fits B k.prefix (slots k) (theory.unit c) → ⊥) → IsFound target_of k (IsCutOf c) o → IsFound target_of k (IsOfClause c) o
all k c o a b h = record {
  some = λ t e. let r = h.some t e in (cut t r.0, r.1);
  none = λ e t q B f. neither e t q B f;
}
  where
    cut : (t : Target) → IsCutOf c t → IsOfClause c t
    cut (Tautology d) q = absurd q
    cut (Unit d) q = absurd q
    cut (Cut d l) q = q
    cut (Pure l) q = absurd q

    neither : o ≡ None → (t : Target) → IsOfClause c t → (B : Bounds) → Fits B k.prefix (slots k) (target_of t) → ⊥
    neither e (Tautology d) q B f = a B (subst (λ (x : ℕ). Fits B k.prefix (slots k) (theory.tautology x)) q f)
    neither e (Unit d) q B f = b B (subst (λ (x : ℕ). Fits B k.prefix (slots k) (theory.unit x)) q f)
    neither e (Cut d l) q B f = h.none e (Cut d l) q B f
    neither e (Pure l) q B f = q

pub returns-clause-found : goal.returns-clause-found
returns-clause-found c = all c.args.kernel.now c.args.c c.in_ok-cut.cut
    (λ B f. true≢false (sym ((c.in_ok-fits.ensures.fits B).1 f) ∙ c.if-branch.false))
    (λ B f. true≢false (sym ((c.in_ok-fits-2.ensures.fits B).1 f) ∙ c.if-branch-2.false))
    c.in_ok-cut.ensures.found
