-- Sweeping twice is sweeping once; results are formulas within the limits; what is settled at once.
use Rattle.std.proofs.Common.{◌≡◌, ◌≤◌, ℕ, zero, suc, Bool, true, false, cond, List, [], ◌∷◌, inl, inr, arith, refl, ap, sym, subst, Some, None, length, ◌*◌}
use Rattle.q_logic.specs.declared.limits.Limits.{Limits}
use Rattle.q_logic.specs.declared.rule_bounds.Bounds.{Bounds}
use Rattle.q_logic.specs.Prelude.{Clause, Matrix, Prefix, IsIn, PrenexFormula, is_bound, Distinct, IsFormula, ProofStep, after, Run, standard, IsInLimits, greatest, larger_of, formula_of, Slots, slot, live, others, Target, swept, has_empty, occurring, occurs, Applicable, change, result_of}
use Rattle.q_logic.specs.Settled.{Settled}
use Rattle.q_logic.proofs.Soundness.{after-formula}
use Rattle.q_logic.proofs.JustifiedRuns.{Reaches, IsIn-alike, alike-sym}
use Rattle.q_logic.proofs.NumberedClauses.{live-slot, others-live}
use Rattle.q_logic.proofs.Heights.{Way, modest-more, way-run}
use Rattle.q_logic.proofs.SweepRun.{sweep-way}
use Rattle.q_logic.proofs.TargetRuns.{target-way}
use Rattle.q_logic.proofs.LawsOf.{laws_of}

pub reaches-formula : (F : PrenexFormula) (ss : List ProofStep) (G : PrenexFormula) → IsFormula F → Reaches F ss G → IsFormula G
reaches-formula F [] G f r = record {
  distinct = subst Distinct r.0 f.distinct;
  closed = λ D m k i. subst (λ P. is_bound P k.var ≡ true) r.0 (f.closed D (IsIn-alike G.matrix F.matrix (alike-sym F.matrix G.matrix r.1) D m) k i);
}
reaches-formula F (s ∷ ss) G f r = reaches-formula (after F s) ss G (after-formula F s f r.0) r.1

occurring-twice : (P : Prefix) (X : Matrix) → occurring (occurring P X) X ≡ occurring P X
occurring-twice [] X = refl
occurring-twice (b ∷ P) X = go (occurs b.var X) refl (occurring-twice P X)
  where
    go : (c : Bool) → occurs b.var X ≡ c → occurring (occurring P X) X ≡ occurring P X → occurring (cond c (b ∷ occurring P X) (occurring P X)) X ≡ cond c (b ∷ occurring P X) (occurring P X)
    go true p i = rw p (ap (λ Q. b ∷ Q) i)
    go false p i = i

pub sweep-twice : (F : PrenexFormula) → swept (swept F) ≡ swept F
sweep-twice F = go (has_empty F.matrix) refl
  where
    go : (b : Bool) → has_empty F.matrix ≡ b → swept (cond b (formula_of [] ([] ∷ [])) (formula_of (occurring F.prefix F.matrix) F.matrix)) ≡ cond b (formula_of [] ([] ∷ [])) (formula_of (occurring F.prefix F.matrix) F.matrix)
    go true q = refl
    go false q = rw q (ap (λ P. formula_of P F.matrix) (occurring-twice F.prefix F.matrix))

-- Sweeping is a run.
pub sweep-run : (F : PrenexFormula) → IsFormula F → IsInLimits standard F → (ss : List ProofStep) × Run F ss (swept F)
sweep-run F f l = way-run F (swept F) f l.clauses l.lits (large (sweep-way F.prefix F.matrix f.distinct))
  where
    large : Way 0 0 F (swept F) → Way (3 * standard.clauses) (3 * standard.lits) F (swept F)
    large (ss, r, m) = (ss, r, modest-more 0 0 (3 * standard.clauses) (3 * standard.lits) ss (omega arith) (omega arith) m)

-- Sweeping keeps the limits.
occurring-smaller : (P : Prefix) (X : Matrix) → greatest (occurring P X) ≤ greatest P
occurring-smaller [] X = omega arith
occurring-smaller (b ∷ P) X = go (occurs b.var X) (occurring-smaller P X)
  where
    go : (o : Bool) → greatest (occurring P X) ≤ greatest P → greatest (cond o (b ∷ occurring P X) (occurring P X)) ≤ larger_of b.var (greatest P)
    go true i = grind arith
    go false i = grind arith

has_empty-some : (X : Matrix) → has_empty X ≡ true → 1 ≤ length X
has_empty-some [] h = grind arith
has_empty-some (C ∷ X) h = grind arith

pub swept-in_limits : (m : Limits) (F : PrenexFormula) → IsInLimits m F → IsInLimits m (swept F)
swept-in_limits m F l = go (has_empty F.matrix) refl
  where
    most : (a b c : ℕ) → a ≤ b → b ≤ c → a ≤ c
    most a b c i j = omega arith

    go : (b : Bool) → has_empty F.matrix ≡ b → IsInLimits m (cond b (formula_of [] ([] ∷ [])) (formula_of (occurring F.prefix F.matrix) F.matrix))
    go true q = record { vars = omega arith; clauses = most 1 (length F.matrix) m.clauses (has_empty-some F.matrix q) l.clauses; lits = omega arith }
    go false q = record { vars = most (greatest (occurring F.prefix F.matrix)) (greatest F.prefix) m.vars (occurring-smaller F.prefix F.matrix) l.vars; clauses = l.clauses; lits = l.lits }

-- The result of a target is a formula within the limits.
pub result-formula : (B : Bounds) (P : Prefix) (N : Slots) (t : Target) → IsFormula (formula_of P (live N)) → IsInLimits standard (formula_of P (live N)) → Applicable B P N t → IsFormula (result_of P N t) × IsInLimits standard (result_of P N t)
result-formula B P N t f l h = (go (target-way B P N t f l h), swept-in_limits standard (change P N t) h.in_limits)
  where
    go : Way (3 * standard.clauses) (3 * standard.lits) (formula_of P (live N)) (result_of P N t) → IsFormula (result_of P N t)
    go (ss, r, m) = reaches-formula (formula_of P (live N)) ss (result_of P N t) f r

-- Over the empty prefix nothing applies to no clauses, nor to one empty clause.
pub settled-nothing : (B : Bounds) (N : Slots) → live N ≡ [] → Settled B [] N
settled-nothing B N e = (subst (λ X. swept (formula_of [] X) ≡ formula_of [] X) (sym e) refl, λ t h. (laws_of t).nothing B N (λ C m. absurd (none C m)) (λ c C D s m. none D (others-live N c D m)) h.fits)
  where
    none : (C : Clause) → IsIn C (live N) → ⊥
    none C m = elim (subst (IsIn C) e m) [ ]

one-alone : (N : Slots) (c : ℕ) (C D : Clause) → length (live N) ≤ 1 → slot N c ≡ Some C → IsIn D (others c N) → ⊥
one-alone [] c C D l s m = elim m [ ]
one-alone (None ∷ N) zero C D l s m = no s
  where
    no : None ≡ Some C → ⊥
    no e = grind arith
one-alone (Some E ∷ N) zero C D l s m = short (live N) l m
  where
    short : (X : Matrix) → length (E ∷ X) ≤ 1 → IsIn D X → ⊥
    short [] l m = elim m [ ]
    short (F ∷ X) l m = grind arith
one-alone (None ∷ N) (suc c) C D l s m = one-alone N c C D l s m
one-alone (Some E ∷ N) (suc c) C D l s m = short (live N) l (live-slot N c C s)
  where
    short : (X : Matrix) → length (E ∷ X) ≤ 1 → IsIn C X → ⊥
    short [] l m = elim m [ ]
    short (F ∷ X) l m = grind arith

pub settled-falsity : (B : Bounds) (N : Slots) → live N ≡ [] ∷ [] → Settled B [] N
settled-falsity B N e = (subst (λ X. swept (formula_of [] X) ≡ formula_of [] X) (sym e) refl, λ t h. (laws_of t).nothing B N only (λ c C D s m. one-alone N c C D (subst (λ X. length X ≤ 1) (sym e) (omega arith)) s m) h.fits)
  where
    only : (C : Clause) → IsIn C (live N) → C ≡ []
    only C m = elim (subst (IsIn C) e m) [ inl i ↦ i | inr i ↦ elim i [ ] ]
