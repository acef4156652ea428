-- Sweeping is a run that adds nothing.
use Rattle.std.proofs.Common.{◌≡◌, ℕ, Bool, true, false, cond, eqb, List, [], ◌∷◌, ◌++◌, inl, inr, arith, refl, sym, ap, subst, ◌≤◌, length}
use Rattle.q_logic.specs.declared.formulas.Bound.{Bound}
use Rattle.q_logic.specs.Prelude.{Literal, Clause, Matrix, Prefix, IsIn, PrenexFormula, is_bound, Distinct, ProofStep, remove_variable, removed_from, one_less, formula_of, has_empty, occurring, swept, has_variable, occurs, standard}
use Rattle.q_logic.proofs.JustifiedRuns.{Reaches}
use Rattle.q_logic.proofs.JustifiedRuns.{alike-refl, alike-trans, alike-sym, reaches-alike, reaches-append, one_less-alike}
use Rattle.q_logic.proofs.Heights.{rise, one, FreshUpTo, Modest, Way, modest-append, modest-deletes}
use Rattle.q_logic.proofs.ImpliedClauses.{implied-subsumed}
use Rattle.q_logic.proofs.ChangeRuns.{deletes, least, reaches-deletes}
use Rattle.q_logic.proofs.JustifiedRuns.{alike-append_swap}

has_var-of : (v : ℕ) (C : Clause) (k : Literal) → has_variable v C ≡ false → IsIn k C → eqb k.var v ≡ false
has_var-of v [] k h m = elim m [ ]
has_var-of v (j ∷ C) k h (inl e) = subst (λ y. eqb y.var v ≡ false) (sym e) (grind arith)
has_var-of v (j ∷ C) k h (inr m) = has_var-of v C k (grind arith) m

pub occurs_var-of : (v : ℕ) (X : Matrix) → occurs v X ≡ false → (D : Clause) → IsIn D X → (k : Literal) → IsIn k D → eqb k.var v ≡ false
occurs_var-of v [] h D m k i = elim m [ ]
occurs_var-of v (E ∷ X) h D (inl e) k i = has_var-of v E k (grind arith) (subst (IsIn k) e i)
occurs_var-of v (E ∷ X) h D (inr m) k i = occurs_var-of v X (grind arith) D m k i

-- The variables to remove, and their steps.
abbrev pub idle : Prefix → Matrix → List ℕ
idle [] X = []
idle (b ∷ P) X = idle P X ++ cond (occurs b.var X) [] (b.var ∷ [])

abbrev pub removes : List ℕ → List ProofStep
removes [] = []
removes (v ∷ vs) = remove_variable v ∷ removes vs

removes-append : (vs ws : List ℕ) → removes (vs ++ ws) ≡ removes vs ++ removes ws
removes-append [] ws = refl
removes-append (v ∷ vs) ws = ap (λ ss. remove_variable v ∷ ss) (removes-append vs ws)

abbrev Apart : ℕ → List ℕ → Type 0
Apart v [] = Unit {0}
Apart v (w ∷ ws) = (eqb v w ≡ false) × Apart v ws

under : (b : Bound) (P Q : Prefix) (X : Matrix) (vs : List ℕ) → Apart b.var vs → Reaches (formula_of P X) (removes vs) (formula_of Q X) → Reaches (formula_of (b ∷ P) X) (removes vs) (formula_of (b ∷ Q) X)
under b P Q X [] a r = (ap (λ R. b ∷ R) r.0, r.1)
under b P Q X (v ∷ vs) a r =
    let n : eqb b.var v ≡ false = a.0 in
    let e : b ∷ removed_from v P ≡ removed_from v (b ∷ P) = rw n refl in
    ((rw n r.0.0, r.0.1), subst (λ R. Reaches (formula_of R X) (removes vs) (formula_of (b ∷ Q) X)) e (under b (removed_from v P) Q X vs a.1 r.1))

Apart-append : (v : ℕ) (vs ws : List ℕ) → Apart v vs → Apart v ws → Apart v (vs ++ ws)
Apart-append v [] ws a b = b
Apart-append v (w ∷ vs) ws a b = (a.0, Apart-append v vs ws a.1 b)

idle-apart : (v : ℕ) (P : Prefix) (X : Matrix) → is_bound P v ≡ false → Apart v (idle P X)
idle-apart v [] X n = tt
idle-apart v (b ∷ P) X n = Apart-append v (idle P X) (cond (occurs b.var X) [] (b.var ∷ [])) (idle-apart v P X (grind arith)) (go (occurs b.var X))
  where
    other : eqb v b.var ≡ false
    other = grind arith

    go : (o : Bool) → Apart v (cond o [] (b.var ∷ []))
    go true = tt
    go false = (other, tt)

pub reaches-removes : (P : Prefix) (X : Matrix) → Distinct P → Reaches (formula_of P X) (removes (idle P X)) (formula_of (occurring P X) X)
reaches-removes [] X d = (refl, alike-refl X)
reaches-removes (b ∷ P) X d = subst (λ ss. Reaches (formula_of (b ∷ P) X) ss (formula_of (occurring (b ∷ P) X) X)) (sym (removes-append (idle P X) (cond (occurs b.var X) [] (b.var ∷ []))))
    (reaches-append (formula_of (b ∷ P) X) (removes (idle P X)) (removes (cond (occurs b.var X) [] (b.var ∷ []))) (formula_of (b ∷ occurring P X) X) (formula_of (occurring (b ∷ P) X) X)
    (under b P (occurring P X) X (idle P X) (idle-apart b.var P X d.0) (reaches-removes P X d.1))
    (last (occurs b.var X) refl))
  where
    last : (o : Bool) → occurs b.var X ≡ o → Reaches (formula_of (b ∷ occurring P X) X) (removes (cond o [] (b.var ∷ []))) (formula_of (cond o (b ∷ occurring P X) (occurring P X)) X)
    last true q = (refl, alike-refl X)
    last false q = let e : eqb b.var b.var ≡ true = grind arith in ((rw e refl, occurs_var-of b.var X q), (rw e refl, alike-refl X))

pub has_empty-IsIn : (X : Matrix) → has_empty X ≡ true → IsIn [] X
has_empty-IsIn [] h = grind arith
has_empty-IsIn ([] ∷ X) h = inl refl
has_empty-IsIn ((k ∷ C) ∷ X) h = inr (has_empty-IsIn X h)

pub occurring-none : (P : Prefix) → occurring P ([] ∷ []) ≡ []
occurring-none [] = refl
occurring-none (b ∷ P) = occurring-none P

abbrev pub sweep_steps : PrenexFormula → List ProofStep
sweep_steps F = cond (has_empty F.matrix) (deletes least (one_less [] F.matrix) ++ removes (idle F.prefix ([] ∷ []))) (removes (idle F.prefix F.matrix))

pub reaches-sweep : (P : Prefix) (X : Matrix) → Distinct P → Reaches (formula_of P X) (sweep_steps (formula_of P X)) (swept (formula_of P X))
reaches-sweep P X d = go (has_empty X) refl
  where
    R : Matrix
    R = one_less [] X

    empty_alone : IsIn [] X → Reaches (formula_of P X) (deletes least R) (formula_of P ([] ∷ []))
    empty_alone m = reaches-alike P (R ++ ([] ∷ [])) X (deletes least R) (formula_of P ([] ∷ []))
        (alike-trans (R ++ ([] ∷ [])) ([] ∷ R) X (alike-append_swap R ([] ∷ [])) (alike-sym X ([] ∷ R) (one_less-alike [] X m)))
        (reaches-deletes P least R ([] ∷ []) (λ C i Z f g. inl (implied-subsumed Z [] C (f [] (inl refl)) (λ k n. elim n [ ]))))

    go : (b : Bool) → has_empty X ≡ b → Reaches (formula_of P X) (cond b (deletes least R ++ removes (idle P ([] ∷ []))) (removes (idle P X))) (cond b (formula_of [] ([] ∷ [])) (formula_of (occurring P X) X))
    go true q = reaches-append (formula_of P X) (deletes least R) (removes (idle P ([] ∷ []))) (formula_of P ([] ∷ [])) (formula_of [] ([] ∷ [])) (empty_alone (has_empty-IsIn X q))
        (subst (λ Q. Reaches (formula_of P ([] ∷ [])) (removes (idle P ([] ∷ []))) (formula_of Q ([] ∷ []))) (occurring-none P) (reaches-removes P ([] ∷ []) d))
    go false q = reaches-removes P X d

-- Sweeping adds nothing.
removes-rise : (w : Clause → ℕ) (vs : List ℕ) → rise w (removes vs) ≤ 0
removes-rise w [] = omega arith
removes-rise w (v ∷ vs) = removes-rise w vs

removes-fresh : (m : ℕ) (vs : List ℕ) → FreshUpTo m (removes vs)
removes-fresh m [] = tt
removes-fresh m (v ∷ vs) = removes-fresh m vs

removes-modest : (vs : List ℕ) → Modest 0 0 (removes vs)
removes-modest vs = record { clauses = removes-rise one vs; lits = removes-rise length vs; variables = removes-fresh standard.vars vs }

pub sweep-modest : (F : PrenexFormula) → Modest 0 0 (sweep_steps F)
sweep-modest F = go (has_empty F.matrix)
  where
    go : (b : Bool) → Modest 0 0 (cond b (deletes least (one_less [] F.matrix) ++ removes (idle F.prefix ([] ∷ []))) (removes (idle F.prefix F.matrix)))
    go true = modest-append 0 0 0 0 (deletes least (one_less [] F.matrix)) (removes (idle F.prefix ([] ∷ []))) (modest-deletes least (one_less [] F.matrix)) (removes-modest (idle F.prefix ([] ∷ [])))
    go false = removes-modest (idle F.prefix F.matrix)

pub sweep-way : (P : Prefix) (X : Matrix) → Distinct P → Way 0 0 (formula_of P X) (swept (formula_of P X))
sweep-way P X d = (sweep_steps (formula_of P X), reaches-sweep P X d, sweep-modest (formula_of P X))
