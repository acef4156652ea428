-- Numbers of clauses, all together.
use Rattle.std.proofs.Common.{◌≡◌, ◌≤◌, Contains, ◌+◌, ◌⊎◌, ℕ, zero, suc, Bool, true, false, cond, eqb, not, ◌||◌, List, [], ◌∷◌, ◌++◌, inl, inr, arith, refl, sym, ap, ◌∙◌, subst, Option, Some, None, length}
use Rattle.std.proofs.lemmas.Option.{none-some}
use Rattle.std.proofs.lemmas.Bool.{cases_eq}
use Rattle.q_logic.specs.Prelude.{Literal, negation, Clause, Matrix, IsIn, has_variable, has, with_literal, one_less, clause_eq, copies, Slots, slot, set_slot, live}
use Rattle.q_logic.proofs.Common.{clause_eq-sound, weight, IsIn-has, SameClauses, clause_eq-itself, IsIn-alike, IsIn-copies, alike-trans, alike-uncons, one_less-alike, slot-set_other, slot-set_none}
use Rattle.q_logic.proofs.HintChains.{live-number}
use Rattle.q_kernel.proofs.DistinctMembers.{Contains-none, Contains-first}
use Rattle.q_equiv.specs.Changing.{total_with, one}

-- A literal's variable in a clause.
same_or_negated : (k l : Literal) → k.var ≡ l.var → (k ≡ l) ⊎ (k ≡ negation l)
same_or_negated k l e = go k.negative refl l.negative refl
  where
    go : (a : Bool) → k.negative ≡ a → (b : Bool) → l.negative ≡ b → (k ≡ l) ⊎ (k ≡ negation l)
    go true p true q = inl (λ i. record { var = e i; negative = (p ∙ sym q) i })
    go true p false q = inr (λ i. record { var = e i; negative = (p ∙ sym (ap not q)) i })
    go false p true q = inr (λ i. record { var = e i; negative = (p ∙ sym (ap not q)) i })
    go false p false q = inl (λ i. record { var = e i; negative = (p ∙ sym q) i })

pub variable-literal : (l : Literal) (C : Clause) → has_variable l.var C ≡ true → IsIn l C ⊎ IsIn (negation l) C
variable-literal l [] h = let z : false ≡ true = h in absurd (cc)
variable-literal l (k ∷ C) h = go (eqb k.var l.var) refl h (variable-literal l C)
  where
    go : (b : Bool) → eqb k.var l.var ≡ b → (b || has_variable l.var C) ≡ true → (has_variable l.var C ≡ true → IsIn l C ⊎ IsIn (negation l) C) → IsIn l (k ∷ C) ⊎ IsIn (negation l) (k ∷ C)
    go true e h f = elim (same_or_negated k l (grind arith)) [ inl g ↦ inl (inl (sym g)) | inr g ↦ inr (inl (sym g)) ]
    go false e h f = elim (f h) [ inl m ↦ inl (inr m) | inr m ↦ inr (inr m) ]

-- Through the clauses of ids.
abbrev pub weight_at : (Clause → ℕ) → Option Clause → ℕ
weight_at w None = 0
weight_at w (Some C) = w C

abbrev pub total_at : (Clause → ℕ) → Slots → List ℕ → ℕ
total_at w N [] = 0
total_at w N (d ∷ ds) = weight_at w (slot N d) + total_at w N ds

pub total_at-more : (w : Clause → ℕ) (N : Slots) (ds : List ℕ) (d : ℕ) → total_at w N (ds ++ d ∷ []) ≡ total_at w N ds + weight_at w (slot N d)
total_at-more w N [] d = omega arith
total_at-more w N (e ∷ ds) d = let i = total_at-more w N ds d in omega arith

pub total_at-one : (N : Slots) (ds : List ℕ) → total_at one N ds ≤ length ds
total_at-one N [] = omega arith
total_at-one N (d ∷ ds) = let i = total_at-one N ds in let j = most (slot N d) in omega arith
  where
    most : (o : Option Clause) → weight_at one o ≤ 1
    most None = omega arith
    most (Some C) = omega arith

-- one clause goes
weight-gone : (w : Clause → ℕ) (l : Literal) (N : Slots) (c : ℕ) → weight w (with_literal l (live N)) ≤ weight_at w (slot N c) + weight w (with_literal l (live (set_slot c None N)))
weight-gone w l [] c = omega arith
weight-gone w l (None ∷ N) zero = omega arith
weight-gone w l (Some C ∷ N) zero = go (has l C)
  where
    go : (b : Bool) → weight w (cond b (C ∷ with_literal l (live N)) (with_literal l (live N))) ≤ w C + weight w (with_literal l (live N))
    go true = omega arith
    go false = omega arith
weight-gone w l (None ∷ N) (suc c) = weight-gone w l N c
weight-gone w l (Some C ∷ N) (suc c) = go (has l C) (weight-gone w l N c)
  where
    go : (b : Bool) → weight w (with_literal l (live N)) ≤ weight_at w (slot N c) + weight w (with_literal l (live (set_slot c None N)))
        → weight w (cond b (C ∷ with_literal l (live N)) (with_literal l (live N))) ≤ weight_at w (slot N c) + weight w (cond b (C ∷ with_literal l (live (set_slot c None N))) (with_literal l (live (set_slot c None N))))
    go true i = omega arith
    go false i = i

weight_at-gone : (w : Clause → ℕ) (N : Slots) (c d : ℕ) → weight_at w (slot (set_slot c None N) d) ≤ weight_at w (slot N d)
weight_at-gone w N c d = elim (cases_eq d c) [
  | inl e ↦ subst (λ (x : ℕ). weight_at w (slot (set_slot c None N) x) ≤ weight_at w (slot N x)) (sym e) (subst (λ o. weight_at w o ≤ weight_at w (slot N c)) (sym (slot-set_none c N)) (omega arith))
  | inr n ↦ subst (λ o. weight_at w o ≤ weight_at w (slot N d)) (sym (slot-set_other c d None N n)) (omega arith)
]

total_at-gone : (w : Clause → ℕ) (N : Slots) (c : ℕ) (ds : List ℕ) → total_at w (set_slot c None N) ds ≤ total_at w N ds
total_at-gone w N c [] = omega arith
total_at-gone w N c (d ∷ ds) = let i = total_at-gone w N c ds in let j = weight_at-gone w N c d in omega arith

no_clause : (w : Clause → ℕ) (l : Literal) (X : Matrix) → ((D : Clause) → IsIn D X → IsIn l D → ⊥) → weight w (with_literal l X) ≤ 0
no_clause w l [] h = omega arith
no_clause w l (C ∷ X) h = go (has l C) refl (no_clause w l X (λ D m. h D (inr m)))
  where
    go : (b : Bool) → has l C ≡ b → weight w (with_literal l X) ≤ 0 → weight w (cond b (C ∷ with_literal l X) (with_literal l X)) ≤ 0
    go true e i = absurd (h C (inl refl) (Rattle.q_logic.proofs.ClauseLemmas.has-IsIn l C e))
    go false e i = i

-- Where each clause with a literal has one of the ids.
pub weight-listed : (w : Clause → ℕ) (l : Literal) (N : Slots) (ds : List ℕ) → ((d : ℕ) → ((D : Clause) × (slot N d ≡ Some D) × IsIn l D) → Contains ds d) → weight w (with_literal l (live N)) ≤ total_at w N ds
weight-listed w l N [] h = no_clause w l (live N) (λ D m i. let d = live-number N D m in Contains-none d.0 (h d.0 (D, d.1, i)))
weight-listed w l N (c ∷ ds) h =
    let M : Slots = set_slot c None N in
    let i : weight w (with_literal l (live M)) ≤ total_at w M ds = weight-listed w l M ds fewer in
    let a = weight-gone w l N c in
    let b = total_at-gone w N c ds in
    omega arith
  where
    fewer : (d : ℕ) → ((D : Clause) × (slot (set_slot c None N) d ≡ Some D) × IsIn l D) → Contains ds d
    fewer d (D, e, i) = elim (cases_eq d c) [
      | inl f ↦ absurd (none-some D (sym (slot-set_none c N) ∙ (ap (slot (set_slot c None N)) (sym f) ∙ e)))
      | inr n ↦ elim (Contains-first c ds d (h d (D, sym (slot-set_other c d None N n) ∙ e, i))) [ inl g ↦ absurd (n g) | inr g ↦ g ]
    ]

-- A variable has the clauses of both its literals.
pub total-literals : (w : Clause → ℕ) (l : Literal) (X : Matrix) → total_with w l.var X ≤ weight w (with_literal l X) + weight w (with_literal (negation l) X)
total-literals w l [] = omega arith
total-literals w l (C ∷ X) = go (has_variable l.var C) refl (has l C) refl (has (negation l) C) refl (total-literals w l X)
  where
    go : (v : Bool) → has_variable l.var C ≡ v → (a : Bool) → has l C ≡ a → (b : Bool) → has (negation l) C ≡ b → total_with w l.var X ≤ weight w (with_literal l X) + weight w (with_literal (negation l) X)
        → cond v (w C) 0 + total_with w l.var X ≤ weight w (cond a (C ∷ with_literal l X) (with_literal l X)) + weight w (cond b (C ∷ with_literal (negation l) X) (with_literal (negation l) X))
    go true e true f true g i = omega arith
    go true e true f false g i = omega arith
    go true e false f true g i = omega arith
    go true e false f false g i = absurd (elim (variable-literal l C e) [ inl m ↦ two (sym (IsIn-has l C m) ∙ f) | inr m ↦ two (sym (IsIn-has (negation l) C m) ∙ g) ])
      where
        two : true ≡ false → ⊥
        two z = cc
    go false e true f true g i = omega arith
    go false e true f false g i = omega arith
    go false e false f true g i = omega arith
    go false e false f false g i = omega arith

-- The order of clauses does not matter.
total-in : (w : Clause → ℕ) (v : ℕ) (C : Clause) (X : Matrix) → IsIn C X → total_with w v X ≡ cond (has_variable v C) (w C) 0 + total_with w v (one_less C X)
total-in w v C [] m = absurd m
total-in w v C (E ∷ X) m = go (clause_eq E C) refl m (total-in w v C X)
  where
    go : (b : Bool) → clause_eq E C ≡ b → (C ≡ E) ⊎ IsIn C X → (IsIn C X → total_with w v X ≡ cond (has_variable v C) (w C) 0 + total_with w v (one_less C X))
        → cond (has_variable v E) (w E) 0 + total_with w v X ≡ cond (has_variable v C) (w C) 0 + total_with w v (cond b X (E ∷ one_less C X))
    go true e m f = ap (λ (D : Clause). cond (has_variable v D) (w D) 0 + total_with w v X) (clause_eq-sound E C e)
    go false e (inl g) f = absurd (let z : clause_eq E C ≡ true = subst (λ (y : Clause). clause_eq y C ≡ true) g (clause_eq-itself C) in let y : false ≡ true = sym e ∙ z in cc)
    go false e (inr n) f = let i = f n in turn (cond (has_variable v E) (w E) 0) (cond (has_variable v C) (w C) 0) (total_with w v X) (total_with w v (one_less C X)) i
      where
        turn : (a b x y : ℕ) → x ≡ b + y → a + x ≡ b + (a + y)
        turn a b x y e = omega arith

pub total-alike : (w : Clause → ℕ) (v : ℕ) (X Y : Matrix) → SameClauses X Y → total_with w v X ≡ total_with w v Y
total-alike w v [] [] s = refl
total-alike w v [] (D ∷ Y) s = let z : 1 ≤ copies D (D ∷ Y) = IsIn-copies D (D ∷ Y) (inl refl) in let e : 0 ≡ copies D (D ∷ Y) = s D in absurd (none (copies D (D ∷ Y)) z e)
  where
    none : (n : ℕ) → 1 ≤ n → 0 ≡ n → ⊥
    none n z e = omega arith
total-alike w v (C ∷ X) Y s =
    let m : IsIn C Y = IsIn-alike (C ∷ X) Y s C (inl refl) in
    let i : total_with w v X ≡ total_with w v (one_less C Y) = total-alike w v X (one_less C Y) (alike-uncons C X (one_less C Y) (alike-trans (C ∷ X) Y (C ∷ one_less C Y) s (one_less-alike C Y m))) in
    ap (λ (n : ℕ). cond (has_variable v C) (w C) 0 + n) i ∙ sym (total-in w v C Y m)
