-- The search finds what the slow program finds.
use Rattle.std.proofs.Common.{◌≡◌, ℕ, Bool, true, false, cond, not, ◌&&◌, ◌||◌, eqb, [], ◌∷◌, ◌⊎◌, inl, inr, refl, sym, ap, ap₂, ◌∙◌, subst, arith}
use Rattle.q_logic.specs.declared.formulas.Quant.{Quant}
use Rattle.q_logic.specs.declared.formulas.Quant.TheVariants.{Exists, Forall}
use Rattle.q_logic.specs.declared.formulas.Bound.{Bound}
use Rattle.q_logic.specs.Prelude.{Literal, negation, literal_eq, bool_eq, Clause, Matrix, Prefix, IsIn, is_exists, is_bound, is_universal, Distinct, has, Tally, explored, one_more, plus, then_second, by_verdict, leaf, worse}
use Rattle.q_logic.specs.Truth.{Assignment, signed, with_value, literal_true, clause_true, matrix_true, one_or_both, is_true_under}
use Rattle.q_logic.specs.declared.verdict.Verdict.{Verdict}
use Rattle.q_logic.specs.declared.verdict.Verdict.TheVariants.{Lost, Won, Open}
use Rattle.q_logic.specs.declared.verdict.Standing.TheVariants.{True, False, Chosen, Free}
use Rattle.q_logic.specs.Decisions.{standing, is_true, is_hopeless, has_true, all_hopeless, both_signs, clause_verdict, verdict}

-- The value w makes no literal of v true.
abbrev Avoids : ℕ → Bool → Clause → Type 0
Avoids v w [] = Unit {0}
Avoids v w (k ∷ C) = (eqb v k.var ≡ true → signed k.negative w ≡ false) × Avoids v w C

-- A literal that is hopeless stays so, if the value given does not make it true.
hopeless-literal : (b : Bound) (P : Prefix) (A : Assignment) (w : Bool) (k : Literal) → is_bound P b.var ≡ false →
    (eqb b.var k.var ≡ true → signed k.negative w ≡ false) →
    is_hopeless (standing (b ∷ P) A k) ≡ true → is_hopeless (standing P (with_value A b.var w) k) ≡ true
hopeless-literal b P A w k d a h = go (eqb b.var k.var) refl (eqb k.var b.var) refl a h
  where
    go : (x : Bool) → eqb b.var k.var ≡ x → (y : Bool) → eqb k.var b.var ≡ y → (x ≡ true → signed k.negative w ≡ false) →
        is_hopeless (cond (cond x true (is_bound P k.var)) (cond (cond x (not (is_exists b.quant)) (is_universal P k.var)) Free Chosen) (cond (literal_true A k) True False)) ≡ true →
        is_hopeless (cond (is_bound P k.var) (cond (is_universal P k.var) Free Chosen) (cond (signed k.negative (cond y w (A k.var))) True False)) ≡ true
    go true e true i a h =
        let s : b.var ≡ k.var = grind arith in
        let z : is_bound P k.var ≡ false = subst (λ n. is_bound P n ≡ false) s d in
        rw z (rw (a refl) refl)
    go true e false i a h = absurd (grind arith)
    go false e true i a h = absurd (grind arith)
    go false e false i a h = h

hopeless-more : (b : Bound) (P : Prefix) (A : Assignment) (w : Bool) (C : Clause) → is_bound P b.var ≡ false →
    Avoids b.var w C → all_hopeless (b ∷ P) A C ≡ true → all_hopeless P (with_value A b.var w) C ≡ true
hopeless-more b P A w [] d a h = refl
hopeless-more b P A w (k ∷ C) d a h =
    let p : is_hopeless (standing (b ∷ P) A k) ≡ true = grind arith in
    let q : all_hopeless (b ∷ P) A C ≡ true = grind arith in
    let r : is_hopeless (standing P (with_value A b.var w) k) ≡ true = hopeless-literal b P A w k d a.0 p in
    let s : all_hopeless P (with_value A b.var w) C ≡ true = hopeless-more b P A w C d a.1 q in
    rw (r, s) refl

-- Another literal of the variable of k has k's sign, and k's sign as a value makes it false.
avoids-sign : (k : Literal) (C : Clause) (v : ℕ) → eqb v k.var ≡ true → has (negation k) C ≡ false → Avoids v k.negative C
avoids-sign k [] v e h = tt
avoids-sign k (j ∷ C) v e h =
    let p : literal_eq j (negation k) ≡ false = grind arith in
    let q : has (negation k) C ≡ false = grind arith in
    (λ f. same j.negative k.negative (let z : eqb j.var k.var ≡ true = grind arith in grind arith), avoids-sign k C v e q)
  where
    same : (x y : Bool) → bool_eq x (not y) ≡ false → signed x y ≡ false
    same true true h = refl
    same true false h = absurd (cc)
    same false true h = absurd (cc)
    same false false h = refl

pub own-sign : (x : Bool) → signed x x ≡ false
own-sign true = refl
own-sign false = refl

-- A universal that the clause does not hold in both signs has a value that makes no literal true.
avoiding : (b : Bound) (P : Prefix) (C : Clause) → both_signs (b ∷ P) C ≡ false → (w : Bool) × Avoids b.var w C
avoiding b P [] h = (false, tt)
avoiding b P (k ∷ C) h = go (eqb b.var k.var) refl h (avoiding b P C)
  where
    go : (x : Bool) → eqb b.var k.var ≡ x → (cond x true (is_bound P k.var) && has (negation k) C) || both_signs (b ∷ P) C ≡ false →
        (both_signs (b ∷ P) C ≡ false → (w : Bool) × Avoids b.var w C) → (w : Bool) × Avoids b.var w (k ∷ C)
    go true e h f = (k.negative, (λ _. own-sign k.negative, avoids-sign k C b.var e (grind arith)))
    go false e h f = let r : (w : Bool) × Avoids b.var w C = f (grind arith) in (r.0, (λ z. absurd (grind arith), r.1))

both-less : (b : Bound) (P : Prefix) (C : Clause) → both_signs (b ∷ P) C ≡ false → both_signs P C ≡ false
both-less b P [] h = refl
both-less b P (k ∷ C) h = go (eqb b.var k.var) h (both-less b P C)
  where
    go : (x : Bool) → (cond x true (is_bound P k.var) && has (negation k) C) || both_signs (b ∷ P) C ≡ false →
        (both_signs (b ∷ P) C ≡ false → both_signs P C ≡ false) → (is_bound P k.var && has (negation k) C) || both_signs P C ≡ false
    go true h f = let p : has (negation k) C ≡ false = grind arith in let q : both_signs P C ≡ false = f (grind arith) in grind arith
    go false h f = let q : both_signs P C ≡ false = f (grind arith) in grind arith

-- A hopeless clause holds no existential without a value.
no-existential : (b : Bound) (P : Prefix) (A : Assignment) (w : Bool) (C : Clause) → is_exists b.quant ≡ true →
    all_hopeless (b ∷ P) A C ≡ true → Avoids b.var w C
no-existential b P A w [] x h = tt
no-existential b P A w (k ∷ C) x h = (
  λ e. absurd (none e),
  no-existential b P A w C x (grind arith),
)
  where
    hopeless : is_hopeless (standing (b ∷ P) A k) ≡ true
    hopeless = grind arith

    go : (y : Bool) → y ≡ true → (z : Bool) → z ≡ true →
        is_hopeless (cond (cond y true (is_bound P k.var)) (cond (cond y (not z) (is_universal P k.var)) Free Chosen) (cond (literal_true A k) True False)) ≡ true → ⊥
    go true e true i h = cc
    go true e false i h = cc
    go false e z i h = cc

    none : eqb b.var k.var ≡ true → ⊥
    none e = go (eqb b.var k.var) e (is_exists b.quant) x hopeless

-- At the end each clause is true or hopeless.
hopeless-false : (A : Assignment) (C : Clause) → all_hopeless [] A C ≡ true → clause_true A C ≡ false
hopeless-false A [] h = refl
hopeless-false A (k ∷ C) h = go (literal_true A k) h (hopeless-false A C)
  where
    go : (x : Bool) → is_hopeless (cond x True False) && all_hopeless [] A C ≡ true →
        (all_hopeless [] A C ≡ true → clause_true A C ≡ false) → x || clause_true A C ≡ false
    go true h f = absurd (cc)
    go false h f = f h

untrue-hopeless : (A : Assignment) (C : Clause) → has_true [] A C ≡ false → all_hopeless [] A C ≡ true
untrue-hopeless A [] h = refl
untrue-hopeless A (k ∷ C) h = go (literal_true A k) h (untrue-hopeless A C)
  where
    go : (x : Bool) → is_true (cond x True False) || has_true [] A C ≡ false →
        (has_true [] A C ≡ false → all_hopeless [] A C ≡ true) → is_hopeless (cond x True False) && all_hopeless [] A C ≡ true
    go true h f = absurd (cc)
    go false h f = f h

none-both : (C : Clause) → both_signs [] C ≡ false
none-both [] = refl
none-both (k ∷ C) = none-both C

true-true : (A : Assignment) (C : Clause) → has_true [] A C ≡ true → clause_true A C ≡ true
true-true A [] h = h
true-true A (k ∷ C) h = go (literal_true A k) h (true-true A C)
  where
    go : (x : Bool) → is_true (cond x True False) || has_true [] A C ≡ true →
        (has_true [] A C ≡ true → clause_true A C ≡ true) → x || clause_true A C ≡ true
    go true h f = refl
    go false h f = f h

false-clause : (A : Assignment) (X : Matrix) (C : Clause) → IsIn C X → clause_true A C ≡ false → matrix_true A X ≡ false
false-clause A [] C i h = elim i [ ]
false-clause A (D ∷ X) C (inl e) h = let z : clause_true A D ≡ false = subst (λ x. clause_true A x ≡ false) e h in rw z refl
false-clause A (D ∷ X) C (inr i) h = let z : matrix_true A X ≡ false = false-clause A X C i h in grind arith

-- A formula with a hopeless clause is false.
lost-false : (P : Prefix) (X : Matrix) (A : Assignment) (C : Clause) → Distinct P → IsIn C X → all_hopeless P A C ≡ true →
    both_signs P C ≡ false → is_true_under P X A ≡ false
lost-false [] X A C d i h s = false-clause A X C i (hopeless-false A C h)
lost-false (b ∷ P) X A C d i h s =
    go b.quant refl (λ w a. lost-false P X (with_value A b.var w) C d.1 i (hopeless-more b P A w C d.0 a h) (both-less b P C s))
  where
    go : (q : Quant) → b.quant ≡ q → ((w : Bool) → Avoids b.var w C → is_true_under P X (with_value A b.var w) ≡ false) →
        one_or_both q (is_true_under P X (with_value A b.var false)) (is_true_under P X (with_value A b.var true)) ≡ false
    go Exists e f =
        let x : is_exists b.quant ≡ true = ap is_exists e in
        rw (f false (no-existential b P A false C x h), f true (no-existential b P A true C x h)) refl
    go Forall e f = pick (avoiding b P C s)
      where
        pick : (w : Bool) × Avoids b.var w C →
            is_true_under P X (with_value A b.var false) && is_true_under P X (with_value A b.var true) ≡ false
        pick (false, a) = rw (f false a) refl
        pick (true, a) = let z : is_true_under P X (with_value A b.var true) ≡ false = f true a in grind arith

-- What a verdict says.
pub by_true : (C : Clause) (P : Prefix) (A : Assignment) → clause_verdict P A C ≡ Won → has_true P A C ≡ true
by_true C P A h = go (has_true P A C) (all_hopeless P A C && not (both_signs P C)) h
  where
    go : (x y : Bool) → cond x Won (cond y Lost Open) ≡ Won → x ≡ true
    go true y h = refl
    go false true h = absurd (cc)
    go false false h = absurd (cc)

by_hopeless : (C : Clause) (P : Prefix) (A : Assignment) → clause_verdict P A C ≡ Lost →
    (all_hopeless P A C ≡ true) × (both_signs P C ≡ false)
by_hopeless C P A h = go (has_true P A C) (all_hopeless P A C) (both_signs P C) h
  where
    go : (x y z : Bool) → cond x Won (cond (y && not z) Lost Open) ≡ Lost → (y ≡ true) × (z ≡ false)
    go true y z h = absurd (cc)
    go false true true h = absurd (cc)
    go false true false h = (refl, refl)
    go false false z h = absurd (cc)

pub both-won : (v w : Verdict) → worse v w ≡ Won → (v ≡ Won) × (w ≡ Won)
both-won Lost w h = absurd (cc)
both-won Won w h = (refl, h)
both-won Open Lost h = absurd (cc)
both-won Open Won h = absurd (cc)
both-won Open Open h = absurd (cc)

one-lost : (v w : Verdict) → worse v w ≡ Lost → (v ≡ Lost) ⊎ (w ≡ Lost)
one-lost Lost w h = inl refl
one-lost Won w h = inr h
one-lost Open Lost h = inr refl
one-lost Open Won h = absurd (cc)
one-lost Open Open h = absurd (cc)

lost-clause : (P : Prefix) (A : Assignment) (X : Matrix) → verdict X P A ≡ Lost →
    (C : Clause) × IsIn C X × (clause_verdict P A C ≡ Lost)
lost-clause P A [] h = absurd (cc)
lost-clause P A (C ∷ X) h = go (one-lost (clause_verdict P A C) (verdict X P A) h) (lost-clause P A X)
  where
    go : (clause_verdict P A C ≡ Lost) ⊎ (verdict X P A ≡ Lost) →
        (verdict X P A ≡ Lost → (D : Clause) × IsIn D X × (clause_verdict P A D ≡ Lost)) →
        (D : Clause) × IsIn D (C ∷ X) × (clause_verdict P A D ≡ Lost)
    go (inl e) f = (C, inl refl, e)
    go (inr e) f = let r : (D : Clause) × IsIn D X × (clause_verdict P A D ≡ Lost) = f e in (r.0, inr r.1, r.2)

-- What is true stays true.
true-literal : (b : Bound) (P : Prefix) (A : Assignment) (w : Bool) (k : Literal) →
    is_true (standing (b ∷ P) A k) ≡ true → is_true (standing P (with_value A b.var w) k) ≡ true
true-literal b P A w k h = go (eqb b.var k.var) refl (eqb k.var b.var) refl h
  where
    none : (y : Bool) → is_true (cond y Free Chosen) ≡ true → ⊥
    none true h = cc
    none false h = cc

    go : (x : Bool) → eqb b.var k.var ≡ x → (y : Bool) → eqb k.var b.var ≡ y →
        is_true (cond (cond x true (is_bound P k.var)) (cond (cond x (not (is_exists b.quant)) (is_universal P k.var)) Free Chosen) (cond (literal_true A k) True False)) ≡ true →
        is_true (cond (is_bound P k.var) (cond (is_universal P k.var) Free Chosen) (cond (signed k.negative (cond y w (A k.var))) True False)) ≡ true
    go true e y i h = absurd (none (not (is_exists b.quant)) h)
    go false e true i h = absurd (grind arith)
    go false e false i h = h

true-more : (b : Bound) (P : Prefix) (A : Assignment) (w : Bool) (C : Clause) → has_true (b ∷ P) A C ≡ true →
    has_true P (with_value A b.var w) C ≡ true
true-more b P A w [] h = h
true-more b P A w (k ∷ C) h = go (is_true (standing (b ∷ P) A k)) refl h (true-more b P A w C)
  where
    go : (x : Bool) → is_true (standing (b ∷ P) A k) ≡ x → x || has_true (b ∷ P) A C ≡ true →
        (has_true (b ∷ P) A C ≡ true → has_true P (with_value A b.var w) C ≡ true) →
        is_true (standing P (with_value A b.var w) k) || has_true P (with_value A b.var w) C ≡ true
    go true e h f = let z : is_true (standing P (with_value A b.var w) k) ≡ true = true-literal b P A w k e in rw z refl
    go false e h f = let z : has_true P (with_value A b.var w) C ≡ true = f h in grind arith

won-more : (b : Bound) (P : Prefix) (A : Assignment) (w : Bool) (X : Matrix) → verdict X (b ∷ P) A ≡ Won →
    verdict X P (with_value A b.var w) ≡ Won
won-more b P A w [] h = refl
won-more b P A w (C ∷ X) h =
    let p : (clause_verdict (b ∷ P) A C ≡ Won) × (verdict X (b ∷ P) A ≡ Won) = both-won (clause_verdict (b ∷ P) A C) (verdict X (b ∷ P) A) h in
    let q : has_true P (with_value A b.var w) C ≡ true = true-more b P A w C (by_true C (b ∷ P) A p.0) in
    let r : verdict X P (with_value A b.var w) ≡ Won = won-more b P A w X p.1 in
    rw (q, r) refl

won-end : (A : Assignment) (X : Matrix) → verdict X [] A ≡ Won → matrix_true A X ≡ true
won-end A [] h = refl
won-end A (C ∷ X) h =
    let p : (clause_verdict [] A C ≡ Won) × (verdict X [] A ≡ Won) = both-won (clause_verdict [] A C) (verdict X [] A) h in
    let q : clause_true A C ≡ true = true-true A C (by_true C [] A p.0) in
    let r : matrix_true A X ≡ true = won-end A X p.1 in
    rw (q, r) refl

won-true : (P : Prefix) (X : Matrix) (A : Assignment) → verdict X P A ≡ Won → is_true_under P X A ≡ true
won-true [] X A h = won-end A X h
won-true (b ∷ P) X A h =
    let p : is_true_under P X (with_value A b.var false) ≡ true = won-true P X (with_value A b.var false) (won-more b P A false X h) in
    let q : is_true_under P X (with_value A b.var true) ≡ true = won-true P X (with_value A b.var true) (won-more b P A true X h) in
    rw (p, q) (both b.quant)
  where
    both : (q : Quant) → one_or_both q true true ≡ true
    both Exists = refl
    both Forall = refl

-- At the end nothing is open.
closed-clause : (A : Assignment) (C : Clause) → clause_verdict [] A C ≡ Open → ⊥
closed-clause A C h = go (has_true [] A C) refl h
  where
    go : (x : Bool) → has_true [] A C ≡ x → cond x Won (cond (all_hopeless [] A C && not (both_signs [] C)) Lost Open) ≡ Open → ⊥
    go true e h = cc
    go false e h =
        let p : all_hopeless [] A C ≡ true = untrue-hopeless A C e in
        let q : both_signs [] C ≡ false = none-both C in
        let r : Lost ≡ Open = (rw (p, q) at h) in cc

pub closed-end : (A : Assignment) (X : Matrix) → verdict X [] A ≡ Open → ⊥
closed-end A [] h = cc
closed-end A (C ∷ X) h = go (clause_verdict [] A C) (verdict X [] A) (closed-clause A C) (closed-end A X) h
  where
    go : (v w : Verdict) → (v ≡ Open → ⊥) → (w ≡ Open → ⊥) → worse v w ≡ Open → ⊥
    go Lost w f g h = cc
    go Won w f g h = g h
    go Open w f g h = f refl

-- The whole.
pub lost-is_false : (P : Prefix) (X : Matrix) (A : Assignment) → Distinct P → verdict X P A ≡ Lost → is_true_under P X A ≡ false
lost-is_false P X A d h =
    let r : (C : Clause) × IsIn C X × (clause_verdict P A C ≡ Lost) = lost-clause P A X h in
    let s : (all_hopeless P A r.0 ≡ true) × (both_signs P r.0 ≡ false) = by_hopeless r.0 P A r.2 in
    lost-false P X A r.0 d r.1 s.0 s.1

won-then : (q : Quant) (s t : Tally) → (then_second q s t).won ≡ one_or_both q s.won t.won
won-then Exists s t = go s.won refl
  where
    go : (x : Bool) → s.won ≡ x → (cond (not x) (plus s.decisions t) s).won ≡ x || t.won
    go true e = e
    go false e = refl
won-then Forall s t = go s.won refl
  where
    go : (x : Bool) → s.won ≡ x → (cond x (plus s.decisions t) s).won ≡ x && t.won
    go true e = refl
    go false e = e

pub explored-won : (P : Prefix) (X : Matrix) (A : Assignment) → Distinct P →
    (explored (verdict X) P A).won ≡ is_true_under P X A
explored-won [] X A d = go (verdict X [] A) refl
  where
    go : (v : Verdict) → verdict X [] A ≡ v → (by_verdict v (record { rest = []; values = A }) (leaf false (record { rest = []; values = A }))).won ≡ matrix_true A X
    go Lost e = sym (lost-is_false [] X A d e)
    go Won e = sym (won-end A X e)
    go Open e = absurd (closed-end A X e)
explored-won (b ∷ P) X A d = go (verdict X (b ∷ P) A) refl
    (explored-won P X (with_value A b.var false) d.1) (explored-won P X (with_value A b.var true) d.1)
  where
    go : (v : Verdict) → verdict X (b ∷ P) A ≡ v →
        (explored (verdict X) P (with_value A b.var false)).won ≡ is_true_under P X (with_value A b.var false) →
        (explored (verdict X) P (with_value A b.var true)).won ≡ is_true_under P X (with_value A b.var true) →
        (by_verdict v (record { rest = b ∷ P; values = A }) (one_more (then_second b.quant
        (explored (verdict X) P (with_value A b.var false))
        (explored (verdict X) P (with_value A b.var true))))).won ≡
        one_or_both b.quant (is_true_under P X (with_value A b.var false)) (is_true_under P X (with_value A b.var true))
    go Lost e f g = sym (lost-is_false (b ∷ P) X A d e)
    go Won e f g = sym (won-true (b ∷ P) X A e)
    go Open e f g =
        won-then b.quant (explored (verdict X) P (with_value A b.var false)) (explored (verdict X) P (with_value A b.var true))
        ∙ ap₂ (one_or_both b.quant) f g
