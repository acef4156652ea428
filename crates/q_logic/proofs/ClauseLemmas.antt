-- Members, literals and the trees of clauses.
use Rattle.std.proofs.Common.{◌≡◌, ℕ, Bool, true, false, cond, List, [], ◌∷◌, ◌++◌, ◌⊎◌, inl, inr, arith, refl, sym, ap, ◌∙◌, subst, Option, Some, None, eqb}
use Rattle.q_logic.specs.Prelude.{Literal, negation, literal_eq, Prefix, Clause, IsIn, Assignment, LiteralTrue, ClauseTrue, signed, Circuit, value_of, Reads, Strategy, circuit_of, or_input, given, outcome, keeps, outer, literal_circuit, some_of, all_of, has, has_variable}

pub IsIn-append_left : {X : Type 0} (x : X) (xs ys : List X) → IsIn x xs → IsIn x (xs ++ ys)
IsIn-append_left x [] ys h = elim h [ ]
IsIn-append_left x (y ∷ xs) ys (inl e) = inl e
IsIn-append_left x (y ∷ xs) ys (inr h) = inr (IsIn-append_left x xs ys h)

pub IsIn-append : {X : Type 0} (x : X) (xs ys : List X) → IsIn x (xs ++ ys) → IsIn x xs ⊎ IsIn x ys
IsIn-append x [] ys h = inr h
IsIn-append x (y ∷ xs) ys (inl e) = inl (inl e)
IsIn-append x (y ∷ xs) ys (inr h) = elim (IsIn-append x xs ys h) [ inl m ↦ inl (inr m) | inr m ↦ inr m ]

pub literal_eq-sound : (j k : Literal) → literal_eq j k ≡ true → j ≡ k
literal_eq-sound j k h = λ i. record { var = same_var i; negative = same_sign i }
  where
    same_var : j.var ≡ k.var
    same_var = grind arith

    same_sign : j.negative ≡ k.negative
    same_sign = grind arith

pub literal_eq-itself : (k : Literal) → literal_eq k k ≡ true
literal_eq-itself k = grind arith

pub literal_eq-negation : (k : Literal) → literal_eq k (negation k) ≡ false
literal_eq-negation k = grind arith

-- A literal of the outer clause.
pub IsIn-outer : (P : Prefix) (m : Literal) (D : Clause) (k : Literal) → IsIn k (outer P m D) →
    IsIn k D × (keeps P m k ≡ true)
IsIn-outer P m [] k h = elim h [ ]
IsIn-outer P m (j ∷ D) k h = go (keeps P m j) refl h (IsIn-outer P m D k)
  where
    go : (b : Bool) → keeps P m j ≡ b → IsIn k (cond b (j ∷ outer P m D) (outer P m D)) →
        (IsIn k (outer P m D) → IsIn k D × (keeps P m k ≡ true)) → IsIn k (j ∷ D) × (keeps P m k ≡ true)
    go true e (inl s) ih = (inl s, ap (keeps P m) s ∙ e)
    go true e (inr r) ih = (inr (ih r).0, (ih r).1)
    go false e r ih = (inr (ih r).0, (ih r).1)

-- The trees of literals, clauses and lists of clauses.
pub value_of-literal_circuit : (c : Strategy) (A : Assignment) (k : Literal) →
    value_of (literal_circuit c k) A ≡ signed k.negative (outcome c A k.var)
value_of-literal_circuit c A k = go k.negative
  where
    go : (n : Bool) → value_of (cond n (Circuit.inverter (circuit_of c k.var)) (circuit_of c k.var)) A ≡
        signed n (outcome c A k.var)
    go true = refl
    go false = refl

pub some_of-true : (c : Strategy) (A : Assignment) (O : Clause) → value_of (some_of c O) A ≡ true →
    ClauseTrue (outcome c A) O
some_of-true c A [] h = grind arith
some_of-true c A (k ∷ O) h =
    go (value_of (literal_circuit c k) A) refl (value_of (some_of c O) A) refl (some_of-true c A O)
  where
    go : (a : Bool) → value_of (literal_circuit c k) A ≡ a → (b : Bool) → value_of (some_of c O) A ≡ b →
        (value_of (some_of c O) A ≡ true → ClauseTrue (outcome c A) O) → ClauseTrue (outcome c A) (k ∷ O)
    go true e b eb ih = (k, inl refl, sym (value_of-literal_circuit c A k) ∙ e)
    go false e true eb ih = let r : ClauseTrue (outcome c A) O = ih eb in (r.0, inr r.1, r.2)
    go false e false eb ih = grind arith

pub some_of-false : (c : Strategy) (A : Assignment) (O : Clause) → value_of (some_of c O) A ≡ false →
    ClauseTrue (outcome c A) O → ⊥
some_of-false c A [] h t = elim t.1 [ ]
some_of-false c A (k ∷ O) h (j, inl e, t) =
    let s : value_of (literal_circuit c k) A ≡ true = value_of-literal_circuit c A k ∙
    subst (LiteralTrue (outcome c A)) e t in grind arith
some_of-false c A (k ∷ O) h (j, inr m, t) = some_of-false c A O (grind arith) (j, m, t)

pub all_of-true : (c : Strategy) (A : Assignment) (Os : List Clause) → value_of (all_of c Os) A ≡ true →
    (O : Clause) → IsIn O Os → ClauseTrue (outcome c A) O
all_of-true c A [] h O m = elim m [ ]
all_of-true c A (N ∷ Os) h O (inl e) =
    subst (ClauseTrue (outcome c A)) (sym e) (some_of-true c A N (grind arith))
all_of-true c A (N ∷ Os) h O (inr m) = all_of-true c A Os (grind arith) O m

pub all_of-false : (c : Strategy) (A : Assignment) (Os : List Clause) → value_of (all_of c Os) A ≡ false →
    (O : Clause) × IsIn O Os × (ClauseTrue (outcome c A) O → ⊥)
all_of-false c A [] h = grind arith
all_of-false c A (N ∷ Os) h = go (value_of (some_of c N) A) refl (all_of-false c A Os)
  where
    go : (b : Bool) → value_of (some_of c N) A ≡ b →
        (value_of (all_of c Os) A ≡ false → (O : Clause) × IsIn O Os × (ClauseTrue (outcome c A) O → ⊥)) →
        (O : Clause) × IsIn O (N ∷ Os) × (ClauseTrue (outcome c A) O → ⊥)
    go false e ih = (N, inl refl, some_of-false c A N e)
    go true e ih =
        let r : (O : Clause) × IsIn O Os × (ClauseTrue (outcome c A) O → ⊥) = ih (grind arith) in
        (r.0, inr r.1, r.2)

-- What these trees read.
pub Reads-literal_circuit : (c : Strategy) (k : Literal) (u : ℕ) → Reads (literal_circuit c k) u →
    Reads (circuit_of c k.var) u
Reads-literal_circuit c k u h = go k.negative h
  where
    go : (n : Bool) → Reads (cond n (Circuit.inverter (circuit_of c k.var)) (circuit_of c k.var)) u →
        Reads (circuit_of c k.var) u
    go true r = r
    go false r = r

pub Reads-some_of : (c : Strategy) (O : Clause) (u : ℕ) → Reads (some_of c O) u →
    (k : Literal) × IsIn k O × Reads (circuit_of c k.var) u
Reads-some_of c [] u h = elim h [ ]
Reads-some_of c (k ∷ O) u (inl r) = (k, inl refl, Reads-literal_circuit c k u r)
Reads-some_of c (k ∷ O) u (inr r) =
    let s : (k : Literal) × IsIn k O × Reads (circuit_of c k.var) u = Reads-some_of c O u r in
    (s.0, inr s.1, s.2)

pub Reads-all_of : (c : Strategy) (Os : List Clause) (u : ℕ) → Reads (all_of c Os) u →
    (O : Clause) × IsIn O Os × (k : Literal) × IsIn k O × Reads (circuit_of c k.var) u
Reads-all_of c [] u h = elim h [ ]
Reads-all_of c (O ∷ Os) u (inl r) =
    let s : (k : Literal) × IsIn k O × Reads (circuit_of c k.var) u = Reads-some_of c O u r in
    (O, inl refl, s.0, s.1, s.2)
Reads-all_of c (O ∷ Os) u (inr r) =
    let s : (O : Clause) × IsIn O Os × (k : Literal) × IsIn k O × Reads (circuit_of c k.var) u =
    Reads-all_of c Os u r in (s.0, inr s.1, s.2, s.3, s.4)

-- A variable without a tree is an input.
pub circuit_of-none : (c : Strategy) (x : ℕ) → given (c x) ≡ false → circuit_of c x ≡ Circuit.input x
circuit_of-none c x = go (c x)
  where
    go : (o : Option Circuit) → given o ≡ false → or_input x o ≡ Circuit.input x
    go None h = refl
    go (Some t) h = grind arith

pub not-negation : (l : Literal) → l ≡ negation l → ⊥
not-negation l e =
    let a = literal_eq-negation l in
    let b : literal_eq l (negation l) ≡ true = subst (λ (z : Literal). literal_eq l z ≡ true) e (literal_eq-itself l) in
    let z : true ≡ false = sym b ∙ a in
    absurd (cc)

pub has-IsIn : (l : Literal) (D : Clause) → has l D ≡ true → IsIn l D
has-IsIn l [] h = grind arith
has-IsIn l (k ∷ D) h = go (literal_eq k l) refl (has-IsIn l D)
  where
    go : (b : Bool) → literal_eq k l ≡ b → (has l D ≡ true → IsIn l D) → (l ≡ k) ⊎ IsIn l D
    go true q ih = inl (sym (literal_eq-sound k l q))
    go false q ih = inr (ih (grind arith))

pub IsIn-has : (l : Literal) (D : Clause) → IsIn l D → has l D ≡ true
IsIn-has l [] m = elim m [ ]
IsIn-has l (k ∷ D) (inl e) = let z : literal_eq k l ≡ true = subst (λ y. literal_eq y l ≡ true) e (literal_eq-itself l) in grind arith
IsIn-has l (k ∷ D) (inr m) = let z : has l D ≡ true = IsIn-has l D m in grind arith

pub has_variable-find : (v : ℕ) (C : Clause) → has_variable v C ≡ true → (k : Literal) × IsIn k C × (k.var ≡ v)
has_variable-find v [] h = grind arith
has_variable-find v (j ∷ C) h = go (eqb j.var v) refl (has_variable-find v C)
  where
    go : (b : Bool) → eqb j.var v ≡ b → (has_variable v C ≡ true → (k : Literal) × IsIn k C × (k.var ≡ v)) → (k : Literal) × IsIn k (j ∷ C) × (k.var ≡ v)
    go true q ih = (j, inl refl, grind arith)
    go false q ih = let r : (k : Literal) × IsIn k C × (k.var ≡ v) = ih (grind arith) in (r.0, inr r.1, r.2)

pub has_variable-IsIn : (D : Clause) (k : Literal) → IsIn k D → has_variable k.var D ≡ true
has_variable-IsIn [] k m = elim m [ ]
has_variable-IsIn (j ∷ D) k (inl e) = let z : k.var ≡ j.var = ap (λ y. y.var) e in grind arith
has_variable-IsIn (j ∷ D) k (inr m) = let i : has_variable k.var D ≡ true = has_variable-IsIn D k m in grind arith

pub IsIn-append_right : {X : Type 0} (x : X) (xs ys : List X) → IsIn x ys → IsIn x (xs ++ ys)
IsIn-append_right x [] ys m = m
IsIn-append_right x (y ∷ xs) ys m = inr (IsIn-append_right x xs ys m)
