-- The clauses that make each copy equal to its original where u is true.
use Rattle.std.proofs.Common.{◌≡◌, ◌≤◌, ◌<◌, ℕ, ◌+◌, Bool, true, false, not, eqb, List, [], ◌∷◌, ◌++◌, ◌⊎◌, inl, inr, arith, refl, sym, ap, ◌∙◌, subst, Some}
use Rattle.q_logic.specs.Prelude.{insert, positive, Literal, negation, literal_eq, Clause, Prefix, Matrix, IsIn, is_bound, is_existential, outer_or_same, Implied, keeps, outer, ExistsPivot, without, ProofStep, add, delete, formula_of, in_list, copied_literal, copied}
use Rattle.q_logic.proofs.JustifiedRuns.{SameClauses, Reaches}
use Rattle.q_logic.proofs.ClauseLemmas.{literal_eq-sound, IsIn-append_left, IsIn-append, IsIn-append_right}
use Rattle.q_logic.proofs.PrefixOrder.{existential-is_bound}
use Rattle.q_logic.proofs.UniversalPivot.{IsIn-without}
use Rattle.q_logic.proofs.JustifiedRuns.{alike-refl, alike-trans, alike-cons, alike-swap, reaches-end}
use Rattle.q_logic.proofs.ImpliedClauses.{implied-subsumed, implied-tautology, implied-hidden_new, implied-longer}
use Rattle.q_logic.proofs.ChangeRuns.{alike-turned, step-first}
use Rattle.q_logic.proofs.JoinedClauses.{insert-IsIn, IsIn-insert, IsIn-outer_in}
use Rattle.q_logic.proofs.ExpandPrefix.{Copies, CopyOf, copy_of-in, copy_of-out}
use Rattle.q_logic.proofs.Booleans.{not-not}

abbrev pub lit : ℕ → Bool → Literal
lit x b = record { var = x; negative = b }

abbrev pub minus : ℕ → Literal
minus u = negation (positive u)

abbrev pub link : ℕ → Literal → Literal → Clause
link u a b = insert a (insert (minus u) (b ∷ []))

pub link-IsIn : (u : ℕ) (a b k : Literal) → IsIn k (link u a b) → (k ≡ a) ⊎ ((k ≡ minus u) ⊎ (k ≡ b))
link-IsIn u a b k m = elim (insert-IsIn a (insert (minus u) (b ∷ [])) k m)
    [ inl e ↦ inl e | inr n ↦ elim (insert-IsIn (minus u) (b ∷ []) k n) [ inl e ↦ inr (inl e) | inr i ↦ elim i [ inl e ↦ inr (inr e) | inr x ↦ elim x [ ] ] ] ]

pub link-first : (u : ℕ) (a b : Literal) → IsIn a (link u a b)
link-first u a b = IsIn-insert a (insert (minus u) (b ∷ [])) a (inl refl)

pub link-minus : (u : ℕ) (a b : Literal) → IsIn (minus u) (link u a b)
link-minus u a b = IsIn-insert a (insert (minus u) (b ∷ [])) (minus u) (inr (IsIn-insert (minus u) (b ∷ []) (minus u) (inl refl)))

pub link-last : (u : ℕ) (a b : Literal) → IsIn b (link u a b)
link-last u a b = IsIn-insert a (insert (minus u) (b ∷ [])) b (inr (IsIn-insert (minus u) (b ∷ []) b (inr (inl refl))))

abbrev pub links : ℕ → List ℕ → ℕ → Matrix
links u [] t = []
links u (x ∷ V) t = link u (lit t false) (lit x true) ∷ link u (lit t true) (lit x false) ∷ links u V (t + 1)

-- Both clauses of x and its copy c are there.
abbrev pub Link : Matrix → ℕ → ℕ → ℕ → Type 0
Link Z u x c = (b : Bool) → IsIn (link u (lit c b) (lit x (not b))) Z

pub links-in : (Z : Matrix) (u : ℕ) (V : List ℕ) (t : ℕ) → ((D : Clause) → IsIn D (links u V t) → IsIn D Z) → Copies (Link Z u) V t
links-in Z u [] t f = tt
links-in Z u (x ∷ V) t f = (both, links-in Z u V (t + 1) (λ D m. f D (inr (inr m))))
  where
    both : (b : Bool) → IsIn (link u (lit t b) (lit x (not b))) Z
    both false = f (link u (lit t false) (lit x true)) (inl refl)
    both true = f (link u (lit t true) (lit x false)) (inr (inl refl))

-- From a copy to the original and back.
from_copied : (Z : Matrix) (u : ℕ) (V : List ℕ) (t : ℕ) (k : Literal) (S : Clause) → Copies (Link Z u) V t → IsIn (minus u) S → IsIn (copied_literal V t k) S → Implied Z (k ∷ S) → Implied Z S
from_copied Z u V t k S c n m i = go (in_list k.var V) refl
  where
    go : (b : Bool) → in_list k.var V ≡ b → Implied Z S
    go true q = implied-hidden_new Z (link u (copied_literal V t k) (negation k)) S k ((copy_of-in (Link Z u) V t k.var c q).0 k.negative) (link-last u (copied_literal V t k) (negation k))
        (λ j a d. elim (link-IsIn u (copied_literal V t k) (negation k) j a) [ inl e ↦ subst (λ y. IsIn y S) (sym e) m | inr r ↦ elim r [ inl e ↦ subst (λ y. IsIn y S) (sym e) n | inr e ↦ absurd (d e) ] ]) i
    go false q = implied-longer Z (k ∷ S) S (λ j a. elim a [ inl e ↦ subst (λ y. IsIn y S) (same ∙ sym e) m | inr o ↦ o ]) i
      where
        same : copied_literal V t k ≡ k
        same = ap (λ v. lit v k.negative) (copy_of-out V t k.var q)

to_copied : (Z : Matrix) (u : ℕ) (V : List ℕ) (t : ℕ) (k : Literal) (S : Clause) → Copies (Link Z u) V t → IsIn (minus u) S → IsIn k S → Implied Z (copied_literal V t k ∷ S) → Implied Z S
to_copied Z u V t k S c n m i = go (in_list k.var V) refl
  where
    go : (b : Bool) → in_list k.var V ≡ b → Implied Z S
    go true q = implied-hidden_new Z (link u (negation (copied_literal V t k)) k) S (copied_literal V t k)
        (subst (λ s. IsIn (link u (negation (copied_literal V t k)) (lit k.var s)) Z) (not-not k.negative) ((copy_of-in (Link Z u) V t k.var c q).0 (not k.negative)))
        (link-first u (negation (copied_literal V t k)) k)
        (λ j a d. elim (link-IsIn u (negation (copied_literal V t k)) k j a) [ inl e ↦ absurd (d e) | inr r ↦ elim r [ inl e ↦ subst (λ y. IsIn y S) (sym e) n | inr e ↦ subst (λ y. IsIn y S) (sym e) m ] ]) i
    go false q = implied-longer Z (copied_literal V t k ∷ S) S (λ j a. elim a [ inl e ↦ subst (λ y. IsIn y S) (sym (e ∙ same)) m | inr o ↦ o ]) i
      where
        same : copied_literal V t k ≡ k
        same = ap (λ v. lit v k.negative) (copy_of-out V t k.var q)

all_from_copied : (Z : Matrix) (u : ℕ) (V : List ℕ) (t : ℕ) (C S : Clause) → Copies (Link Z u) V t → IsIn (minus u) S → ((k : Literal) → IsIn k (copied V t C) → IsIn k S) → ((T : Clause) → ((k : Literal) → IsIn k S → IsIn k T) → ((k : Literal) → IsIn k C → IsIn k T) → Implied Z T) → Implied Z S
all_from_copied Z u V t [] S c n w f = f S (λ k m. m) (λ k m. elim m [ ])
all_from_copied Z u V t (j ∷ C) S c n w f = from_copied Z u V t j S c n (w (copied_literal V t j) (IsIn-insert (copied_literal V t j) (copied V t C) (copied_literal V t j) (inl refl)))
    (all_from_copied Z u V t C (j ∷ S) c (inr n) (λ k m. inr (w k (IsIn-insert (copied_literal V t j) (copied V t C) k (inr m))))
    (λ T a b. f T (λ k m. a k (inr m)) (λ k m. elim m [ inl e ↦ a k (inl e) | inr i ↦ b k i ])))

all_to_copied : (Z : Matrix) (u : ℕ) (V : List ℕ) (t : ℕ) (C S : Clause) → Copies (Link Z u) V t → IsIn (minus u) S → ((k : Literal) → IsIn k C → IsIn k S) → ((T : Clause) → ((k : Literal) → IsIn k S → IsIn k T) → ((k : Literal) → IsIn k (copied V t C) → IsIn k T) → Implied Z T) → Implied Z S
all_to_copied Z u V t [] S c n w f = f S (λ k m. m) (λ k m. elim m [ ])
all_to_copied Z u V t (j ∷ C) S c n w f = to_copied Z u V t j S c n (w j (inl refl))
    (all_to_copied Z u V t C (copied_literal V t j ∷ S) c (inr n) (λ k m. inr (w k (inr m)))
    (λ T a b. f T (λ k m. a k (inr m)) (λ k m. elim (insert-IsIn (copied_literal V t j) (copied V t C) k m) [ inl e ↦ a k (inl e) | inr i ↦ b k i ])))

-- The clause over the copies, with not u.
abbrev pub over_copies : ℕ → List ℕ → ℕ → Clause → Clause
over_copies u V t D = insert (minus u) (copied V t (without (minus u) D))

pub over_copies-implied : (Z : Matrix) (u : ℕ) (V : List ℕ) (t : ℕ) (D : Clause) → Copies (Link Z u) V t → IsIn D Z → Implied Z (over_copies u V t D)
over_copies-implied Z u V t D c m = all_from_copied Z u V t (without (minus u) D) S c n (λ k i. IsIn-insert (minus u) (copied V t (without (minus u) D)) k (inr i))
    (λ T a b. implied-subsumed Z D T m (λ k i. go T a b k i (literal_eq k (minus u)) refl))
  where
    S : Clause
    S = over_copies u V t D

    n : IsIn (minus u) (over_copies u V t D)
    n = IsIn-insert (minus u) (copied V t (without (minus u) D)) (minus u) (inl refl)

    go : (T : Clause) → ((k : Literal) → IsIn k (over_copies u V t D) → IsIn k T) → ((k : Literal) → IsIn k (without (minus u) D) → IsIn k T) → (k : Literal) → IsIn k D → (b : Bool) → literal_eq k (minus u) ≡ b → IsIn k T
    go T a b k i true q = a k (subst (λ y. IsIn y (over_copies u V t D)) (sym (literal_eq-sound k (minus u) q)) n)
    go T a b k i false q = b k (IsIn-without (minus u) D k i q)

pub implied-by_copies : (Z : Matrix) (u : ℕ) (V : List ℕ) (t : ℕ) (D S : Clause) → Copies (Link Z u) V t → IsIn (over_copies u V t D) Z → IsIn (minus u) S → ((k : Literal) → IsIn k (without (minus u) D) → IsIn k S) → Implied Z S
implied-by_copies Z u V t D S c m n w = all_to_copied Z u V t (without (minus u) D) S c n w
    (λ T a b. implied-subsumed Z (over_copies u V t D) T m (λ k i. elim (insert-IsIn (minus u) (copied V t (without (minus u) D)) k i) [ inl e ↦ a k (subst (λ y. IsIn y S) (sym e) n) | inr j ↦ b k j ]))

-- They come, each by its pivot.
abbrev pub link_steps : ℕ → List ℕ → ℕ → List ProofStep
link_steps u [] t = []
link_steps u (x ∷ V) t = add (Some (lit t false)) (link u (lit t false) (lit x true)) ∷ add (Some (lit t true)) (link u (lit t true) (lit x false)) ∷ link_steps u V (t + 1)

abbrev pub VarsBelow : ℕ → Matrix → Type 0
VarsBelow t Z = (D : Clause) → IsIn D Z → (k : Literal) → IsIn k D → k.var < t

abbrev pub Originals : Prefix → ℕ → ℕ → List ℕ → Type 0
Originals Q u t [] = Unit {0}
Originals Q u t (x ∷ V) = ((is_existential Q x ≡ true) × (outer_or_same Q u x ≡ true) × (x < t) × (eqb x u ≡ false) × (in_list x V ≡ false)) × Originals Q u t V

originals-later : (Q : Prefix) (u t : ℕ) (V : List ℕ) → Originals Q u t V → Originals Q u (t + 1) V
originals-later Q u t [] o = tt
originals-later Q u t (x ∷ V) o = let l : x < t = o.0.2 in ((o.0.0, o.0.1, grind arith, o.0.3, o.0.4), originals-later Q u t V o.1)

link-is_bound : (Q : Prefix) (u : ℕ) (a b : Literal) → is_bound Q u ≡ true → is_bound Q a.var ≡ true → is_bound Q b.var ≡ true → (k : Literal) → IsIn k (link u a b) → is_bound Q k.var ≡ true
link-is_bound Q u a b h i j k m = elim (link-IsIn u a b k m) [ inl e ↦ subst (λ y. is_bound Q y.var ≡ true) (sym e) i | inr r ↦ elim r [ inl e ↦ subst (λ y. is_bound Q y.var ≡ true) (sym e) h | inr e ↦ subst (λ y. is_bound Q y.var ≡ true) (sym e) j ] ]

link-below : (u t : ℕ) (a b : Literal) → u < t → a.var < t → b.var < t → (k : Literal) → IsIn k (link u a b) → k.var < t
link-below u t a b h i j k m = elim (link-IsIn u a b k m) [ inl e ↦ subst (λ y. y.var < t) (sym e) i | inr r ↦ elim r [ inl e ↦ subst (λ y. y.var < t) (sym e) h | inr e ↦ subst (λ y. y.var < t) (sym e) j ] ]

pub reaches-links : (Q : Prefix) (u : ℕ) (V : List ℕ) (t : ℕ) (Z : Matrix) → is_bound Q u ≡ true → u < t → Copies (CopyOf Q) V t → Originals Q u t V → VarsBelow t Z → Reaches (formula_of Q Z) (link_steps u V t) (formula_of Q (links u V t ++ Z))
reaches-links Q u [] t Z ub ul c o v = (refl, alike-refl Z)
reaches-links Q u (x ∷ V) t Z ub ul c o v = (
  (link-is_bound Q u (lit t false) (lit x true) ub copy_bound original_bound, inr (lit t false, refl, pivot1)),
  (
    (link-is_bound Q u (lit t true) (lit x false) ub copy_bound original_bound, inr (lit t true, refl, pivot2)),
    reaches-end Q (links u V (t + 1) ++ (L2 ∷ L1 ∷ Z)) (L1 ∷ L2 ∷ (links u V (t + 1) ++ Z)) (formula_of Q (L2 ∷ L1 ∷ Z)) (link_steps u V (t + 1)) turned
        (reaches-links Q u V (t + 1) (L2 ∷ L1 ∷ Z) ub (let l : u < t = ul in grind arith) c.1 (originals-later Q u t V o.1) below2),
  ),
)
  where
    L1 : Clause
    L1 = link u (lit t false) (lit x true)

    L2 : Clause
    L2 = link u (lit t true) (lit x false)

    copy_bound : is_bound Q t ≡ true
    copy_bound = existential-is_bound Q t c.0.0

    original_bound : is_bound Q x ≡ true
    original_bound = existential-is_bound Q x o.0.0

    turned : SameClauses (links u V (t + 1) ++ (link u (lit t true) (lit x false) ∷ link u (lit t false) (lit x true) ∷ Z)) (link u (lit t false) (lit x true) ∷ link u (lit t true) (lit x false) ∷ (links u V (t + 1) ++ Z))
    turned = alike-trans (links u V (t + 1) ++ (L2 ∷ L1 ∷ Z)) (L2 ∷ (links u V (t + 1) ++ (L1 ∷ Z))) (L1 ∷ L2 ∷ (links u V (t + 1) ++ Z)) (alike-turned L2 (links u V (t + 1)) (L1 ∷ Z))
        (alike-trans (L2 ∷ (links u V (t + 1) ++ (L1 ∷ Z))) (L2 ∷ L1 ∷ (links u V (t + 1) ++ Z)) (L1 ∷ L2 ∷ (links u V (t + 1) ++ Z)) (alike-cons L2 (links u V (t + 1) ++ (L1 ∷ Z)) (L1 ∷ (links u V (t + 1) ++ Z)) (alike-turned L1 (links u V (t + 1)) Z)) (alike-swap L2 L1 (links u V (t + 1) ++ Z)))

    no_t : (D : Clause) → IsIn D Z → (k : Literal) → k.var ≡ t → IsIn k D → ⊥
    no_t D m k e i = let l : k.var < t = v D m k i in grind arith

    pivot1 : ExistsPivot Q Z (link u (lit t false) (lit x true)) (lit t false)
    pivot1 = record { existential_pivot = c.0.0; in_clause = link-first u (lit t false) (lit x true); implied = λ D m i. absurd (no_t D m (lit t true) refl i) }

    kept : keeps Q (lit t false) (lit x true) ≡ true
    kept = let a : outer_or_same Q x t ≡ true = c.0.1 in grind arith

    pivot2 : ExistsPivot Q (link u (lit t false) (lit x true) ∷ Z) (link u (lit t true) (lit x false)) (lit t true)
    pivot2 = record { existential_pivot = c.0.0; in_clause = link-first u (lit t true) (lit x false); implied = go }
      where
        go : (D : Clause) → IsIn D (L1 ∷ Z) → IsIn (lit t false) D → Implied (L1 ∷ Z) (L2 ++ outer Q (lit t false) D)
        go D (inl e) i = implied-tautology (L1 ∷ Z) (L2 ++ outer Q (lit t false) D) (
          lit x false,
          IsIn-append_left (lit x false) L2 (outer Q (lit t false) D) (link-last u (lit t true) (lit x false)),
          IsIn-append_right (lit x true) L2 (outer Q (lit t false) D) (IsIn-outer_in Q (lit t false) D (lit x true) (subst (IsIn (lit x true)) (sym e) (link-last u (lit t false) (lit x true))) kept),
        )
        go D (inr m) i = absurd (no_t D m (lit t false) refl i)

    below2 : VarsBelow (t + 1) (link u (lit t true) (lit x false) ∷ link u (lit t false) (lit x true) ∷ Z)
    below2 D m k i =
        let l : x < t = o.0.2 in
        let h : u < t = ul in
        elim m [
          | inl e ↦ link-below u (t + 1) (lit t true) (lit x false) (grind arith) (grind arith) (grind arith) k (subst (IsIn k) e i)
          | inr r ↦ elim r [
            | inl e ↦ link-below u (t + 1) (lit t false) (lit x true) (grind arith) (grind arith) (grind arith) k (subst (IsIn k) e i)
            | inr j ↦ let y : k.var < t = v D j k i in grind arith
          ]
        ]

-- They go.
abbrev pub unlink_steps : ℕ → List ℕ → ℕ → List ProofStep
unlink_steps u [] t = []
unlink_steps u (x ∷ V) t = delete (Some (lit x true)) (link u (lit t false) (lit x true)) ∷ delete (Some (lit x false)) (link u (lit t true) (lit x false)) ∷ unlink_steps u V (t + 1)

links-vars : (u : ℕ) (V : List ℕ) (t : ℕ) (D : Clause) → IsIn D (links u V t) → (k : Literal) → IsIn k D → (t ≤ k.var) ⊎ ((k.var ≡ u) ⊎ (in_list k.var V ≡ true))
links-vars u [] t D m k i = elim m [ ]
links-vars u (x ∷ V) t D m k i = elim m [
  | inl e ↦ one (link-IsIn u (lit t false) (lit x true) k (subst (IsIn k) e i))
  | inr r ↦ elim r [ inl e ↦ two (link-IsIn u (lit t true) (lit x false) k (subst (IsIn k) e i)) | inr j ↦ rest (links-vars u V (t + 1) D j k i) ]
]
  where
    first : (b : Bool) → k ≡ lit t b → (t ≤ k.var) ⊎ ((k.var ≡ u) ⊎ (in_list k.var (x ∷ V) ≡ true))
    first b e = inl (let z : k.var ≡ t = ap (λ y. y.var) e in grind arith)

    last : (b : Bool) → k ≡ lit x b → (t ≤ k.var) ⊎ ((k.var ≡ u) ⊎ (in_list k.var (x ∷ V) ≡ true))
    last b e = inr (inr (let z : k.var ≡ x = ap (λ y. y.var) e in grind arith))

    one : (k ≡ lit t false) ⊎ ((k ≡ minus u) ⊎ (k ≡ lit x true)) → (t ≤ k.var) ⊎ ((k.var ≡ u) ⊎ (in_list k.var (x ∷ V) ≡ true))
    one (inl e) = first false e
    one (inr (inl e)) = inr (inl (ap (λ y. y.var) e))
    one (inr (inr e)) = last true e

    two : (k ≡ lit t true) ⊎ ((k ≡ minus u) ⊎ (k ≡ lit x false)) → (t ≤ k.var) ⊎ ((k.var ≡ u) ⊎ (in_list k.var (x ∷ V) ≡ true))
    two (inl e) = first true e
    two (inr (inl e)) = inr (inl (ap (λ y. y.var) e))
    two (inr (inr e)) = last false e

    rest : (t + 1 ≤ k.var) ⊎ ((k.var ≡ u) ⊎ (in_list k.var V ≡ true)) → (t ≤ k.var) ⊎ ((k.var ≡ u) ⊎ (in_list k.var (x ∷ V) ≡ true))
    rest (inl l) = inl (grind arith)
    rest (inr (inl e)) = inr (inl e)
    rest (inr (inr h)) = inr (inr (grind arith))

-- Where x is, u is.
abbrev pub Guarded : ℕ → List ℕ → Matrix → Type 0
Guarded u V Z = (D : Clause) → IsIn D Z → (k : Literal) → IsIn k D → in_list k.var V ≡ true → IsIn (positive u) D

pub reaches-unlinks : (Q : Prefix) (u : ℕ) (V : List ℕ) (t : ℕ) (Z : Matrix) → u < t → Copies (CopyOf Q) V t → Originals Q u t V → Guarded u V Z → Reaches (formula_of Q (links u V t ++ Z)) (unlink_steps u V t) (formula_of Q Z)
reaches-unlinks Q u [] t Z ul c o g = (refl, alike-refl Z)
reaches-unlinks Q u (x ∷ V) t Z ul c o g =
    step-first Q (Some (lit x true)) L1 (L2 ∷ W) (delete (Some (lit x false)) L2 ∷ unlink_steps u V (t + 1)) (formula_of Q Z) (inr (lit x true, refl, pivot1))
    (step-first Q (Some (lit x false)) L2 W (unlink_steps u V (t + 1)) (formula_of Q Z) (inr (lit x false, refl, pivot2))
    (reaches-unlinks Q u V (t + 1) Z (let l : u < t = ul in grind arith) c.1 (originals-later Q u t V o.1) (λ D m k i h. g D m k i (grind arith))))
  where
    L1 : Clause
    L1 = link u (lit t false) (lit x true)

    L2 : Clause
    L2 = link u (lit t true) (lit x false)

    W : Matrix
    W = links u V (t + 1) ++ Z

    itself : in_list x (x ∷ V) ≡ true
    itself = let e : eqb x x ≡ true = grind arith in rw e refl

    not_link : (D : Clause) → IsIn D (links u V (t + 1)) → (k : Literal) → k.var ≡ x → IsIn k D → ⊥
    not_link D m k e i = go (links-vars u V (t + 1) D m k i)
      where
        go : (t + 1 ≤ k.var) ⊎ ((k.var ≡ u) ⊎ (in_list k.var V ≡ true)) → ⊥
        go (inl l) = let a : x < t = o.0.2 in grind arith
        go (inr (inl f)) = let a : eqb x u ≡ false = o.0.3 in grind arith
        go (inr (inr h)) = let a : in_list x V ≡ false = o.0.4 in let z : in_list x V ≡ true = subst (λ y. in_list y V ≡ true) e h in grind arith

    -- u is in the outer clause.
    kept_u : (b : Bool) → keeps Q (lit x b) (positive u) ≡ true
    kept_u b = let a : outer_or_same Q u x ≡ true = o.0.1 in let n : eqb x u ≡ false = o.0.3 in grind arith

    guarded : (b : Bool) (D : Clause) → IsIn D (links u V (t + 1) ++ Z) → IsIn (lit x b) D → IsIn (positive u) D
    guarded b D m i = elim (IsIn-append D (links u V (t + 1)) Z m) [ inl a ↦ absurd (not_link D a (lit x b) refl i) | inr a ↦ g D a (lit x b) i itself ]

    pivot1 : ExistsPivot Q (link u (lit t true) (lit x false) ∷ (links u V (t + 1) ++ Z)) (link u (lit t false) (lit x true)) (lit x true)
    pivot1 = record { existential_pivot = o.0.0; in_clause = link-last u (lit t false) (lit x true); implied = go }
      where
        kept : keeps Q (lit x false) (lit t true) ≡ true
        kept = let a : outer_or_same Q t x ≡ true = c.0.2 in grind arith

        go : (D : Clause) → IsIn D (L2 ∷ W) → IsIn (lit x false) D → Implied (L2 ∷ W) (L1 ++ outer Q (lit x false) D)
        go D (inl e) i = implied-tautology (L2 ∷ W) (L1 ++ outer Q (lit x false) D) (
          lit t false,
          IsIn-append_left (lit t false) L1 (outer Q (lit x false) D) (link-first u (lit t false) (lit x true)),
          IsIn-append_right (lit t true) L1 (outer Q (lit x false) D) (IsIn-outer_in Q (lit x false) D (lit t true) (subst (IsIn (lit t true)) (sym e) (link-first u (lit t true) (lit x false))) kept),
        )
        go D (inr m) i = implied-tautology (L2 ∷ W) (L1 ++ outer Q (lit x false) D) (
          positive u,
          IsIn-append_right (positive u) L1 (outer Q (lit x false) D) (IsIn-outer_in Q (lit x false) D (positive u) (guarded false D m i) (kept_u false)),
          IsIn-append_left (minus u) L1 (outer Q (lit x false) D) (link-minus u (lit t false) (lit x true)),
        )

    pivot2 : ExistsPivot Q (links u V (t + 1) ++ Z) (link u (lit t true) (lit x false)) (lit x false)
    pivot2 = record { existential_pivot = o.0.0; in_clause = link-last u (lit t true) (lit x false); implied = go }
      where
        go : (D : Clause) → IsIn D W → IsIn (lit x true) D → Implied W (L2 ++ outer Q (lit x true) D)
        go D m i = implied-tautology W (L2 ++ outer Q (lit x true) D) (
          positive u,
          IsIn-append_right (positive u) L2 (outer Q (lit x true) D) (IsIn-outer_in Q (lit x true) D (positive u) (guarded true D m i) (kept_u true)),
          IsIn-append_left (minus u) L2 (outer Q (lit x true) D) (link-minus u (lit t true) (lit x false)),
        )
