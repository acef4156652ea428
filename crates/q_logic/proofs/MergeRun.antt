-- Putting a literal in place of an equivalent one is a run.
use Rattle.std.proofs.Common.{◌≡◌, ℕ, Bool, true, false, cond, eqb, List, [], ◌∷◌, ◌++◌, ◌⊎◌, inl, inr, arith, refl, sym, ◌∙◌, subst, Some, ◌≤◌, ◌+◌, ◌-◌, length}
use Rattle.q_logic.specs.Prelude.{insert, has_variable, Literal, negation, literal_eq, Clause, Matrix, Prefix, IsIn, is_bound, outer_or_same, run_to, Implied, keeps, outer, ExistsPivot, ProofStep, add, delete, IsTautology, put_unless_tautology, is_tautology, formula_of, Slots, live, merge, Joined, Mergeable, renamed_literal, renamed, merged, Fits, change, standard}
use Rattle.q_logic.specs.declared.rule_bounds.Bounds.{Bounds}
use Rattle.q_logic.specs.declared.formulas.Quant.{Quant}
use Rattle.q_logic.proofs.JustifiedRuns.{SameClauses, Reaches}
use Rattle.q_logic.proofs.ClauseLemmas.{literal_eq-sound, IsIn-append_left, IsIn-append, IsIn-append_right}
use Rattle.q_logic.proofs.PrefixOrder.{existential-is_bound}
use Rattle.q_logic.proofs.JustifiedRuns.{alike-refl, alike-trans, alike-sym, alike-cons, alike-swap, reaches-alike, reaches-append, reaches-end}
use Rattle.q_logic.proofs.ImpliedClauses.{implied-subsumed, implied-tautology, implied-hidden, implied-hidden_new, implied-longer, negation-negation}
use Rattle.q_logic.proofs.ChangeRuns.{least, reaches-delete, step-first, alike-turned}
use Rattle.q_logic.proofs.Heights.{rise, weight, one, FreshUpTo, Modest, Way, modest-append}
use Rattle.q_logic.proofs.JoinedClauses.{insert-length, insert-IsIn, IsIn-insert, is_tautology-sound, IsIn-outer_in}
use Rattle.q_logic.proofs.PlainRuns.{pure-pivot}

run_to-is_bound : (q : Quant) (P : Prefix) (a : ℕ) → run_to q P a ≡ true → is_bound P a ≡ true
run_to-is_bound q [] a h = h
run_to-is_bound q (b ∷ P) a h = grind (arith, run_to-is_bound q P a)

pub outer_or_same-is_bound : (P : Prefix) (a v : ℕ) → outer_or_same P a v ≡ true → is_bound P a ≡ true
outer_or_same-is_bound [] a v h = h
outer_or_same-is_bound (b ∷ P) a v h = grind (arith, outer_or_same-is_bound P a v, run_to-is_bound b.quant P a)

-- From x to q by clauses of two literals.
pub joined-implied : (X : Matrix) (q x : Literal) → Joined X q x → (S : Clause) → IsIn (negation x) S → IsIn q S → Implied X S
joined-implied X q x Joined.here S a b = implied-tautology X S (q, b, a)
joined-implied X q x (Joined.on {y = y} w h j) S a b = implied-hidden X h.clause S y h.there h.second
    (λ k m d. elim (h.only k m) [ inl e ↦ subst (λ z. IsIn z S) (sym e) a | inr e ↦ absurd (d e) ])
    (joined-implied X q y j (negation y ∷ S) (inl refl) (inr b))

joined-more : (X Y : Matrix) → ((D : Clause) → IsIn D X → IsIn D Y) → (q x : Literal) → Joined X q x → Joined Y q x
joined-more X Y f q x Joined.here = Joined.here
joined-more X Y f q x (Joined.on {y = y} w h j) = Joined.on w (record { clause = h.clause; there = f h.clause h.there; two = h.two; first = h.first; second = h.second; only = h.only }) (joined-more X Y f q y j)

abbrev pub pair : Literal → Literal → Clause
pair j k = insert j (k ∷ [])

pair-IsIn : (j k i : Literal) → IsIn i (pair j k) → (i ≡ j) ⊎ (i ≡ k)
pair-IsIn j k i m = elim (insert-IsIn j (k ∷ []) i m) [ inl e ↦ inl e | inr n ↦ elim n [ inl e ↦ inr e | inr x ↦ elim x [ ] ] ]

pair-first : (j k : Literal) → IsIn j (pair j k)
pair-first j k = IsIn-insert j (k ∷ []) j (inl refl)

pair-second : (j k : Literal) → IsIn k (pair j k)
pair-second j k = IsIn-insert j (k ∷ []) k (inr (inl refl))

-- Where j is in S, and {not i, j} is a clause, i may come in.
grows_by_pair : (Z : Matrix) (i j : Literal) (S : Clause) → IsIn (pair (negation i) j) Z ⊎ IsIn (pair j (negation i)) Z → IsIn j S → Implied Z (i ∷ S) → Implied Z S
grows_by_pair Z i j S (inl m) n h = implied-hidden_new Z (pair (negation i) j) S i m (pair-first (negation i) j) (λ k a d. elim (pair-IsIn (negation i) j k a) [ inl e ↦ absurd (d e) | inr e ↦ subst (λ z. IsIn z S) (sym e) n ]) h
grows_by_pair Z i j S (inr m) n h = implied-hidden_new Z (pair j (negation i)) S i m (pair-second j (negation i)) (λ k a d. elim (pair-IsIn j (negation i) k a) [ inl e ↦ subst (λ z. IsIn z S) (sym e) n | inr e ↦ absurd (d e) ]) h

pub renamed_literal-cases : (keep gone k : Literal) → ((k ≡ gone) × (renamed_literal keep gone k ≡ keep)) ⊎ (((k ≡ negation gone) × (renamed_literal keep gone k ≡ negation keep)) ⊎ (renamed_literal keep gone k ≡ k))
renamed_literal-cases keep gone k = go (literal_eq k gone) refl (literal_eq k (negation gone)) refl
  where
    go : (a : Bool) → literal_eq k gone ≡ a → (b : Bool) → literal_eq k (negation gone) ≡ b →
        ((k ≡ gone) × (cond a keep (cond b (negation keep) k) ≡ keep)) ⊎ (((k ≡ negation gone) × (cond a keep (cond b (negation keep) k) ≡ negation keep)) ⊎ (cond a keep (cond b (negation keep) k) ≡ k))
    go true p b q = inl (literal_eq-sound k gone p, refl)
    go false p true q = inr (inl (literal_eq-sound k (negation gone) q, refl))
    go false p false q = inr (inr refl)

-- The two clauses that join them, in a matrix.
pub record Linked (Z : Matrix) (keep gone : Literal) : Type 0 where
  pub keep_gives_gone : IsIn (pair (negation keep) gone) Z
  pub gone_gives_keep : IsIn (pair keep (negation gone)) Z

to_renamed : (Z : Matrix) (keep gone k : Literal) (S : Clause) → Linked Z keep gone → IsIn k S → Implied Z (renamed_literal keep gone k ∷ S) → Implied Z S
to_renamed Z keep gone k S h m i = elim (renamed_literal-cases keep gone k) [
  | inl a ↦ grows_by_pair Z keep gone S (inl h.keep_gives_gone) (subst (λ z. IsIn z S) a.0 m) (subst (λ z. Implied Z (z ∷ S)) a.1 i)
  | inr r ↦ elim r [
    | inl b ↦ grows_by_pair Z (negation keep) (negation gone) S (inl (subst (λ z. IsIn (pair z (negation gone)) Z) (sym (negation-negation keep)) h.gone_gives_keep)) (subst (λ z. IsIn z S) b.0 m) (subst (λ z. Implied Z (z ∷ S)) b.1 i)
    | inr e ↦ implied-longer Z (k ∷ S) S (λ j n. elim n [ inl f ↦ subst (λ z. IsIn z S) (sym f) m | inr o ↦ o ]) (subst (λ z. Implied Z (z ∷ S)) e i)
  ]
]

from_renamed : (Z : Matrix) (keep gone k : Literal) (S : Clause) → Linked Z keep gone → IsIn (renamed_literal keep gone k) S → Implied Z (k ∷ S) → Implied Z S
from_renamed Z keep gone k S h m i = elim (renamed_literal-cases keep gone k) [
  | inl a ↦ grows_by_pair Z gone keep S (inr h.gone_gives_keep) (subst (λ z. IsIn z S) a.1 m) (subst (λ z. Implied Z (z ∷ S)) a.0 i)
  | inr r ↦ elim r [
    | inl b ↦ grows_by_pair Z (negation gone) (negation keep) S (inr (subst (λ z. IsIn (pair (negation keep) z) Z) (sym (negation-negation gone)) h.keep_gives_gone)) (subst (λ z. IsIn z S) b.1 m) (subst (λ z. Implied Z (z ∷ S)) b.0 i)
    | inr e ↦ implied-longer Z (k ∷ S) S (λ j n. elim n [ inl f ↦ subst (λ z. IsIn z S) (e ∙ sym f) m | inr o ↦ o ]) i
  ]
]

all_to_renamed : (Z : Matrix) (keep gone : Literal) (C S : Clause) → Linked Z keep gone → ((k : Literal) → IsIn k C → IsIn k S) → ((T : Clause) → ((k : Literal) → IsIn k S → IsIn k T) → ((k : Literal) → IsIn k (renamed keep gone C) → IsIn k T) → Implied Z T) → Implied Z S
all_to_renamed Z keep gone [] S h w f = f S (λ k m. m) (λ k m. elim m [ ])
all_to_renamed Z keep gone (j ∷ C) S h w f = to_renamed Z keep gone j S h (w j (inl refl))
    (all_to_renamed Z keep gone C (renamed_literal keep gone j ∷ S) h (λ k m. inr (w k (inr m)))
    (λ T a b. f T (λ k m. a k (inr m)) (λ k m. elim (insert-IsIn (renamed_literal keep gone j) (renamed keep gone C) k m) [ inl e ↦ a k (inl e) | inr n ↦ b k n ])))

all_from_renamed : (Z : Matrix) (keep gone : Literal) (C S : Clause) → Linked Z keep gone → ((k : Literal) → IsIn k (renamed keep gone C) → IsIn k S) → ((T : Clause) → ((k : Literal) → IsIn k S → IsIn k T) → ((k : Literal) → IsIn k C → IsIn k T) → Implied Z T) → Implied Z S
all_from_renamed Z keep gone [] S h w f = f S (λ k m. m) (λ k m. elim m [ ])
all_from_renamed Z keep gone (j ∷ C) S h w f = from_renamed Z keep gone j S h (w (renamed_literal keep gone j) (IsIn-insert (renamed_literal keep gone j) (renamed keep gone C) (renamed_literal keep gone j) (inl refl)))
    (all_from_renamed Z keep gone C (j ∷ S) h (λ k m. inr (w k (IsIn-insert (renamed_literal keep gone j) (renamed keep gone C) k (inr m))))
    (λ T a b. f T (λ k m. a k (inr m)) (λ k m. elim m [ inl e ↦ a k (inl e) | inr n ↦ b k n ])))

-- Over the two clauses C and its renaming imply one another, and C is implied where its renaming is a tautology.
pub renamed-implied : (Z : Matrix) (keep gone : Literal) (C : Clause) → Linked Z keep gone → IsIn C Z → Implied Z (renamed keep gone C)
renamed-implied Z keep gone C h m = all_from_renamed Z keep gone C (renamed keep gone C) h (λ k i. i) (λ T a b. implied-subsumed Z C T m b)

pub implied-by_renamed : (Z : Matrix) (keep gone : Literal) (C : Clause) → Linked Z keep gone → IsIn (renamed keep gone C) Z ⊎ IsTautology (renamed keep gone C) → Implied Z C
implied-by_renamed Z keep gone C h m = all_to_renamed Z keep gone C C h (λ k i. i)
    (λ T a b. elim m [ inl i ↦ implied-subsumed Z (renamed keep gone C) T i b | inr t ↦ implied-tautology Z T (t.0, b t.0 t.1, b (negation t.0) t.2) ])

-- The clauses W become their renamings; Y stays.
abbrev merge_one : Literal → Literal → Clause → List ProofStep
merge_one keep gone C = cond (is_tautology (renamed keep gone C)) (delete (least C) C ∷ []) (add (least (renamed keep gone C)) (renamed keep gone C) ∷ delete (least C) C ∷ [])

abbrev merge_steps : Literal → Literal → Matrix → List ProofStep
merge_steps keep gone [] = []
merge_steps keep gone (C ∷ W) = merge_one keep gone C ++ merge_steps keep gone W

abbrev pub renamed_all : Literal → Literal → Matrix → Matrix
renamed_all keep gone [] = []
renamed_all keep gone (C ∷ W) = put_unless_tautology (renamed keep gone C) (renamed_all keep gone W)

reaches-renamed : (P : Prefix) (keep gone : Literal) (W Y : Matrix) → ((C : Clause) → IsIn C W → (k : Literal) → IsIn k (renamed keep gone C) → is_bound P k.var ≡ true) → Linked Y keep gone → Reaches (formula_of P (W ++ Y)) (merge_steps keep gone W) (formula_of P (renamed_all keep gone W ++ Y))
reaches-renamed P keep gone [] Y w h = (refl, alike-refl Y)
reaches-renamed P keep gone (C ∷ W) Y w h = go (is_tautology (renamed keep gone C)) refl
    (λ V g. reaches-renamed P keep gone W V (λ D m. w D (inr m)) g)
  where
    R : Clause
    R = renamed keep gone C

    more : (V : Matrix) → Linked (V ++ Y) keep gone
    more V = record { keep_gives_gone = IsIn-append_right (pair (negation keep) gone) V Y h.keep_gives_gone; gone_gives_keep = IsIn-append_right (pair keep (negation gone)) V Y h.gone_gives_keep }

    front : (D : Clause) (V : Matrix) → Linked V keep gone → Linked (D ∷ V) keep gone
    front D V g = record { keep_gives_gone = inr g.keep_gives_gone; gone_gives_keep = inr g.gone_gives_keep }

    go : (b : Bool) → is_tautology R ≡ b → ((V : Matrix) → Linked V keep gone → Reaches (formula_of P (W ++ V)) (merge_steps keep gone W) (formula_of P (renamed_all keep gone W ++ V)))
        → Reaches (formula_of P (C ∷ (W ++ Y))) (cond b (delete (least C) C ∷ []) (add (least R) R ∷ delete (least C) C ∷ []) ++ merge_steps keep gone W) (formula_of P (cond b (renamed_all keep gone W) (R ∷ renamed_all keep gone W) ++ Y))
    go true q ih = step-first P (least C) C (W ++ Y) (merge_steps keep gone W) (formula_of P (renamed_all keep gone W ++ Y)) (inl (implied-by_renamed (W ++ Y) keep gone C (more W) (inr (is_tautology-sound R q)))) (ih Y h)
    go false q ih = (
      (w C (inl refl), inl (renamed-implied (C ∷ (W ++ Y)) keep gone C (front C (W ++ Y) (more W)) (inl refl))),
      reaches-alike P (C ∷ R ∷ (W ++ Y)) (R ∷ C ∷ (W ++ Y)) (delete (least C) C ∷ merge_steps keep gone W) (formula_of P ((R ∷ renamed_all keep gone W) ++ Y)) (alike-swap C R (W ++ Y))
          (step-first P (least C) C (R ∷ (W ++ Y)) (merge_steps keep gone W) (formula_of P ((R ∷ renamed_all keep gone W) ++ Y)) (inl (implied-by_renamed (R ∷ (W ++ Y)) keep gone C (front R (W ++ Y) (more W)) (inl (inl refl))))
          (reaches-alike P (W ++ (R ∷ Y)) (R ∷ (W ++ Y)) (merge_steps keep gone W) (formula_of P ((R ∷ renamed_all keep gone W) ++ Y)) (alike-turned R W Y)
          (reaches-end P (renamed_all keep gone W ++ (R ∷ Y)) ((R ∷ renamed_all keep gone W) ++ Y) (formula_of P (W ++ (R ∷ Y))) (merge_steps keep gone W) (alike-turned R (renamed_all keep gone W) Y)
          (ih (R ∷ Y) (front R Y h))))),
    )

-- Clauses with the variable, and without.
abbrev pub with_var : ℕ → Matrix → Matrix
with_var v [] = []
with_var v (C ∷ X) = cond (has_variable v C) (C ∷ with_var v X) (with_var v X)

abbrev pub without_var : ℕ → Matrix → Matrix
without_var v [] = []
without_var v (C ∷ X) = cond (has_variable v C) (without_var v X) (C ∷ without_var v X)

with_var-alike : (v : ℕ) (X : Matrix) → SameClauses X (with_var v X ++ without_var v X)
with_var-alike v [] = alike-refl []
with_var-alike v (E ∷ X) = go (has_variable v E) (with_var-alike v X)
  where
    go : (b : Bool) → SameClauses X (with_var v X ++ without_var v X) → SameClauses (E ∷ X) (cond b (E ∷ with_var v X) (with_var v X) ++ cond b (without_var v X) (E ∷ without_var v X))
    go true ih = alike-cons E X (with_var v X ++ without_var v X) ih
    go false ih = alike-trans (E ∷ X) (E ∷ (with_var v X ++ without_var v X)) (with_var v X ++ (E ∷ without_var v X)) (alike-cons E X (with_var v X ++ without_var v X) ih) (alike-sym (with_var v X ++ (E ∷ without_var v X)) (E ∷ (with_var v X ++ without_var v X)) (alike-turned E (with_var v X) (without_var v X)))

pub merged-alike : (keep gone : Literal) (X : Matrix) → SameClauses (renamed_all keep gone (with_var gone.var X) ++ without_var gone.var X) (merged keep gone X)
merged-alike keep gone [] = alike-refl []
merged-alike keep gone (E ∷ X) = go (has_variable gone.var E) (is_tautology (renamed keep gone E)) (merged-alike keep gone X)
  where
    A : Matrix
    A = renamed_all keep gone (with_var gone.var X)

    B : Matrix
    B = without_var gone.var X

    M : Matrix
    M = merged keep gone X

    go : (b t : Bool) → SameClauses (A ++ B) M → SameClauses (renamed_all keep gone (cond b (E ∷ with_var gone.var X) (with_var gone.var X)) ++ cond b B (E ∷ B)) (cond b (put_unless_tautology (renamed keep gone E) M) (E ∷ M))
    go true t ih = both (is_tautology (renamed keep gone E))
      where
        both : (t : Bool) → SameClauses (cond t A (renamed keep gone E ∷ A) ++ B) (cond t M (renamed keep gone E ∷ M))
        both true = ih
        both false = alike-cons (renamed keep gone E) (A ++ B) M ih
    go false t ih = alike-trans (A ++ (E ∷ B)) (E ∷ (A ++ B)) (E ∷ M) (alike-turned E A B) (alike-cons E (A ++ B) M ih)

pub has_var-IsIn : (v : ℕ) (C : Clause) → has_variable v C ≡ false → (k : Literal) → IsIn k C → eqb k.var v ≡ false
has_var-IsIn v [] h k m = elim m [ ]
has_var-IsIn v (j ∷ C) h k (inl e) = subst (λ y. eqb y.var v ≡ false) (sym e) (grind arith)
has_var-IsIn v (j ∷ C) h k (inr m) = has_var-IsIn v C (grind arith) k m

pub without_var-free : (v : ℕ) (X : Matrix) (D : Clause) → IsIn D (without_var v X) → (k : Literal) → IsIn k D → eqb k.var v ≡ false
without_var-free v [] D m k i = elim m [ ]
without_var-free v (E ∷ X) D m k i = go (has_variable v E) refl m (λ n. without_var-free v X D n k i)
  where
    go : (b : Bool) → has_variable v E ≡ b → IsIn D (cond b (without_var v X) (E ∷ without_var v X)) → (IsIn D (without_var v X) → eqb k.var v ≡ false) → eqb k.var v ≡ false
    go true q n ih = ih n
    go false q (inl e) ih = has_var-IsIn v E q k (subst (IsIn k) e i)
    go false q (inr n) ih = ih n

renamed_literal-free : (keep gone k : Literal) → eqb keep.var gone.var ≡ false → eqb (renamed_literal keep gone k).var gone.var ≡ false
renamed_literal-free keep gone k d = grind arith

pub renamed-free : (keep gone : Literal) (C : Clause) → eqb keep.var gone.var ≡ false → (k : Literal) → IsIn k (renamed keep gone C) → eqb k.var gone.var ≡ false
renamed-free keep gone [] d k m = elim m [ ]
renamed-free keep gone (j ∷ C) d k m = elim (insert-IsIn (renamed_literal keep gone j) (renamed keep gone C) k m)
    [ inl e ↦ subst (λ y. eqb y.var gone.var ≡ false) (sym e) (renamed_literal-free keep gone j d) | inr n ↦ renamed-free keep gone C d k n ]

pub renamed_all-free : (keep gone : Literal) (W : Matrix) → eqb keep.var gone.var ≡ false → (D : Clause) → IsIn D (renamed_all keep gone W) → (k : Literal) → IsIn k D → eqb k.var gone.var ≡ false
renamed_all-free keep gone [] d D m k i = elim m [ ]
renamed_all-free keep gone (C ∷ W) d D m k i = go (is_tautology (renamed keep gone C)) m (λ n. renamed_all-free keep gone W d D n k i)
  where
    go : (b : Bool) → IsIn D (cond b (renamed_all keep gone W) (renamed keep gone C ∷ renamed_all keep gone W)) → (IsIn D (renamed_all keep gone W) → eqb k.var gone.var ≡ false) → eqb k.var gone.var ≡ false
    go true n ih = ih n
    go false (inl e) ih = renamed-free keep gone C d k (subst (IsIn k) e i)
    go false (inr n) ih = ih n

renamed-is_bound : (P : Prefix) (keep gone : Literal) (C : Clause) → is_bound P keep.var ≡ true → ((k : Literal) → IsIn k C → is_bound P k.var ≡ true) → (k : Literal) → IsIn k (renamed keep gone C) → is_bound P k.var ≡ true
renamed-is_bound P keep gone [] b w k m = elim m [ ]
renamed-is_bound P keep gone (j ∷ C) b w k m = elim (insert-IsIn (renamed_literal keep gone j) (renamed keep gone C) k m)
    [ inl e ↦ subst (λ y. is_bound P y.var ≡ true) (sym e) (one (renamed_literal-cases keep gone j)) | inr n ↦ renamed-is_bound P keep gone C b (λ i x. w i (inr x)) k n ]
  where
    one : ((j ≡ gone) × (renamed_literal keep gone j ≡ keep)) ⊎ (((j ≡ negation gone) × (renamed_literal keep gone j ≡ negation keep)) ⊎ (renamed_literal keep gone j ≡ j)) → is_bound P (renamed_literal keep gone j).var ≡ true
    one (inl a) = subst (λ y. is_bound P y.var ≡ true) (sym a.1) b
    one (inr (inl c)) = subst (λ y. is_bound P y.var ≡ true) (sym c.1) b
    one (inr (inr e)) = subst (λ y. is_bound P y.var ≡ true) (sym e) (w j (inl refl))

pub with_var-IsIn : (v : ℕ) (X : Matrix) (D : Clause) → IsIn D (with_var v X) → IsIn D X
with_var-IsIn v [] D m = m
with_var-IsIn v (E ∷ X) D m = go (has_variable v E) m (with_var-IsIn v X D)
  where
    go : (b : Bool) → IsIn D (cond b (E ∷ with_var v X) (with_var v X)) → (IsIn D (with_var v X) → IsIn D X) → IsIn D (E ∷ X)
    go true (inl e) ih = inl e
    go true (inr n) ih = inr (ih n)
    go false n ih = inr (ih n)

-- What the steps of a merge add.
pub renamed-length : (keep gone : Literal) (C : Clause) → length (renamed keep gone C) ≤ length C
renamed-length keep gone [] = grind arith
renamed-length keep gone (k ∷ C) = let i : length (renamed keep gone C) ≤ length C = renamed-length keep gone C in let j : length (insert (renamed_literal keep gone k) (renamed keep gone C)) ≤ length (renamed keep gone C) + 1 = insert-length (renamed_literal keep gone k) (renamed keep gone C) in grind arith

merge-rise : (w : Clause → ℕ) (keep gone : Literal) → ((C : Clause) → w (renamed keep gone C) ≤ w C) → (W : Matrix) → rise w (merge_steps keep gone W) ≤ weight w W
merge-rise w keep gone h [] = omega arith
merge-rise w keep gone h (C ∷ W) = go (is_tautology (renamed keep gone C)) (h C) (merge-rise w keep gone h W)
  where
    less : (a c x : ℕ) → a ≤ x → a - c ≤ c + x
    less a c x i = omega arith

    more : (d a c x : ℕ) → d ≤ c → a ≤ x → d + (a - c) ≤ c + x
    more d a c x j i = omega arith

    go : (b : Bool) → w (renamed keep gone C) ≤ w C → rise w (merge_steps keep gone W) ≤ weight w W
        → rise w (cond b (delete (least C) C ∷ []) (add (least (renamed keep gone C)) (renamed keep gone C) ∷ delete (least C) C ∷ []) ++ merge_steps keep gone W) ≤ w C + weight w W
    go true j i = less (rise w (merge_steps keep gone W)) (w C) (weight w W) i
    go false j i = more (w (renamed keep gone C)) (rise w (merge_steps keep gone W)) (w C) (weight w W) j i

merge-fresh : (m : ℕ) (keep gone : Literal) (W : Matrix) → FreshUpTo m (merge_steps keep gone W)
merge-fresh m keep gone [] = tt
merge-fresh m keep gone (C ∷ W) = go (is_tautology (renamed keep gone C)) (merge-fresh m keep gone W)
  where
    go : (b : Bool) → FreshUpTo m (merge_steps keep gone W) → FreshUpTo m (cond b (delete (least C) C ∷ []) (add (least (renamed keep gone C)) (renamed keep gone C) ∷ delete (least C) C ∷ []) ++ merge_steps keep gone W)
    go true f = f
    go false f = f

weight-with_var : (w : Clause → ℕ) (v : ℕ) (X : Matrix) → weight w (with_var v X) ≤ weight w X
weight-with_var w v [] = omega arith
weight-with_var w v (C ∷ X) = go (has_variable v C) (weight-with_var w v X)
  where
    same : (c x y : ℕ) → x ≤ y → c + x ≤ c + y
    same c x y i = omega arith

    more : (c x y : ℕ) → x ≤ y → x ≤ c + y
    more c x y i = omega arith

    go : (b : Bool) → weight w (with_var v X) ≤ weight w X → weight w (cond b (C ∷ with_var v X) (with_var v X)) ≤ w C + weight w X
    go true i = same (w C) (weight w (with_var v X)) (weight w X) i
    go false i = more (w C) (weight w (with_var v X)) (weight w X) i

merge-modest : (keep gone : Literal) (X : Matrix) → Modest (weight one X) (weight length X) (merge_steps keep gone (with_var gone.var X))
merge-modest keep gone X = record {
  clauses = least_of (rise one (merge_steps keep gone (with_var gone.var X))) (weight one (with_var gone.var X)) (weight one X) (merge-rise one keep gone (λ C. omega arith) (with_var gone.var X)) (weight-with_var one gone.var X);
  lits = least_of (rise length (merge_steps keep gone (with_var gone.var X))) (weight length (with_var gone.var X)) (weight length X) (merge-rise length keep gone (renamed-length keep gone) (with_var gone.var X)) (weight-with_var length gone.var X);
  variables = merge-fresh standard.vars keep gone (with_var gone.var X);
}
  where
    least_of : (a b c : ℕ) → a ≤ b → b ≤ c → a ≤ c
    least_of a b c i j = omega arith

merge_on : (P : Prefix) (X : Matrix) (keep gone : Literal) → ((D : Clause) → IsIn D X → (k : Literal) → IsIn k D → is_bound P k.var ≡ true) → Mergeable P X keep gone → Way (2 + (weight one X + 0)) (4 + (weight length X + 0)) (formula_of P X) (formula_of P (merged keep gone X))
merge_on P X keep gone closed h = (
  add (least E1) E1 ∷ add (least E2) E2 ∷ (merge_steps keep gone G ++ last),
  (
    (bound1, inl (joined-implied X gone keep h.to_gone E1 (pair-first (negation keep) gone) (pair-second (negation keep) gone))),
    (
      (bound2, inl (joined-implied (E1 ∷ X) keep gone (joined-more X (E1 ∷ X) (λ D m. inr m) keep gone h.to_keep) E2 (pair-second keep (negation gone)) (pair-first keep (negation gone)))),
      reaches-append (formula_of P (E2 ∷ E1 ∷ X)) (merge_steps keep gone G) last (formula_of P (A ++ Y)) (formula_of P (merged keep gone X)) middle ending,
    ),
  ),
  modest-append 2 4 (weight one X + 0) (weight length X + 0) (add (least E1) E1 ∷ add (least E2) E2 ∷ []) (merge_steps keep gone G ++ last) two
      (modest-append (weight one X) (weight length X) 0 0 (merge_steps keep gone G) last (merge-modest keep gone X) both),
)
  where
    E1 : Clause
    E1 = pair (negation keep) gone

    E2 : Clause
    E2 = pair keep (negation gone)

    G : Matrix
    G = with_var gone.var X

    R : Matrix
    R = without_var gone.var X

    A : Matrix
    A = renamed_all keep gone (with_var gone.var X)

    Y : Matrix
    Y = pair (negation keep) gone ∷ pair keep (negation gone) ∷ without_var gone.var X

    last : List ProofStep
    last = delete (Some gone) (pair (negation keep) gone) ∷ delete (Some (negation gone)) (pair keep (negation gone)) ∷ []

    four : (a b : ℕ) → a ≤ 1 + 1 → b ≤ 1 + 1 → a + (b + 0) ≤ 4
    four a b i j = omega arith

    two : Modest 2 4 (add (least E1) E1 ∷ add (least E2) E2 ∷ [])
    two = record { clauses = omega arith; lits = four (length E1) (length E2) (insert-length (negation keep) (gone ∷ [])) (insert-length keep (negation gone ∷ [])); variables = tt }

    both : Modest 0 0 last
    both = record { clauses = omega arith; lits = omega arith; variables = tt }

    keep_bound : is_bound P keep.var ≡ true
    keep_bound = outer_or_same-is_bound P keep.var gone.var h.kept_outer

    gone_bound : is_bound P gone.var ≡ true
    gone_bound = existential-is_bound P gone.var h.existential

    bound1 : (k : Literal) → IsIn k E1 → is_bound P k.var ≡ true
    bound1 k m = elim (pair-IsIn (negation keep) gone k m) [ inl e ↦ subst (λ y. is_bound P y.var ≡ true) (sym e) keep_bound | inr e ↦ subst (λ y. is_bound P y.var ≡ true) (sym e) gone_bound ]

    bound2 : (k : Literal) → IsIn k E2 → is_bound P k.var ≡ true
    bound2 k m = elim (pair-IsIn keep (negation gone) k m) [ inl e ↦ subst (λ y. is_bound P y.var ≡ true) (sym e) keep_bound | inr e ↦ subst (λ y. is_bound P y.var ≡ true) (sym e) gone_bound ]

    arranged : SameClauses (G ++ Y) (E2 ∷ E1 ∷ X)
    arranged = alike-trans (G ++ Y) (E1 ∷ (G ++ (E2 ∷ R))) (E2 ∷ E1 ∷ X) (alike-turned E1 G (E2 ∷ R))
        (alike-trans (E1 ∷ (G ++ (E2 ∷ R))) (E1 ∷ E2 ∷ (G ++ R)) (E2 ∷ E1 ∷ X) (alike-cons E1 (G ++ (E2 ∷ R)) (E2 ∷ (G ++ R)) (alike-turned E2 G R))
        (alike-trans (E1 ∷ E2 ∷ (G ++ R)) (E2 ∷ E1 ∷ (G ++ R)) (E2 ∷ E1 ∷ X) (alike-swap E1 E2 (G ++ R)) (alike-cons E2 (E1 ∷ (G ++ R)) (E1 ∷ X) (alike-cons E1 (G ++ R) X (alike-sym X (G ++ R) (with_var-alike gone.var X))))))

    middle : Reaches (formula_of P (E2 ∷ E1 ∷ X)) (merge_steps keep gone G) (formula_of P (A ++ Y))
    middle = reaches-alike P (G ++ Y) (E2 ∷ E1 ∷ X) (merge_steps keep gone G) (formula_of P (A ++ Y)) arranged
        (reaches-renamed P keep gone G Y (λ C m. renamed-is_bound P keep gone C keep_bound (closed C (with_var-IsIn gone.var X C m))) (record { keep_gives_gone = inl refl; gone_gives_keep = inr (inl refl) }))

    free : (D : Clause) → IsIn D (A ++ R) → (k : Literal) → IsIn k D → eqb k.var gone.var ≡ false
    free D m k i = elim (IsIn-append D A R m) [ inl a ↦ renamed_all-free keep gone G h.different D a k i | inr b ↦ without_var-free gone.var X D b k i ]

    not_there : (D : Clause) → IsIn D (A ++ R) → (k : Literal) → k.var ≡ gone.var → IsIn k D → ⊥
    not_there D m k e i = let z : eqb k.var gone.var ≡ false = free D m k i in grind arith

    pivot1 : ExistsPivot P (E2 ∷ (A ++ R)) E1 gone
    pivot1 = record { existential_pivot = h.existential; in_clause = pair-second (negation keep) gone; implied = go }
      where
        kept : keeps P (negation gone) keep ≡ true
        kept = let o : outer_or_same P keep.var gone.var ≡ true = h.kept_outer in let d : eqb keep.var gone.var ≡ false = h.different in grind arith

        go : (D : Clause) → IsIn D (E2 ∷ (A ++ R)) → IsIn (negation gone) D → Implied (E2 ∷ (A ++ R)) (E1 ++ outer P (negation gone) D)
        go D (inl e) i = implied-tautology (E2 ∷ (A ++ R)) (E1 ++ outer P (negation gone) D)
            (keep, IsIn-append_right keep E1 (outer P (negation gone) D) (IsIn-outer_in P (negation gone) D keep (subst (IsIn keep) (sym e) (pair-first keep (negation gone))) kept), IsIn-append_left (negation keep) E1 (outer P (negation gone) D) (pair-first (negation keep) gone))
        go D (inr m) i = absurd (not_there D m (negation gone) refl i)

    pivot2 : ExistsPivot P (A ++ R) E2 (negation gone)
    pivot2 = pure-pivot P (A ++ R) E2 (negation gone) (pair-second keep (negation gone)) h.existential (λ D m i. not_there D m (negation (negation gone)) refl i)

    ending : Reaches (formula_of P (A ++ Y)) last (formula_of P (merged keep gone X))
    ending = reaches-alike P (E1 ∷ E2 ∷ (A ++ R)) (A ++ Y) last (formula_of P (merged keep gone X))
        (alike-sym (A ++ Y) (E1 ∷ E2 ∷ (A ++ R)) (alike-trans (A ++ Y) (E1 ∷ (A ++ (E2 ∷ R))) (E1 ∷ E2 ∷ (A ++ R)) (alike-turned E1 A (E2 ∷ R)) (alike-cons E1 (A ++ (E2 ∷ R)) (E2 ∷ (A ++ R)) (alike-turned E2 A R))))
        (step-first P (Some gone) E1 (E2 ∷ (A ++ R)) (delete (Some (negation gone)) E2 ∷ []) (formula_of P (merged keep gone X)) (inr (gone, refl, pivot1))
        (reaches-end P (A ++ R) (merged keep gone X) (formula_of P (E2 ∷ (A ++ R))) (delete (Some (negation gone)) E2 ∷ []) (merged-alike keep gone X)
        (reaches-delete P (Some (negation gone)) E2 (A ++ R) (E2 ∷ (A ++ R)) (alike-refl (E2 ∷ (A ++ R))) (inr (negation gone, refl, pivot2)))))

pub merge-run : (B : Bounds) (P : Prefix) (N : Slots) (keep gone : Literal) → ((D : Clause) → IsIn D (live N) → (k : Literal) → IsIn k D → is_bound P k.var ≡ true) → Fits B P N (merge keep gone) → Way (2 + (weight one (live N) + 0)) (4 + (weight length (live N) + 0)) (formula_of P (live N)) (change P N (merge keep gone))
merge-run B P N keep gone closed h = merge_on P (live N) keep gone closed h
