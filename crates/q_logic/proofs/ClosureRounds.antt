-- A growing set of literals is closed after as many turns as there are literals.
use Rattle.std.proofs.Common.{◌≡◌, ◌≤◌, ℕ, zero, suc, ◌+◌, ◌-◌, Bool, true, false, eqb, [], ◌∷◌, ◌++◌, ◌⊎◌, inl, inr, arith, refl, subst, length}
use Rattle.q_logic.specs.Prelude.{Literal, literal_eq, Clause, Matrix, IsIn, without, IsSubset, size_of, IsBelow}
use Rattle.q_logic.proofs.ClauseLemmas.{literal_eq-sound, IsIn-has}
use Rattle.q_logic.proofs.UniversalPivot.{IsIn-without}
use Rattle.q_logic.proofs.CoverRun.{in_or_not}
use Rattle.q_logic.proofs.MeasureFalls.{without-less}
use Rattle.q_logic.proofs.ClauseSets.{not_itself_below}
use Rattle.q_logic.proofs.LiteralOrder.{Ordered}

pub before-self : (k : Literal) → IsBelow k k → ⊥
before-self k h = not_itself_below k k refl h

ordered-short : (S T : Clause) → Ordered S → IsSubset S T → length S ≤ length T
ordered-short [] T o w = grind arith
ordered-short (k ∷ S) T o w =
    let i : length S ≤ length (without k T) = ordered-short S (without k T) o.1 (λ j m. IsIn-without k T j (w j (inr m)) (other j m (literal_eq j k) refl)) in
    let l : length (without k T) + 1 ≤ length T = without-less k T (IsIn-has k T (w k (inl refl))) in grind arith
  where
    other : (j : Literal) → IsIn j S → (b : Bool) → literal_eq j k ≡ b → literal_eq j k ≡ false
    other j m true q = absurd (before-self k (subst (λ y. IsBelow k y) (literal_eq-sound j k q) (o.0 j m)))
    other j m false q = q

-- No longer: nothing new.
ordered-full : (S T : Clause) → Ordered S → IsSubset S T → length T ≤ length S → IsSubset T S
ordered-full S T o w l k m = elim (in_or_not k S) [ inl a ↦ a | inr n ↦ absurd (no n) ]
  where
    other : (IsIn k S → ⊥) → (j : Literal) → IsIn j S → (b : Bool) → literal_eq j k ≡ b → literal_eq j k ≡ false
    other n j i true q = absurd (n (subst (λ y. IsIn y S) (literal_eq-sound j k q) i))
    other n j i false q = q

    no : (IsIn k S → ⊥) → ⊥
    no n = let i : length S ≤ length (without k T) = ordered-short S (without k T) o (λ j x. IsIn-without k T j (w j x) (other n j x (literal_eq j k) refl)) in
        let d : length (without k T) + 1 ≤ length T = without-less k T (IsIn-has k T m) in grind arith

abbrev pub iterated : (Clause → Clause) → ℕ → Clause → Clause
iterated f zero S = S
iterated f (suc n) S = f (iterated f n S)

pub record Growing (f : Clause → Clause) (U : Clause) : Type 0 where
  pub inflates : (S : Clause) → IsSubset S (f S)
  pub monotone : (S T : Clause) → IsSubset S T → IsSubset (f S) (f T)
  pub ordered : (S : Clause) → Ordered S → Ordered (f S)
  pub inside : (S : Clause) → IsSubset S U → IsSubset (f S) U

iterated-ordered : (f : Clause → Clause) (U : Clause) → Growing f U → (n : ℕ) (S : Clause) → Ordered S → Ordered (iterated f n S)
iterated-ordered f U g zero S o = o
iterated-ordered f U g (suc n) S o = g.ordered (iterated f n S) (iterated-ordered f U g n S o)

pub iterated-inside : (f : Clause → Clause) (U : Clause) → Growing f U → (n : ℕ) (S : Clause) → IsSubset S U → IsSubset (iterated f n S) U
iterated-inside f U g zero S w = w
iterated-inside f U g (suc n) S w = g.inside (iterated f n S) (iterated-inside f U g n S w)

closed_or_long : (f : Clause → Clause) (U : Clause) → Growing f U → (n : ℕ) (S : Clause) → Ordered S → IsSubset (f (iterated f n S)) (iterated f n S) ⊎ (n ≤ length (iterated f n S))
closed_or_long f U g zero S o = inr (grind arith)
closed_or_long f U g (suc n) S o = go (closed_or_long f U g n S o)
  where
    T : Clause
    T = iterated f n S

    compare : (a b : ℕ) → (a ≤ b) ⊎ (suc b ≤ a)
    compare a b = split (eqb (a - b) 0) refl
      where
        split : (c : Bool) → eqb (a - b) 0 ≡ c → (a ≤ b) ⊎ (suc b ≤ a)
        split true q = inl (grind arith)
        split false q = inr (grind arith)

    go : IsSubset (f (iterated f n S)) (iterated f n S) ⊎ (n ≤ length (iterated f n S)) → IsSubset (f (f (iterated f n S))) (f (iterated f n S)) ⊎ (suc n ≤ length (f (iterated f n S)))
    go (inl c) = inl (g.monotone (f (iterated f n S)) (iterated f n S) c)
    go (inr l) = elim (compare (length (f (iterated f n S))) (length (iterated f n S))) [
      | inl h ↦ inl (g.monotone (f (iterated f n S)) (iterated f n S) (ordered-full (iterated f n S) (f (iterated f n S)) (iterated-ordered f U g n S o) (g.inflates (iterated f n S)) h))
      | inr h ↦ inr (grind arith)
    ]

pub iterated-closed : (f : Clause → Clause) (U : Clause) → Growing f U → (n : ℕ) (S : Clause) → Ordered S → IsSubset S U → length U ≤ n → IsSubset (f (iterated f n S)) (iterated f n S)
iterated-closed f U g n S o w l = elim (closed_or_long f U g n S o) [
  | inl c ↦ c
  | inr h ↦ ordered-full (iterated f n S) (f (iterated f n S)) (iterated-ordered f U g n S o) (g.inflates (iterated f n S))
      (let s : length (f (iterated f n S)) ≤ length U = ordered-short (f (iterated f n S)) U (g.ordered (iterated f n S) (iterated-ordered f U g n S o)) (g.inside (iterated f n S) (iterated-inside f U g n S w)) in grind arith)
]

-- What a literal is joined to, computed.
abbrev pub lits : Matrix → Clause
lits [] = []
lits (D ∷ X) = D ++ lits X

pub lits-length : (X : Matrix) → length (lits X) ≤ size_of X
lits-length [] = grind arith
lits-length (D ∷ X) = let i : length (lits X) ≤ size_of X = lits-length X in let a : length (D ++ lits X) ≡ length D + length (lits X) = length-append D (lits X) in grind arith
  where
    length-append : (C D : Clause) → length (C ++ D) ≡ length C + length D
    length-append [] D = grind arith
    length-append (k ∷ C) D = let i : length (C ++ D) ≡ length C + length D = length-append C D in grind arith
