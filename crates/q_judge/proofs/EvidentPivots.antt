-- Resolvents that are looked up.
use Rattle.std.proofs.Common.{◌≡◌, ℕ, Bool, not, IsTrue, true, false, cond, List, [], ◌∷◌, ◌++◌, refl, sym, ap, subst, ◌∙◌, append-nil, append_assoc, inl, inr, true≢false}
use Rattle.std.proofs.lemmas.Bool.{cases_Bool}
use Rattle.q_logic.specs.Prelude.{Literal, literal_eq, negation, Clause, Matrix, Prefix, IsIn, Implied, IsTautology, Slots, outer, without}
use Rattle.q_logic.proofs.Common.{literal_eq-sound, literal_eq-itself, IsIn-append, IsIn-append_left, IsIn-append_right, IsIn-clause_of, without-IsIn, implied-subsumed, implied-tautology}
use Rattle.q_prop.specs.Slots.{Holds, filled}
use Rattle.q_prop.proofs.BucketLemmas.{same-clause}
use Rattle.q_judge.specs.Pivots.{looked_up}

-- where the resolvent stands, the base joined with the outer clause is implied
pub looked_up-implied : (P : Prefix) (X : Matrix) (m : Literal) (base D : Clause) → IsIn (looked_up P m base D) X → Implied X (base ++ outer P m D)
looked_up-implied P X m base D h =
    implied-subsumed X (looked_up P m base D) (base ++ outer P m D) h (λ k i.
    elim (IsIn-append k (without (negation m) base) (outer P m D) (IsIn-clause_of k (without (negation m) base ++ outer P m D) i)) [
      | inl a ↦ IsIn-append_left k base (outer P m D) (without-IsIn (negation m) base k a)
      | inr b ↦ IsIn-append_right k base (outer P m D) b
    ])

without-cons : (b : Bool) (x : Literal) (xs ys : Clause) → cond b (xs ++ ys) (x ∷ (xs ++ ys)) ≡ cond b xs (x ∷ xs) ++ ys
without-cons true x xs ys = refl
without-cons false x xs ys = refl

without-push : (l : Literal) (xs : Clause) (k : Literal) → without l (xs ++ k ∷ []) ≡ without l xs ++ without l (k ∷ [])
without-push l [] k = refl
without-push l (x ∷ xs) k =
    ap (λ (zs : Clause). cond (literal_eq x l) zs (x ∷ zs)) (without-push l xs k)
    ∙ without-cons (literal_eq x l) x (without l xs) (without l (k ∷ []))

other-literal : (k l : Literal) → (k ≡ l → ⊥) → literal_eq k l ≡ false
other-literal k l d = elim (cases_Bool (literal_eq k l)) [
  | inl e ↦ absurd (d (literal_eq-sound k l e))
  | inr e ↦ e
]

pub without-kept : (l k : Literal) (lits old : List Literal) (xs : Clause) → (k ≡ l → ⊥) → lits ≡ old ++ without l xs → lits ++ k ∷ [] ≡ old ++ without l (xs ++ k ∷ [])
without-kept l k lits old xs d e =
    let one : without l (k ∷ []) ≡ k ∷ [] = ap (λ (b : Bool). cond b [] (k ∷ [])) (other-literal k l d) in
    ap (λ (zs : List Literal). zs ++ k ∷ []) e ∙ append_assoc old (without l xs) (k ∷ []) ∙ ap (λ (zs : List Literal). old ++ (without l xs ++ zs)) (sym one) ∙ ap (λ (zs : List Literal). old ++ zs) (sym (without-push l xs k))

pub without-left : (l k : Literal) (lits old : List Literal) (xs : Clause) → k ≡ l → lits ≡ old ++ without l xs → lits ≡ old ++ without l (xs ++ k ∷ [])
without-left l k lits old xs q e =
    let same : literal_eq k l ≡ true = rw q (literal_eq-itself l) in
    let none : without l (k ∷ []) ≡ [] = ap (λ (b : Bool). cond b [] (k ∷ [])) same in
    e ∙ ap (λ (zs : List Literal). old ++ zs) (sym (append-nil (without l xs))) ∙ ap (λ (zs : List Literal). old ++ (without l xs ++ zs)) (sym none) ∙ ap (λ (zs : List Literal). old ++ zs) (sym (without-push l xs k))

-- what is shown of the clause in a slot
module _ (P : Prefix) (s : Slots) (n : ℕ) (m : Literal) (base other : Clause) (there : Holds s n other) where
  shown-there : Implied (filled s) (base ++ outer P m other) → (d : Clause) → Holds s n d → Implied (filled s) (base ++ outer P m d)
  shown-there i d h = subst (λ (e : Clause). Implied (filled s) (base ++ outer P m e)) (same-clause s n other d there h) i

  pub met-clash : IsTautology (base ++ outer P m other) → (d : Clause) → Holds s n d → Implied (filled s) (base ++ outer P m d)
  met-clash t = shown-there (implied-tautology (filled s) (base ++ outer P m other) t)

  pub met-found : IsIn (looked_up P m base other) (filled s) → (d : Clause) → Holds s n d → Implied (filled s) (base ++ outer P m d)
  met-found i = shown-there (looked_up-implied P (filled s) m base other i)

pub denied : (b : Bool) → IsTrue (not b) → IsTrue b → ⊥
denied true t h = true≢false (sym t)
denied false t h = true≢false (sym h)
