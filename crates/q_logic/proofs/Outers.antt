-- Outer clauses, one for each clause that holds a literal, copies counted.
use Rattle.std.proofs.Common.{◌≡◌, ℕ, ◌+◌, ◌≤◌, Bool, true, false, cond, [], ◌∷◌, List, ◌⊎◌, inl, inr, arith, refl, sym, ap, ◌∙◌, subst}
use Rattle.q_logic.specs.Prelude.{Literal, Clause, Matrix, Prefix, IsIn, outer, has, clause_eq, one_less, copies, every_outer, OutersOf}
use Rattle.q_logic.proofs.Runs.{clause_eq-sound, clause_eq-itself, IsIn-copies, copies-IsIn}
use Rattle.q_logic.proofs.Pivot.{AreOuters}
use Rattle.q_logic.proofs.UniversalPivot.{every_outer-there, every_outer-from}
use Rattle.q_logic.proofs.JustifiedRuns.{SameClauses, IsIn-alike, alike-uncons, alike-trans, one_less-alike}

-- Each has the members of the other.
pub outers-members : (P : Prefix) (X : Matrix) (m : Literal) (Os : List Clause) → OutersOf P X m Os →
    AreOuters P X m Os
outers-members P X m Os h = record {
  all_there = λ D d n.
      IsIn-alike (every_outer P m X) Os (λ O. sym (h O)) (outer P m D) (every_outer-there P m X D d n);
  no_other = λ O i. every_outer-from P m X O (IsIn-alike Os (every_outer P m X) h O i);
}

-- A clause more counts as it does alone.
pub every_outer-count : (P : Prefix) (m : Literal) (D : Clause) (X : Matrix) (O : Clause) →
    copies O (every_outer P m (D ∷ X)) ≡ copies O (every_outer P m (D ∷ [])) + copies O (every_outer P m X)
every_outer-count P m D X O = go (has m D)
  where
    one : (s : Bool) (n : ℕ) → cond s (n + 1) n ≡ cond s (0 + 1) 0 + n
    one true n = omega arith
    one false n = omega arith

    go : (b : Bool) → copies O (cond b (outer P m D ∷ every_outer P m X) (every_outer P m X)) ≡
        copies O (cond b (outer P m D ∷ []) []) + copies O (every_outer P m X)
    go true = one (clause_eq (outer P m D) O) (copies O (every_outer P m X))
    go false = omega arith

-- Where a clause stands makes no difference.
every_outer-first : (P : Prefix) (m : Literal) (D : Clause) (Y : Matrix) → IsIn D Y →
    SameClauses (every_outer P m Y) (every_outer P m (D ∷ one_less D Y))
every_outer-first P m D [] i O = elim i [ ]
every_outer-first P m D (E ∷ Y) i O = go (clause_eq E D) refl i (λ n. every_outer-first P m D Y n O)
  where
    go : (b : Bool) → clause_eq E D ≡ b → (D ≡ E) ⊎ IsIn D Y →
        (IsIn D Y → copies O (every_outer P m Y) ≡ copies O (every_outer P m (D ∷ one_less D Y))) →
        copies O (every_outer P m (E ∷ Y)) ≡ copies O (every_outer P m (D ∷ cond b Y (E ∷ one_less D Y)))
    go true q n ih = ap (λ (F : Clause). copies O (every_outer P m (F ∷ Y))) (clause_eq-sound E D q)
    go false q (inl e) ih =
        let z : clause_eq E D ≡ true = subst (λ y. clause_eq y D ≡ true) e (clause_eq-itself D) in
        absurd (grind arith)
    go false q (inr n) ih =
        let Z = one_less D Y in
        let a = every_outer-count P m E Y O in
        let b = every_outer-count P m D Z O in
        let c = every_outer-count P m D (E ∷ Z) O in
        let d = every_outer-count P m E Z O in
        let e = ih n in
        omega (arith, a, b, c, d, e)

-- Equal collections have equal outer clauses.
pub every_outer-same : (P : Prefix) (m : Literal) (X Y : Matrix) → SameClauses X Y →
    SameClauses (every_outer P m X) (every_outer P m Y)
every_outer-same P m [] [] s O = refl
every_outer-same P m [] (D ∷ Y) s O =
    let z : 1 ≤ copies D (D ∷ Y) = IsIn-copies D (D ∷ Y) (inl refl) in
    let e : 0 ≡ copies D (D ∷ Y) = s D in
    absurd (omega arith)
every_outer-same P m (D ∷ X) Y s O =
    let i : IsIn D Y = IsIn-alike (D ∷ X) Y s D (inl refl) in
    let Z = one_less D Y in
    let rest = alike-uncons D X Z (alike-trans (D ∷ X) Y (D ∷ Z) s (one_less-alike D Y i)) in
    let a = every_outer-same P m X Z rest O in
    let b = every_outer-count P m D X O in
    let c = every_outer-count P m D Z O in
    let d = every_outer-first P m D Y i O in
    omega (arith, a, b, c, d)
