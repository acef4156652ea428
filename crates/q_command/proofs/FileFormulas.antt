-- What a file holds is a formula: no variable is free, and none is bound twice.
use Rattle.std.proofs.Common.{◌≡◌, ◌≢◌, inl, inr, ℕ, ◌+◌, ◌<◌, ◌≤◌, ◌&&◌, not, Bool, true, false, nat_le, List, [], ◌∷◌, ◌++◌, map, refl, sym, subst, arith}
use Rattle.std.proofs.lemmas.Bool.Decides.{nat_tests}
use Rattle.std.specs.List.{AllByRecursion}
use Rattle.q_logic.specs.Prelude.{Literal, Clause, Matrix, Prefix, PrenexFormula, IsIn, standard, is_bound, Distinct, IsFormula, ArePairs, IsBound, clause_of}
use Rattle.q_logic.proofs.Common.{IsBound-is_bound, pairs-Distinct, AllByRecursion-IsIn, IsIn-clause_of}
use Rattle.q_logic.proofs.FormulaParts.{is_bound-IsBound}
use Rattle.q_dimacs.specs.Building.{occurs, greatest, bounds_from, is_free}
use Rattle.q_dimacs.specs.Dimacs.{IsVar, IsLawful, Text, sets_bounds, text_formula}
use Rattle.q_dimacs.proofs.FreeVariables.{bounds-all, bounds-distinct, bounds-has, none-above, pairs-append, is-append-left, is-append-right, apart, occurs-IsIn}
use Rattle.q_command.specs.Checks.{IsFileOf}

-- each literal of the matrix is written in some clause of the text
positive : (n : ℕ) (k : Literal) (C : Clause) (cs : List (List Literal)) → AllByRecursion (λ c. AllByRecursion (λ l. IsVar n l.var) c) cs → IsIn C (map clause_of cs) → IsIn k C → 1 ≤ k.var
positive n k C [] a m h = elim m [ ]
positive n k C (c ∷ cs) a (inl e) h =
    let there : IsIn k c = IsIn-clause_of k c (subst (IsIn k) e h) in
    (AllByRecursion-IsIn (λ (l : Literal). IsVar n l.var) c k a.0 there).0
positive n k C (c ∷ cs) a (inr m) h = positive n k C cs a.1 m h

free-unbound : (p : Prefix) (X : Matrix) (v : ℕ) → is_free p X v ≡ true → is_bound p v ≡ false
free-unbound p X v e = go (occurs X v) (is_bound p v) e
  where
    go : (a b : Bool) → (a && not b) ≡ true → b ≡ false
    go true true h = absurd (cc)
    go true false h = refl
    go false b h = absurd (cc)

-- the free variables of the matrix, before the sets
module _ (p : Prefix) (X : Matrix) where
  abbrev free : Prefix
  free = bounds_from (is_free p X) 1 (greatest X)

  bound-there : (v : ℕ) → 1 ≤ v → occurs X v ≡ true → IsBound (free ++ p) v
  bound-there v one o = go (is_bound p v) refl
    where
      below : v < 1 + greatest X
      below = at (nat_le v (greatest X)) refl
        where
          at : (b : Bool) → nat_le v (greatest X) ≡ b → v < 1 + greatest X
          at true e = grind (arith, nat_tests)
          at false e = absurd (let n : occurs X v ≡ false = none-above X v (grind (arith, nat_tests)) in cc)

      go : (b : Bool) → is_bound p v ≡ b → IsBound (free ++ p) v
      go true e = is-append-right free p v (is_bound-IsBound p v e)
      go false e = is-append-left free p v (bounds-has (is_free p X) 1 (greatest X) v one below (rw (o, e) refl))

  distinct-all : ArePairs (λ q r. q.var ≢ r.var) p → Distinct (free ++ p)
  distinct-all d = pairs-Distinct (free ++ p) (pairs-append (λ q r. q.var ≢ r.var) free p (bounds-distinct (is_free p X) 1 (greatest X)) d
      (bounds-all (λ q. AllByRecursion (λ r. q.var ≢ r.var) p) (is_free p X) 1 (greatest X) (λ k l t. apart p k (free-unbound p X k t))))

text-formula : (t : Text) → IsLawful standard t → IsFormula (text_formula t)
text-formula t h = record {
  distinct = distinct-all (sets_bounds t.sets) (map clause_of t.clauses) h.once;
  closed = λ D m k n. IsBound-is_bound (text_formula t).prefix k.var
      (bound-there (sets_bounds t.sets) (map clause_of t.clauses) k.var (positive t.vars k D t.clauses h.lits m n) (occurs-IsIn (map clause_of t.clauses) D k m n));
}

pub file-formula : (bytes : List ℕ) (F : PrenexFormula) → IsFileOf bytes F → IsFormula F
file-formula bytes F h = subst IsFormula (sym h.formula) (text-formula h.text h.lawful)
