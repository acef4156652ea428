-- The formula that is made of the parts.
use Rattle.std.proofs.Common.{◌≡◌, ◌≢◌, ℕ, suc, ◌+◌, ◌<◌, ◌≤◌, ◌^◌, ◌&&◌, not, Bool, true, false, List, [], ◌∷◌, ◌++◌, length, slice_index_or, refl, sym, ◌∙◌, arith, subst, inl, inr, nat_le}
use Rattle.std.proofs.Math.ListN.{get_or-eq_default}
use Rattle.std.proofs.lemmas.Bool.Decides.{nat_tests}
use Rattle.std.proofs.lemmas.Bool.{and_left}
use Rattle.std.specs.List.{AllByRecursion}
use Rattle.q_logic.specs.Prelude.{Literal, Matrix, Prefix, AreEnds, AreLawful, IsBound, IsProper, clauses_between, is_bound}
use Rattle.q_dimacs.specs.Building.{formula_of, is_free, is_marked_free, occurs, greatest, bounds_from, AreParts}
use Rattle.q_logic.proofs.Common.{IsBound-is_bound, pairs-Distinct, proper-lawful, none_or_some, all-append}
use Rattle.q_logic.proofs.FormulaParts.{is_bound-IsBound}
use Rattle.q_dimacs.proofs.VariableMarks.{or_false}
use Rattle.q_dimacs.proofs.FreeVariables.{bounds-same, bounds-trim, bounds-all, bounds-distinct, bounds-has, none-above, occurs-IsIn, pairs-append, is-append-left, is-append-right, apart}

and-left : (a b : Bool) → (a && b) ≡ true → a ≡ true
and-left true b e = refl
and-left false b e = cc

not-true : (a b : Bool) → (a && not b) ≡ true → b ≡ false
not-true true true e = cc
not-true true false e = refl
not-true false b e = cc

le-of : {a b : ℕ} → nat_le a b ≡ true → a ≤ b
le-of {a} {b} e = grind (arith, nat_tests)

lt-of : {a b : ℕ} → nat_le a b ≡ false → b < a
lt-of {a} {b} e = grind (arith, nat_tests)

module _ (prefix : Prefix) (bound : List Bool) (matrix : Matrix) (used : List Bool) (h : AreParts prefix bound matrix used []) where
  free-same : (v : ℕ) → is_marked_free bound used v ≡ is_free prefix matrix v
  free-same v = rw (h.bounds v, h.uses v, or_false (occurs matrix v)) refl

  used-occurs : (v : ℕ) → slice_index_or used v false ≡ occurs matrix v
  used-occurs v = h.uses v ∙ or_false (occurs matrix v)

  free-past : (k : ℕ) → 0 + length used ≤ k → is_free prefix matrix k ≡ false
  free-past k l = and_left (occurs matrix k) (not (is_bound prefix k)) (sym (used-occurs k) ∙ get_or-eq_default used false (let g : length used ≤ k = omega arith in g))

  free-above : (k : ℕ) → 0 + suc (greatest matrix) ≤ k → is_free prefix matrix k ≡ false
  free-above k l = and_left (occurs matrix k) (not (is_bound prefix k)) (none-above matrix k (omega arith))

  free-zero : is_free prefix matrix 0 ≡ false
  free-zero = and_left (occurs matrix 0) (not (is_bound prefix 0)) (sym (used-occurs 0) ∙ h.never)

  first-out : bounds_from (is_free prefix matrix) 0 (suc (greatest matrix)) ≡ bounds_from (is_free prefix matrix) 1 (greatest matrix)
  first-out = rw free-zero refl

  pub free-is : bounds_from (is_marked_free bound used) 0 (length used) ≡ bounds_from (is_free prefix matrix) 1 (greatest matrix)
  free-is =
      bounds-same (is_marked_free bound used) (is_free prefix matrix) 0 (length used) free-same
      ∙ (bounds-trim (is_free prefix matrix) 0 (length used) (suc (greatest matrix)) free-past free-above ∙ first-out)

  occurs-short : (k : ℕ) → occurs matrix k ≡ true → k < length used
  occurs-short k e = go (nat_le (length used) k) refl where
    go : (b : Bool) → nat_le (length used) k ≡ b → k < length used
    go true f = absurd (let g : length used ≤ k = le-of f in let d = get_or-eq_default used false g in let u = used-occurs k in cc)
    go false f = lt-of f

  one-le : (v : ℕ) → occurs matrix v ≡ true → 1 ≤ v
  one-le v e = elim (none_or_some v) [
    | inl z ↦ absurd (let n : occurs matrix 0 ≡ false = sym (used-occurs 0) ∙ h.never in let f : occurs matrix 0 ≡ true = subst (λ k. occurs matrix k ≡ true) z e in cc)
    | inr g ↦ g
  ]

  le-greatest : (v : ℕ) → occurs matrix v ≡ true → v < 1 + greatest matrix
  le-greatest v e = go (nat_le v (greatest matrix)) refl where
    go : (b : Bool) → nat_le v (greatest matrix) ≡ b → v < 1 + greatest matrix
    go true f = let g = le-of f in omega arith
    go false f = absurd (let g = none-above matrix v (lt-of f) in cc)

  abbrev all-bounds : Prefix
  all-bounds = bounds_from (is_free prefix matrix) 1 (greatest matrix) ++ prefix

  bound-of : (v : ℕ) → occurs matrix v ≡ true → IsBound all-bounds v
  bound-of v e = go (is_bound prefix v) refl where
    go : (b : Bool) → is_bound prefix v ≡ b → IsBound all-bounds v
    go true f = is-append-right (bounds_from (is_free prefix matrix) 1 (greatest matrix)) prefix v (is_bound-IsBound prefix v f)
    go false f = is-append-left (bounds_from (is_free prefix matrix) 1 (greatest matrix)) prefix v
        (bounds-has (is_free prefix matrix) 1 (greatest matrix) v (one-le v e) (le-greatest v e) (rw (e, f) refl))

  proper : IsProper (formula_of prefix matrix)
  proper = record {
    formula = record {
      distinct = pairs-Distinct all-bounds (pairs-append (λ q r. q.var ≢ r.var) (bounds_from (is_free prefix matrix) 1 (greatest matrix)) prefix
          (bounds-distinct (is_free prefix matrix) 1 (greatest matrix)) h.distinct
          (bounds-all (λ q. AllByRecursion (λ r. q.var ≢ r.var) prefix) (is_free prefix matrix) 1 (greatest matrix)
          (λ k l t. apart prefix k (not-true (occurs matrix k) (is_bound prefix k) t))));
      closed = λ D m k n. IsBound-is_bound all-bounds k.var (bound-of k.var (occurs-IsIn matrix D k m n));
    };
    ranges = all-append (λ q. (1 ≤ q.var) × (q.var < 2 ^ 31)) (bounds_from (is_free prefix matrix) 1 (greatest matrix)) prefix
        (bounds-all (λ q. (1 ≤ q.var) × (q.var < 2 ^ 31)) (is_free prefix matrix) 1 (greatest matrix)
        (λ k l t. (l, (let s = occurs-short k (and-left (occurs matrix k) (not (is_bound prefix k)) t) in let g = h.short in omega arith)))) h.ranges;
    ordered = h.ordered;
  }

  -- the same with the clauses in one row
  pub lawful : (lits : List Literal) (ends : List ℕ) → AreEnds 0 ends (length lits) → clauses_between lits 0 ends ≡ matrix → AreLawful all-bounds lits ends
  lawful lits ends e c = proper-lawful all-bounds lits ends e (subst (λ (X : Matrix). IsProper (record { prefix = all-bounds; matrix = X })) (sym c) proper)
