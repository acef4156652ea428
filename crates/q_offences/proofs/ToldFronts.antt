-- What stands in front of each place where the reader stands.
use Rattle.std.proofs.Common.{◌≡◌, ◌≢◌, ℕ, zero, suc, ◌+◌, ◌<◌, ◌≤◌, ◌==◌, nat_lt, nat_le, Bool, true, false, cond, List, [], ◌∷◌, ◌++◌, length, map, Ok, Err, Result, refl, ap, sym, ◌∙◌, arith, ℤ, pos, negsuc, add-one, add-zero, append_assoc, append-nil, length-append, subst, eqb-true}
use Rattle.std.proofs.lemmas.Bool.Decides.{nat_tests}
use Rattle.std.proofs.lemmas.Bool.{leb-false, ltb-false}
use Rattle.std.specs.List.{AllByRecursion}
use Rattle.q_logic.specs.declared.formulas.Bound.{Bound}
use Rattle.q_logic.specs.declared.limits.Limits.{Limits}
use Rattle.q_logic.specs.declared.formulas.Quant.{Quant}
use Rattle.q_logic.specs.declared.formulas.Quant.TheVariants.{Exists, Forall}
use Rattle.q_logic.specs.Prelude.{Literal, number_of, clause_of, ArePairs, is_bound}
use Rattle.q_text.specs.declared.tokens.TokenKind.{TokenKind}
use Rattle.q_text.specs.declared.tokens.TokenKind.TheVariants.{Number, P, Cnf, Qrat, E, A, D, U, R, Other}
use Rattle.q_text.specs.Tokens.{literals_kinds}
use Rattle.q_dimacs.specs.declared.builder.Place.{Place}
use Rattle.q_dimacs.specs.declared.builder.Place.TheVariants.{Problem, Format, Vars, Count, Outside, InSet, InClause}
use Rattle.q_dimacs.specs.Reading.{Gathered, nothing_read, step_of, number, literal, with_vars, with_count}
use Rattle.q_dimacs.specs.Dimacs.{Text, vars_kinds, sets_kinds, clauses_kinds, letter, spelled, vars_bounds, sets_bounds, total, IsVar}
use Rattle.q_dimacs.proofs.RoundTrip.{all-left}
use Rattle.q_dimacs.proofs.VariableMarks.{All-push, Pairs-push, differs}
use Rattle.q_dimacs.proofs.GrammarIsRead.{kinds_read, kinds-err, inside, length-map-clause}
use Rattle.q_offences.specs.FormulaFronts.{IsLawfulSoFar, IsOutside, IsInSet, IsInClause, with_set, with_clause}
use Rattle.q_offences.proofs.SpelledFronts.{var_numbers, literal_numbers, vars-split, literals-split}
use Rattle.q_offences.proofs.FrontStates.{outside_of, set_of, clause_in, sets_bounds-push, sets_kinds-push, clauses_kinds-push, total-push, clauses-push, all-last}

pub data Told (m : Limits) (ks : List TokenKind) : Gathered → Type 0 where
  at_problem : ks ≡ [] → Told m ks (inside Problem 0 0 0 [] [] [])
  at_format : ks ≡ P ∷ [] → Told m ks (inside Format 0 0 0 [] [] [])
  at_vars : ks ≡ P ∷ Cnf ∷ [] → Told m ks (inside Vars 0 0 0 [] [] [])
  at_count : (v : ℕ) → v ≤ m.vars → ks ≡ P ∷ Cnf ∷ Number (pos v) ∷ [] → Told m ks (inside Count v 0 0 [] [] [])
  at_outside : (t : Text) → IsOutside m t ks → Told m ks (outside_of t)
  at_set : (t : Text) (q : Quant) (vs : List ℕ) → IsInSet m t q vs ks → Told m ks (set_of t q vs)
  at_clause : (t : Text) (ls : List Literal) → IsInClause m t ls ks → Told m ks (clause_in t ls)

same-ok : (a b : Gathered) → ◌≡◌ {A = Result Gathered ℕ} (Ok a) (Ok b) → a ≡ b
same-ok a b h = cc

become : (m : Limits) (ks : List TokenKind) (a b : Gathered) → Told m ks a → ◌≡◌ {A = Result Gathered ℕ} (Ok a) (Ok b) → Told m ks b
become m ks a b h e = subst (λ x. Told m ks x) (same-ok a b e) h

-- literals

pub spelled-clause : (t : Text) (ls : List Literal) → spelled (with_clause t ls) ≡ spelled t ++ literals_kinds ls
spelled-clause t ls = ap (λ ks. P ∷ Cnf ∷ Number (pos t.vars) ∷ Number (pos t.count) ∷ ks)
    (ap (λ ks. sets_kinds t.sets ++ ks) (clauses_kinds-push t.clauses ls) ∙ sym (append_assoc (sets_kinds t.sets) (clauses_kinds t.clauses) (literals_kinds ls)))

spelled-set : (t : Text) (q : Quant) (vs : List ℕ) → t.clauses ≡ [] → spelled (with_set t q vs) ≡ spelled t ++ letter q ∷ vars_kinds vs
spelled-set t q vs e =
    let s = append-nil (sets_kinds t.sets) in
    let a = append-nil (sets_kinds (t.sets ++ record { quant = q; vars = vs } ∷ [])) in
    let one : sets_kinds (t.sets ++ record { quant = q; vars = vs } ∷ []) ++ clauses_kinds t.clauses ≡ (sets_kinds t.sets ++ clauses_kinds t.clauses) ++ letter q ∷ vars_kinds vs
    = rw (e, s, a) (sets_kinds-push t.sets q vs) in
    ap (λ ks. P ∷ Cnf ∷ Number (pos t.vars) ∷ Number (pos t.count) ∷ ks) one

pub with-room : (m : Limits) (t : Text) → IsLawfulSoFar m t → length t.clauses < t.count → IsLawfulSoFar m (with_clause t [])
with-room m t h r = record {
  vars = h.vars;
  count = h.count;
  clauses = let l = length-append t.clauses ([] ∷ []) in omega arith;
  bounds = h.bounds;
  once = h.once;
  lits = All-push (λ c. AllByRecursion (λ l. IsVar t.vars l.var) c) t.clauses [] h.lits tt;
  few = let l = total-push t.clauses [] in let k = h.few in omega arith;
}

one-more : (m : Limits) (t : Text) (ls : List Literal) (l : Literal) → IsLawfulSoFar m (with_clause t ls) → IsVar t.vars l.var → total t.clauses + length ls < m.lits → IsLawfulSoFar m (with_clause t (ls ++ l ∷ []))
one-more m t ls l h v f = record {
  vars = h.vars;
  count = h.count;
  clauses = let a = length-append t.clauses (ls ∷ []) in let b = length-append t.clauses ((ls ++ l ∷ []) ∷ []) in let k = h.clauses in omega arith;
  bounds = h.bounds;
  once = h.once;
  lits = All-push (λ c. AllByRecursion (λ l. IsVar t.vars l.var) c) t.clauses (ls ++ l ∷ [])
      (all-left (λ c. AllByRecursion (λ l. IsVar t.vars l.var) c) t.clauses (ls ∷ []) h.lits)
      (All-push (λ l. IsVar t.vars l.var) ls l (all-last (λ c. AllByRecursion (λ l. IsVar t.vars l.var) c) t.clauses ls h.lits) v);
  few = let a = total-push t.clauses (ls ++ l ∷ []) in let b = length-append ls (l ∷ []) in omega arith;
}

numbers-push : (ls : List Literal) (l : Literal) → literal_numbers (ls ++ l ∷ []) ≡ literal_numbers ls ++ Number (number_of l) ∷ []
numbers-push [] l = refl
numbers-push (k ∷ ls) l = ap (λ ks. Number (number_of k) ∷ ks) (numbers-push ls l)

-- the literal w, positive or negative, in or before a clause
literal-step : (m : Limits) (t : Text) (ls : List Literal) (ks : List TokenKind) (at : Place) (w : ℕ) (s : Bool) (b : Gathered) → 1 ≤ w
    → ks ≡ spelled t ++ literal_numbers ls → IsLawfulSoFar m (with_clause t ls)
    → literal m (inside at t.vars t.count (total t.clauses + length ls) (sets_bounds t.sets) (map clause_of t.clauses) ls) w s ≡ Ok b
    → Told m (ks ++ Number (number_of (record { var = w; negative = s })) ∷ []) b
literal-step m t ls ks at w s b o k h e = go (nat_lt t.vars w) (nat_le m.lits (total t.clauses + length ls)) refl refl e where
  l : Literal
  l = record { var = w; negative = s }

  go : (x y : Bool) → nat_lt t.vars w ≡ x → nat_le m.lits (total t.clauses + length ls) ≡ y
      → cond {A = Result Gathered ℕ} x (Err 3) (cond {A = Result Gathered ℕ} y (Err 8) (Ok (inside InClause t.vars t.count ((total t.clauses + length ls) + 1) (sets_bounds t.sets) (map clause_of t.clauses) (ls ++ record { var = w; negative = s } ∷ [])))) ≡ Ok b
      → Told m (ks ++ Number (number_of (record { var = w; negative = s })) ∷ []) b
  go true y p q f = cc
  go false true p q f = cc
  go false false p q f =
      let l : Literal = record { var = w; negative = s } in
      let n = length-append ls (l ∷ []) in
      let few : total t.clauses + length ls < m.lits = leb-false m.lits (total t.clauses + length ls) q in
      let same : total t.clauses + length (ls ++ l ∷ []) ≡ (total t.clauses + length ls) + 1 = omega arith in
      let a = append_assoc (spelled t) (literal_numbers ls) (Number (number_of l) ∷ []) in
      become m (ks ++ Number (number_of l) ∷ []) (clause_in t (ls ++ l ∷ [])) b (at_clause t (ls ++ l ∷ []) (record {
        kinds = ap (λ js. js ++ Number (number_of l) ∷ []) k ∙ (a ∙ ap (λ js. spelled t ++ js) (sym (numbers-push ls l)));
        begun = omega arith;
        lawful = one-more m t ls l h (o, ltb-false t.vars w p) few;
      })) (ap (λ x. Ok (inside InClause t.vars t.count x (sets_bounds t.sets) (map clause_of t.clauses) (ls ++ l ∷ []))) same ∙ f)

-- 0 ends the clause
zero-step : (m : Limits) (t : Text) (ls : List Literal) (ks : List TokenKind) (b : Gathered)
    → ks ≡ spelled t ++ literal_numbers ls → IsLawfulSoFar m (with_clause t ls)
    → ◌≡◌ {A = Result Gathered ℕ} (Ok (inside Outside t.vars t.count (total t.clauses + length ls) (sets_bounds t.sets) (map clause_of t.clauses ++ clause_of ls ∷ []) [])) (Ok b)
    → Told m (ks ++ Number (pos 0) ∷ []) b
zero-step m t ls ks b k h e =
    let a = append_assoc (spelled t) (literal_numbers ls) (Number (pos 0) ∷ []) in
    let n = total-push t.clauses ls in
    let c = clauses-push t.clauses ls in
    let same : outside_of (with_clause t ls) ≡ inside Outside t.vars t.count (total t.clauses + length ls) (sets_bounds t.sets) (map clause_of t.clauses ++ clause_of ls ∷ []) [] = rw (n, c) refl in
    become m (ks ++ Number (pos 0) ∷ []) (outside_of (with_clause t ls)) b (at_outside (with_clause t ls) (record {
      kinds = ap (λ js. js ++ Number (pos 0) ∷ []) k ∙ (a ∙ (ap (λ js. spelled t ++ js) (sym (literals-split ls)) ∙ sym (spelled-clause t ls)));
      lawful = h;
    })) (ap Ok same ∙ e)

number-step : (m : Limits) (t : Text) (ls : List Literal) (ks : List TokenKind) (at : Place) (z : ℤ) (b : Gathered)
    → ks ≡ spelled t ++ literal_numbers ls → IsLawfulSoFar m (with_clause t ls)
    → number m (inside at t.vars t.count (total t.clauses + length ls) (sets_bounds t.sets) (map clause_of t.clauses) ls) z ≡ Ok b
    → Told m (ks ++ Number z ∷ []) b
number-step m t ls ks at (pos zero) b k h e = zero-step m t ls ks b k h e
number-step m t ls ks at (pos (suc w)) b k h e =
    let n : (suc w == 0) ≡ false = grind (arith, nat_tests) in
    literal-step m t ls ks at (suc w) false b (omega arith) k h (rw n at e)
number-step m t ls ks at (negsuc w) b k h e = let a = add-one w in literal-step m t ls ks at (suc w) true b (omega arith) k h (rw a at e)

-- outside

nothing-in : (xs : List (List Literal)) → nat_lt 0 (length (map clause_of xs)) ≡ false → xs ≡ []
nothing-in [] e = refl
nothing-in (x ∷ xs) e = absurd (grind (arith, nat_tests))

letter-step : (m : Limits) (t : Text) (ks : List TokenKind) (q : Quant) (b : Gathered) → IsOutside m t ks
    → cond {A = Result Gathered ℕ} (nat_lt 0 (length (map clause_of t.clauses))) (Err 5) (Ok (inside (InSet q) t.vars t.count (total t.clauses) (sets_bounds t.sets) (map clause_of t.clauses) [])) ≡ Ok b
    → Told m (ks ++ letter q ∷ []) b
letter-step m t ks q b h e = go (nat_lt 0 (length (map clause_of t.clauses))) refl e where
  go : (x : Bool) → nat_lt 0 (length (map clause_of t.clauses)) ≡ x
      → cond {A = Result Gathered ℕ} x (Err 5) (Ok (inside (InSet q) t.vars t.count (total t.clauses) (sets_bounds t.sets) (map clause_of t.clauses) [])) ≡ Ok b → Told m (ks ++ letter q ∷ []) b
  go true p f = cc
  go false p f =
      let none : t.clauses ≡ [] = nothing-in t.clauses p in
      let l = h.lawful in
      let same : set_of t q [] ≡ inside (InSet q) t.vars t.count (total t.clauses) (sets_bounds t.sets) (map clause_of t.clauses) [] = rw (none, append-nil) refl in
      let bounds : sets_bounds t.sets ≡ sets_bounds (with_set t q []).sets = sym (sets_bounds-push t.sets q [] ∙ append-nil (sets_bounds t.sets)) in
      become m (ks ++ letter q ∷ []) (set_of t q []) b (at_set t q [] (record {
        kinds = ap (λ js. js ++ letter q ∷ []) h.kinds;
        first = none;
        lawful = record {
          vars = l.vars;
          count = l.count;
          clauses = l.clauses;
          bounds = subst (λ p. AllByRecursion (λ q. IsVar t.vars q.var) p) bounds l.bounds;
          once = subst (λ p. ArePairs (λ q r. q.var ≢ r.var) p) bounds l.once;
          lits = l.lits;
          few = l.few;
        };
      })) (ap Ok same ∙ f)

first-step : (m : Limits) (t : Text) (ks : List TokenKind) (z : ℤ) (b : Gathered) → IsOutside m t ks
    → cond {A = Result Gathered ℕ} (nat_le t.count (length (map clause_of t.clauses))) (Err 6) (number m (outside_of t) z) ≡ Ok b → Told m (ks ++ Number z ∷ []) b
first-step m t ks z b h e = go (nat_le t.count (length (map clause_of t.clauses))) refl e where
  go : (x : Bool) → nat_le t.count (length (map clause_of t.clauses)) ≡ x → cond {A = Result Gathered ℕ} x (Err 6) (number m (outside_of t) z) ≡ Ok b → Told m (ks ++ Number z ∷ []) b
  go true p f = cc
  go false p f =
      let n = length-map-clause t.clauses in
      let r : length (map clause_of t.clauses) < t.count = leb-false t.count (length (map clause_of t.clauses)) p in
      let s = add-zero (total t.clauses) in
      number-step m t [] ks Outside z b (h.kinds ∙ sym (append-nil (spelled t))) (with-room m t h.lawful (omega arith)) (rw s f)

outside-step : (m : Limits) (t : Text) (ks : List TokenKind) (k : TokenKind) (b : Gathered) → IsOutside m t ks → step_of m (outside_of t) k ≡ Ok b → Told m (ks ++ k ∷ []) b
outside-step m t ks (Number z) b h e = first-step m t ks z b h e
outside-step m t ks E b h e = letter-step m t ks Exists b h e
outside-step m t ks A b h e = letter-step m t ks Forall b h e
outside-step m t ks P b h e = cc
outside-step m t ks Cnf b h e = cc
outside-step m t ks Qrat b h e = cc
outside-step m t ks D b h e = cc
outside-step m t ks U b h e = cc
outside-step m t ks R b h e = cc
outside-step m t ks Other b h e = cc

-- in a clause

clause-step : (m : Limits) (t : Text) (ls : List Literal) (ks : List TokenKind) (k : TokenKind) (b : Gathered) → IsInClause m t ls ks → step_of m (clause_in t ls) k ≡ Ok b → Told m (ks ++ k ∷ []) b
clause-step m t ls ks (Number z) b h e = number-step m t ls ks InClause z b h.kinds h.lawful e
clause-step m t ls ks E b h e = cc
clause-step m t ls ks A b h e = cc
clause-step m t ls ks P b h e = cc
clause-step m t ls ks Cnf b h e = cc
clause-step m t ls ks Qrat b h e = cc
clause-step m t ls ks D b h e = cc
clause-step m t ls ks U b h e = cc
clause-step m t ls ks R b h e = cc
clause-step m t ls ks Other b h e = cc

-- in a set

vars_bounds-push : (q : Quant) (vs : List ℕ) (w : ℕ) → vars_bounds q (vs ++ w ∷ []) ≡ vars_bounds q vs ++ record { quant = q; var = w } ∷ []
vars_bounds-push q [] w = refl
vars_bounds-push q (v ∷ vs) w = ap (λ p. record { quant = q; var = v } ∷ p) (vars_bounds-push q vs w)

var-numbers-push : (vs : List ℕ) (w : ℕ) → var_numbers (vs ++ w ∷ []) ≡ var_numbers vs ++ Number (pos w) ∷ []
var-numbers-push [] w = refl
var-numbers-push (v ∷ vs) w = ap (λ ks. Number (pos v) ∷ ks) (var-numbers-push vs w)

pub set-ends : (m : Limits) (t : Text) (q : Quant) (vs : List ℕ) (ks : List TokenKind) → IsInSet m t q vs ks → IsOutside m (with_set t q vs) (ks ++ Number (pos 0) ∷ [])
set-ends m t q vs ks h = record {
  kinds = ap (λ js. js ++ Number (pos 0) ∷ []) h.kinds
      ∙ (append_assoc (spelled t) (letter q ∷ var_numbers vs) (Number (pos 0) ∷ [])
      ∙ (ap (λ js. spelled t ++ letter q ∷ js) (sym (vars-split vs)) ∙ sym (spelled-set t q vs h.first)));
  lawful = h.lawful;
}

var-step : (m : Limits) (t : Text) (q : Quant) (vs : List ℕ) (ks : List TokenKind) (w : ℕ) (b : Gathered) → IsInSet m t q vs ks
    → step_of m (set_of t q vs) (Number (pos w)) ≡ Ok b → Told m (ks ++ Number (pos w) ∷ []) b
var-step m t q vs ks w b h e = go (w == 0) (nat_lt t.vars w) (is_bound (sets_bounds t.sets ++ vars_bounds q vs) w) refl refl refl e where
  go : (x y z : Bool) → (w == 0) ≡ x → nat_lt t.vars w ≡ y → is_bound (sets_bounds t.sets ++ vars_bounds q vs) w ≡ z
      → cond {A = Result Gathered ℕ} x (Ok (inside Outside t.vars t.count 0 (sets_bounds t.sets ++ vars_bounds q vs) [] [])) (cond {A = Result Gathered ℕ} y (Err 3) (cond {A = Result Gathered ℕ} z (Err 4) (Ok (inside (InSet q) t.vars t.count 0 ((sets_bounds t.sets ++ vars_bounds q vs) ++ record { quant = q; var = w } ∷ []) [] [])))) ≡ Ok b
      → Told m (ks ++ Number (pos w) ∷ []) b
  go true y z i j k f =
      let n : w ≡ 0 = eqb-true w 0 i in
      let p = sets_bounds-push t.sets q vs in
      let c = h.first in
      let same : outside_of (with_set t q vs) ≡ inside Outside t.vars t.count 0 (sets_bounds t.sets ++ vars_bounds q vs) [] [] = rw (c, p) refl in
      rw n (become m (ks ++ Number (pos 0) ∷ []) (outside_of (with_set t q vs)) b (at_outside (with_set t q vs) (set-ends m t q vs ks h)) (ap Ok same ∙ f))
  go false true z i j k f = cc
  go false false true i j k f = cc
  go false false false i j k f =
      let o : Bound = record { quant = q; var = w } in
      let l = h.lawful in
      let p = sets_bounds-push t.sets q vs in
      let v = vars_bounds-push q vs w in
      let a = append_assoc (sets_bounds t.sets) (vars_bounds q vs) (o ∷ []) in
      let more : sets_bounds (with_set t q (vs ++ w ∷ [])).sets ≡ (sets_bounds t.sets ++ vars_bounds q vs) ++ o ∷ [] = sets_bounds-push t.sets q (vs ++ w ∷ []) ∙ (ap (λ r. sets_bounds t.sets ++ r) v ∙ sym a) in
      let one : 1 ≤ w = grind (arith, nat_tests) in
      let same : set_of t q (vs ++ w ∷ []) ≡ inside (InSet q) t.vars t.count 0 ((sets_bounds t.sets ++ vars_bounds q vs) ++ o ∷ []) [] [] =
      ap (λ r. inside (InSet q) t.vars t.count 0 r [] []) (ap (λ r. sets_bounds t.sets ++ r) v ∙ sym a) in
      become m (ks ++ Number (pos w) ∷ []) (set_of t q (vs ++ w ∷ [])) b (at_set t q (vs ++ w ∷ []) (record {
        kinds = ap (λ js. js ++ Number (pos w) ∷ []) h.kinds
            ∙ (append_assoc (spelled t) (letter q ∷ var_numbers vs) (Number (pos w) ∷ []) ∙ ap (λ js. spelled t ++ letter q ∷ js) (sym (var-numbers-push vs w)));
        first = h.first;
        lawful = record {
          vars = l.vars;
          count = l.count;
          clauses = l.clauses;
          bounds = subst (λ r. AllByRecursion (λ q. IsVar t.vars q.var) r) (sym more) (All-push (λ q. IsVar t.vars q.var) (sets_bounds t.sets ++ vars_bounds q vs) o (subst (λ r. AllByRecursion (λ q. IsVar t.vars q.var) r) p l.bounds) (one, ltb-false t.vars w j));
          once = subst (λ r. ArePairs (λ q r. q.var ≢ r.var) r) (sym more) (Pairs-push (λ q r. q.var ≢ r.var) (sets_bounds t.sets ++ vars_bounds q vs) o (subst (λ r. ArePairs (λ q r. q.var ≢ r.var) r) p l.once) (differs (sets_bounds t.sets ++ vars_bounds q vs) o k));
          lits = l.lits;
          few = l.few;
        };
      })) (ap Ok same ∙ f)

set-step : (m : Limits) (t : Text) (q : Quant) (vs : List ℕ) (ks : List TokenKind) (k : TokenKind) (b : Gathered) → IsInSet m t q vs ks → step_of m (set_of t q vs) k ≡ Ok b → Told m (ks ++ k ∷ []) b
set-step m t q vs ks (Number (pos w)) b h e = var-step m t q vs ks w b h e
set-step m t q vs ks (Number (negsuc w)) b h e = cc
set-step m t q vs ks E b h e = cc
set-step m t q vs ks A b h e = cc
set-step m t q vs ks P b h e = cc
set-step m t q vs ks Cnf b h e = cc
set-step m t q vs ks Qrat b h e = cc
set-step m t q vs ks D b h e = cc
set-step m t q vs ks U b h e = cc
set-step m t q vs ks R b h e = cc
set-step m t q vs ks Other b h e = cc

-- in the header

problem-step : (m : Limits) (ks : List TokenKind) (k : TokenKind) (b : Gathered) → ks ≡ [] → step_of m (inside Problem 0 0 0 [] [] []) k ≡ Ok b → Told m (ks ++ k ∷ []) b
problem-step m ks P b h e = become m (ks ++ P ∷ []) (inside Format 0 0 0 [] [] []) b (at_format (ap (λ js. js ++ P ∷ []) h)) e
problem-step m ks (Number z) b h e = cc
problem-step m ks Cnf b h e = cc
problem-step m ks Qrat b h e = cc
problem-step m ks E b h e = cc
problem-step m ks A b h e = cc
problem-step m ks D b h e = cc
problem-step m ks U b h e = cc
problem-step m ks R b h e = cc
problem-step m ks Other b h e = cc

format-step : (m : Limits) (ks : List TokenKind) (k : TokenKind) (b : Gathered) → ks ≡ P ∷ [] → step_of m (inside Format 0 0 0 [] [] []) k ≡ Ok b → Told m (ks ++ k ∷ []) b
format-step m ks Cnf b h e = become m (ks ++ Cnf ∷ []) (inside Vars 0 0 0 [] [] []) b (at_vars (ap (λ js. js ++ Cnf ∷ []) h)) e
format-step m ks (Number z) b h e = cc
format-step m ks P b h e = cc
format-step m ks Qrat b h e = cc
format-step m ks E b h e = cc
format-step m ks A b h e = cc
format-step m ks D b h e = cc
format-step m ks U b h e = cc
format-step m ks R b h e = cc
format-step m ks Other b h e = cc

vars-number : (m : Limits) (ks : List TokenKind) (n : ℕ) (b : Gathered) → ks ≡ P ∷ Cnf ∷ [] → step_of m (inside Vars 0 0 0 [] [] []) (Number (pos n)) ≡ Ok b → Told m (ks ++ Number (pos n) ∷ []) b
vars-number m ks n b h e = go (nat_lt m.vars n) refl e where
  go : (x : Bool) → nat_lt m.vars n ≡ x → with_vars (inside Vars 0 0 0 [] [] []) (cond {A = Result ℕ ℕ} x (Err 8) (Ok n)) ≡ Ok b → Told m (ks ++ Number (pos n) ∷ []) b
  go true p f = cc
  go false p f = become m (ks ++ Number (pos n) ∷ []) (inside Count n 0 0 [] [] []) b (at_count n (ltb-false m.vars n p) (ap (λ js. js ++ Number (pos n) ∷ []) h)) f

vars-step : (m : Limits) (ks : List TokenKind) (k : TokenKind) (b : Gathered) → ks ≡ P ∷ Cnf ∷ [] → step_of m (inside Vars 0 0 0 [] [] []) k ≡ Ok b → Told m (ks ++ k ∷ []) b
vars-step m ks (Number (pos n)) b h e = vars-number m ks n b h e
vars-step m ks (Number (negsuc n)) b h e = cc
vars-step m ks P b h e = cc
vars-step m ks Cnf b h e = cc
vars-step m ks Qrat b h e = cc
vars-step m ks E b h e = cc
vars-step m ks A b h e = cc
vars-step m ks D b h e = cc
vars-step m ks U b h e = cc
vars-step m ks R b h e = cc
vars-step m ks Other b h e = cc

count-number : (m : Limits) (v : ℕ) (ks : List TokenKind) (n : ℕ) (b : Gathered) → v ≤ m.vars → ks ≡ P ∷ Cnf ∷ Number (pos v) ∷ [] → step_of m (inside Count v 0 0 [] [] []) (Number (pos n)) ≡ Ok b → Told m (ks ++ Number (pos n) ∷ []) b
count-number m v ks n b l h e = go (nat_lt m.clauses n) refl e where
  go : (x : Bool) → nat_lt m.clauses n ≡ x → with_count (inside Count v 0 0 [] [] []) (cond {A = Result ℕ ℕ} x (Err 8) (Ok n)) ≡ Ok b → Told m (ks ++ Number (pos n) ∷ []) b
  go true p f = cc
  go false p f =
      let t : Text = record { vars = v; count = n; sets = []; clauses = [] } in
      become m (ks ++ Number (pos n) ∷ []) (outside_of t) b (at_outside t (record {
        kinds = ap (λ js. js ++ Number (pos n) ∷ []) h;
        lawful = record { vars = l; count = ltb-false m.clauses n p; clauses = omega arith; bounds = tt; once = tt; lits = tt; few = omega arith };
      })) f

count-step : (m : Limits) (v : ℕ) (ks : List TokenKind) (k : TokenKind) (b : Gathered) → v ≤ m.vars → ks ≡ P ∷ Cnf ∷ Number (pos v) ∷ [] → step_of m (inside Count v 0 0 [] [] []) k ≡ Ok b → Told m (ks ++ k ∷ []) b
count-step m v ks (Number (pos n)) b l h e = count-number m v ks n b l h e
count-step m v ks (Number (negsuc n)) b l h e = cc
count-step m v ks P b l h e = cc
count-step m v ks Cnf b l h e = cc
count-step m v ks Qrat b l h e = cc
count-step m v ks E b l h e = cc
count-step m v ks A b l h e = cc
count-step m v ks D b l h e = cc
count-step m v ks U b l h e = cc
count-step m v ks R b l h e = cc
count-step m v ks Other b l h e = cc

-- one token more
told-step : (m : Limits) (ks : List TokenKind) (b : Gathered) (k : TokenKind) (a : Gathered) → Told m ks b → step_of m b k ≡ Ok a → Told m (ks ++ k ∷ []) a
told-step m ks b k a (at_problem h) e = problem-step m ks k a h e
told-step m ks b k a (at_format h) e = format-step m ks k a h e
told-step m ks b k a (at_vars h) e = vars-step m ks k a h e
told-step m ks b k a (at_count v l h) e = count-step m v ks k a l h e
told-step m ks b k a (at_outside t h) e = outside-step m t ks k a h e
told-step m ks b k a (at_set t q vs h) e = set-step m t q vs ks k a h e
told-step m ks b k a (at_clause t ls h) e = clause-step m t ls ks k a h e

told-on : (m : Limits) (ks js : List TokenKind) (b a : Gathered) → Told m ks b → kinds_read m (Ok b) js ≡ Ok a → Told m (ks ++ js) a
told-on m ks [] b a h e = subst (λ xs. Told m xs a) (sym (append-nil ks)) (become m ks b a h e)
told-on m ks (j ∷ js) b a h e = go (step_of m b j) refl e (λ d i f. told-on m (ks ++ j ∷ []) js d a (told-step m ks b j d h i) f) where
  go : (r : Result Gathered ℕ) → step_of m b j ≡ r → kinds_read m r js ≡ Ok a → ((d : Gathered) → step_of m b j ≡ Ok d → kinds_read m (Ok d) js ≡ Ok a → Told m ((ks ++ j ∷ []) ++ js) a) → Told m (ks ++ j ∷ js) a
  go (Ok d) i f ih = subst (λ xs. Told m xs a) (append_assoc ks (j ∷ []) js) (ih d i f)
  go (Err c) i f ih = absurd (let x = kinds-err m c js in cc)

-- of tokens that the reader takes it is told what they are
pub told : (m : Limits) (ks : List TokenKind) (b : Gathered) → kinds_read m (Ok nothing_read) ks ≡ Ok b → Told m ks b
told m ks b e = told-on m [] ks nothing_read b (at_problem refl) e
