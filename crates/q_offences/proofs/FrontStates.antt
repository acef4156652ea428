-- Where the reader stands behind what is written so far.
use Rattle.std.proofs.Common.{◌≡◌, ◌≢◌, ℕ, ◌+◌, ◌<◌, ◌≤◌, List, [], ◌∷◌, ◌++◌, length, map, Ok, refl, ap, sym, ◌∙◌, arith, pos, zero-add, append_assoc, append-nil, length-append, subst}
use Rattle.std.specs.List.{AllByRecursion}
use Rattle.q_logic.specs.declared.limits.Limits.{Limits}
use Rattle.q_logic.specs.declared.formulas.Quant.{Quant}
use Rattle.q_logic.specs.Prelude.{Literal, Prefix, clause_of, ArePairs, Block}
use Rattle.q_text.specs.declared.tokens.TokenKind.{TokenKind}
use Rattle.q_text.specs.declared.tokens.TokenKind.TheVariants.{Number, P, Cnf}
use Rattle.q_text.specs.Tokens.{literals_kinds}
use Rattle.q_dimacs.specs.declared.builder.Place.TheVariants.{Vars, Count, Outside, InSet, InClause}
use Rattle.q_dimacs.specs.Reading.{Gathered, nothing_read}
use Rattle.q_dimacs.specs.Dimacs.{Text, vars_kinds, sets_kinds, clauses_kinds, letter, spelled, vars_bounds, sets_bounds, total, IsVar}
use Rattle.q_dimacs.proofs.RoundTrip.{all-left}
use Rattle.q_dimacs.proofs.GrammarIsRead.{kinds_read, inside, length-map-clause}
use Rattle.q_offences.specs.FormulaFronts.{IsLawfulSoFar, IsOutside, IsInSet, IsInClause, with_set, with_clause}
use Rattle.q_offences.proofs.SpelledFronts.{kinds-append, not-above, all-sets, all-clauses, begin-set, begun-set, begun-clause, var_numbers, literal_numbers}

-- one more set, one more clause

pub sets_bounds-push : (ss : List Block) (q : Quant) (vs : List ℕ) → sets_bounds (ss ++ record { quant = q; vars = vs } ∷ []) ≡ sets_bounds ss ++ vars_bounds q vs
sets_bounds-push [] q vs = append-nil (vars_bounds q vs)
sets_bounds-push (s ∷ ss) q vs = ap (λ p. vars_bounds s.quant s.vars ++ p) (sets_bounds-push ss q vs) ∙ sym (append_assoc (vars_bounds s.quant s.vars) (sets_bounds ss) (vars_bounds q vs))

pub sets_kinds-push : (ss : List Block) (q : Quant) (vs : List ℕ) → sets_kinds (ss ++ record { quant = q; vars = vs } ∷ []) ≡ sets_kinds ss ++ letter q ∷ vars_kinds vs
sets_kinds-push [] q vs = append-nil (letter q ∷ vars_kinds vs)
sets_kinds-push (s ∷ ss) q vs = ap (λ ks. letter s.quant ∷ vars_kinds s.vars ++ ks) (sets_kinds-push ss q vs) ∙ sym (append_assoc (letter s.quant ∷ vars_kinds s.vars) (sets_kinds ss) (letter q ∷ vars_kinds vs))

pub clauses_kinds-push : (cs : List (List Literal)) (ls : List Literal) → clauses_kinds (cs ++ ls ∷ []) ≡ clauses_kinds cs ++ literals_kinds ls
clauses_kinds-push [] ls = append-nil (literals_kinds ls)
clauses_kinds-push (c ∷ cs) ls = ap (λ ks. literals_kinds c ++ ks) (clauses_kinds-push cs ls) ∙ sym (append_assoc (literals_kinds c) (clauses_kinds cs) (literals_kinds ls))

pub total-push : (cs : List (List Literal)) (ls : List Literal) → total (cs ++ ls ∷ []) ≡ total cs + length ls
total-push [] ls = omega arith
total-push (c ∷ cs) ls = let h = total-push cs ls in omega arith

pub clauses-push : (cs : List (List Literal)) (ls : List Literal) → map clause_of (cs ++ ls ∷ []) ≡ map clause_of cs ++ clause_of ls ∷ []
clauses-push [] ls = refl
clauses-push (c ∷ cs) ls = ap (λ x. clause_of c ∷ x) (clauses-push cs ls)

pub pairs-left : {X : Type 0} (R : X → X → Type 0) (xs ys : List X) → ArePairs R (xs ++ ys) → ArePairs R xs
pairs-left R [] ys h = tt
pairs-left R (x ∷ xs) ys h = (all-left (R x) xs ys h.0, pairs-left R xs ys h.1)

pub all-last : {X : Type 0} (Q : X → Type 0) (xs : List X) (y : X) → AllByRecursion Q (xs ++ y ∷ []) → Q y
all-last Q [] y h = h.0
all-last Q (x ∷ xs) y h = all-last Q xs y h.1

-- what is lawful stays so without its last set or clause

without_set : (m : Limits) (t : Text) (q : Quant) (vs : List ℕ) → IsLawfulSoFar m (with_set t q vs) → IsLawfulSoFar m t
without_set m t q vs h = record {
  vars = h.vars;
  count = h.count;
  clauses = h.clauses;
  bounds = all-left (λ b. IsVar t.vars b.var) (sets_bounds t.sets) (vars_bounds q vs) (subst (λ p. AllByRecursion (λ b. IsVar t.vars b.var) p) (sets_bounds-push t.sets q vs) h.bounds);
  once = pairs-left (λ b r. b.var ≢ r.var) (sets_bounds t.sets) (vars_bounds q vs) (subst (λ p. ArePairs (λ b r. b.var ≢ r.var) p) (sets_bounds-push t.sets q vs) h.once);
  lits = h.lits;
  few = h.few;
}

without_clause : (m : Limits) (t : Text) (ls : List Literal) → IsLawfulSoFar m (with_clause t ls) → IsLawfulSoFar m t
without_clause m t ls h = record {
  vars = h.vars;
  count = h.count;
  clauses = let l = length-append t.clauses (ls ∷ []) in let k = h.clauses in omega arith;
  bounds = h.bounds;
  once = h.once;
  lits = all-left (λ c. AllByRecursion (λ l. IsVar t.vars l.var) c) t.clauses (ls ∷ []) h.lits;
  few = let l = total-push t.clauses ls in let k = h.few in omega arith;
}

-- states

abbrev pub outside_of : Text → Gathered
outside_of t = inside Outside t.vars t.count (total t.clauses) (sets_bounds t.sets) (map clause_of t.clauses) []

abbrev pub set_of : Text → Quant → List ℕ → Gathered
set_of t q vs = inside (InSet q) t.vars t.count 0 (sets_bounds t.sets ++ vars_bounds q vs) [] []

abbrev pub clause_in : Text → List Literal → Gathered
clause_in t ls = inside InClause t.vars t.count (total t.clauses + length ls) (sets_bounds t.sets) (map clause_of t.clauses) ls

header-read : (m : Limits) (v c : ℕ) (ks : List TokenKind) → v ≤ m.vars → c ≤ m.clauses
    → kinds_read m (Ok nothing_read) (P ∷ Cnf ∷ Number (pos v) ∷ Number (pos c) ∷ ks) ≡ kinds_read m (Ok (inside Outside v c 0 [] [] [])) ks
header-read m v c ks h k =
    let a = not-above v m.vars h in
    let b = not-above c m.clauses k in
    let x : kinds_read m (Ok (inside Vars 0 0 0 [] [] [])) (Number (pos v) ∷ []) ≡ Ok (inside Count v 0 0 [] [] []) = rw a refl in
    let y : kinds_read m (Ok (inside Count v 0 0 [] [] [])) (Number (pos c) ∷ []) ≡ Ok (inside Outside v c 0 [] [] []) = rw b refl in
    ap (λ r. kinds_read m r (Number (pos c) ∷ ks)) x ∙ ap (λ r. kinds_read m r ks) y

pub text-read : (m : Limits) (t : Text) → IsLawfulSoFar m t → kinds_read m (Ok nothing_read) (spelled t) ≡ Ok (outside_of t)
text-read m t h =
    let d = append-nil (sets_bounds t.sets) in
    let z = zero-add (total t.clauses) in
    let f : 0 + total t.clauses ≤ m.lits = let k = h.few in omega arith in
    let c : 0 + length t.clauses ≤ t.count = let k = h.clauses in omega arith in
    header-read m t.vars t.count (sets_kinds t.sets ++ clauses_kinds t.clauses) h.vars h.count
    ∙ (kinds-append m (Ok (inside Outside t.vars t.count 0 [] [] [])) (sets_kinds t.sets) (clauses_kinds t.clauses)
    ∙ (ap (λ r. kinds_read m r (clauses_kinds t.clauses)) (all-sets m t.vars t.count [] [] t.sets h.bounds (rw d h.once))
    ∙ (all-clauses m t.vars t.count 0 (sets_bounds t.sets) [] t.clauses h.lits f c ∙ rw z refl)))

pub outside-read : (m : Limits) (t : Text) (ks : List TokenKind) → IsOutside m t ks → kinds_read m (Ok nothing_read) ks ≡ Ok (outside_of t)
outside-read m t ks h = ap (λ xs. kinds_read m (Ok nothing_read) xs) h.kinds ∙ text-read m t h.lawful

no-clause : (t : Text) → t.clauses ≡ [] → outside_of t ≡ inside Outside t.vars t.count 0 (sets_bounds t.sets) [] []
no-clause t e = ap (λ (cs : List (List Literal)). inside Outside t.vars t.count (total cs) (sets_bounds t.sets) (map clause_of cs) []) e

pub set-read : (m : Limits) (t : Text) (q : Quant) (vs : List ℕ) (ks : List TokenKind) → IsInSet m t q vs ks → kinds_read m (Ok nothing_read) ks ≡ Ok (set_of t q vs)
set-read m t q vs ks h =
    let l = h.lawful in
    let d = append-nil (vars_bounds q vs) in
    let p = sets_bounds-push t.sets q vs in
    let b : AllByRecursion (λ b. IsVar t.vars b.var) (sets_bounds t.sets ++ vars_bounds q vs) = subst (λ p. AllByRecursion (λ b. IsVar t.vars b.var) p) p l.bounds in
    let o : ArePairs (λ b r. b.var ≢ r.var) (sets_bounds t.sets ++ vars_bounds q vs) = subst (λ p. ArePairs (λ b r. b.var ≢ r.var) p) p l.once in
    ap (λ xs. kinds_read m (Ok nothing_read) xs) h.kinds
    ∙ (kinds-append m (Ok nothing_read) (spelled t) (letter q ∷ var_numbers vs)
    ∙ (ap (λ r. kinds_read m r (letter q ∷ var_numbers vs)) (text-read m t (without_set m t q vs l) ∙ ap Ok (no-clause t h.first))
    ∙ (kinds-append m (Ok (inside Outside t.vars t.count 0 (sets_bounds t.sets) [] [])) (letter q ∷ []) (var_numbers vs)
    ∙ (ap (λ r. kinds_read m r (var_numbers vs)) (begin-set m t.vars t.count q (sets_bounds t.sets))
    ∙ begun-set m t.vars t.count q (sets_bounds t.sets) [] vs (all-behind (sets_bounds t.sets) (vars_bounds q vs) b) (rw d o)))))
  where
    all-behind : (xs ys : Prefix) → AllByRecursion (λ b. IsVar t.vars b.var) (xs ++ ys) → AllByRecursion (λ b. IsVar t.vars b.var) ys
    all-behind [] ys h = h
    all-behind (x ∷ xs) ys h = all-behind xs ys h.1

pub clause-read : (m : Limits) (t : Text) (ls : List Literal) (ks : List TokenKind) → IsInClause m t ls ks → kinds_read m (Ok nothing_read) ks ≡ Ok (clause_in t ls)
clause-read m t ls ks h =
    let l = h.lawful in
    let n = length-append t.clauses (ls ∷ []) in
    let e = length-map-clause t.clauses in
    let room : length (map clause_of t.clauses) < t.count = let k = l.clauses in omega arith in
    let few : total t.clauses + length ls ≤ m.lits = let k = l.few in let s = total-push t.clauses ls in omega arith in
    ap (λ xs. kinds_read m (Ok nothing_read) xs) h.kinds
    ∙ (kinds-append m (Ok nothing_read) (spelled t) (literal_numbers ls)
    ∙ (ap (λ r. kinds_read m r (literal_numbers ls)) (text-read m t (without_clause m t ls l))
    ∙ begun-clause m t.vars t.count (total t.clauses) (sets_bounds t.sets) (map clause_of t.clauses) ls h.begun (all-last (λ c. AllByRecursion (λ l. IsVar t.vars l.var) c) t.clauses ls l.lits) few room))
