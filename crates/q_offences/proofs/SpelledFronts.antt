-- What is spelled in front of a place leads the reader there.
use Rattle.std.proofs.Common.{◌≡◌, ◌≢◌, ℕ, zero, suc, ◌+◌, ◌<◌, ◌≤◌, ◌==◌, nat_lt, nat_le, Bool, true, false, List, [], ◌∷◌, ◌++◌, length, map, Ok, Err, Result, refl, ap, ◌∙◌, arith, pos, add-one, add-zero, append_assoc, append-nil, if◌then◌else◌, length-append}
use Rattle.std.proofs.lemmas.Bool.Decides.{nat_tests}
use Rattle.std.specs.List.{AllByRecursion}
use Rattle.q_logic.specs.declared.formulas.Bound.{Bound}
use Rattle.q_logic.specs.declared.limits.Limits.{Limits}
use Rattle.q_logic.specs.declared.formulas.Quant.{Quant}
use Rattle.q_logic.specs.declared.formulas.Quant.TheVariants.{Exists, Forall}
use Rattle.q_logic.specs.Prelude.{Literal, number_of, Matrix, Prefix, clause_of, is_bound, ArePairs, Block}
use Rattle.q_text.specs.declared.tokens.TokenKind.{TokenKind}
use Rattle.q_text.specs.declared.tokens.TokenKind.TheVariants.{Number}
use Rattle.q_text.specs.Tokens.{literals_kinds}
use Rattle.q_dimacs.specs.declared.builder.Place.{Place}
use Rattle.q_dimacs.specs.declared.builder.Place.TheVariants.{Outside, InSet, InClause}
use Rattle.q_dimacs.specs.Reading.{Gathered, step_of, number}
use Rattle.q_dimacs.specs.Dimacs.{vars_kinds, sets_kinds, clauses_kinds, letter, vars_bounds, sets_bounds, total, IsVar}
use Rattle.q_dimacs.proofs.RoundTrip.{all-left, all-right}
use Rattle.q_dimacs.proofs.PartsKept.{no_zero}
use Rattle.q_dimacs.proofs.GrammarIsRead.{kinds_read, inside}

pub kinds-append : (m : Limits) (r : Result Gathered ℕ) (xs ys : List TokenKind) → kinds_read m r (xs ++ ys) ≡ kinds_read m (kinds_read m r xs) ys
kinds-append m r [] ys = refl
kinds-append m (Ok b) (x ∷ xs) ys = kinds-append m (step_of m b x) xs ys
kinds-append m (Err c) (x ∷ xs) ys = kinds-append m (Err c) xs ys

pub not-above : (n v : ℕ) → n ≤ v → nat_lt v n ≡ false
not-above n v h = grind (arith, nat_tests)

not-full : (n k : ℕ) → n < k → nat_le k n ≡ false
not-full n k h = grind (arith, nat_tests)

-- literals

abbrev pub literal_numbers : List Literal → List TokenKind
literal_numbers ls = map (λ l. Number (number_of l)) ls

one-literal : (m : Limits) (at : Place) (v c n : ℕ) (p : Prefix) (x : Matrix) (ls : List Literal) (l : Literal) → IsVar v l.var → n < m.lits
    → number m (inside at v c n p x ls) (number_of l) ≡ Ok (inside InClause v c (n + 1) p x (ls ++ l ∷ []))
one-literal m at v c n p x ls l h k = go l.var l.negative h where
  go : (w : ℕ) (s : Bool) → IsVar v w → number m (inside at v c n p x ls) (number_of (record { var = w; negative = s })) ≡ Ok (inside InClause v c (n + 1) p x (ls ++ record { var = w; negative = s } ∷ []))
  go zero s h = absurd (let z = h.0 in omega arith)
  go (suc w) true h = rw (not-above (w + 1) v (let z = h.1 in omega arith), not-full n m.lits k) (ap (λ y. Ok (inside InClause v c (n + 1) p x (ls ++ record { var = y; negative = true } ∷ []))) (add-one w))
  go (suc w) false h = rw (no_zero (suc w) h.0, not-above (suc w) v h.1, not-full n m.lits k) refl

more-literals : (m : Limits) (v c n : ℕ) (p : Prefix) (x : Matrix) (ls ms : List Literal) → AllByRecursion (λ l. IsVar v l.var) ms → n + length ms ≤ m.lits
    → kinds_read m (Ok (inside InClause v c n p x ls)) (literal_numbers ms) ≡ Ok (inside InClause v c (n + length ms) p x (ls ++ ms))
more-literals m v c n p x ls [] h k = rw (add-zero, append-nil) refl
more-literals m v c n p x ls (l ∷ ms) h k =
    let one = one-literal m InClause v c n p x ls l h.0 (omega arith) in
    let g : (n + 1) + length ms ≤ m.lits = omega arith in
    let e : (n + 1) + length ms ≡ n + suc (length ms) = omega arith in
    let a = append_assoc ls (l ∷ []) ms in
    ap (λ r. kinds_read m r (literal_numbers ms)) one ∙ (more-literals m v c (n + 1) p x (ls ++ l ∷ []) ms h.1 g ∙ rw (e, a) refl)

-- the literals of a clause that has begun
pub begun-clause : (m : Limits) (v c n : ℕ) (p : Prefix) (x : Matrix) (ls : List Literal) → 1 ≤ length ls → AllByRecursion (λ l. IsVar v l.var) ls → n + length ls ≤ m.lits → length x < c
    → kinds_read m (Ok (inside Outside v c n p x [])) (literal_numbers ls) ≡ Ok (inside InClause v c (n + length ls) p x ls)
begun-clause m v c n p x [] b h k l = absurd (omega (arith, b))
begun-clause m v c n p x (a ∷ ls) b h k l =
    let one = one-literal m Outside v c n p x [] a h.0 (omega arith) in
    let g : (n + 1) + length ls ≤ m.lits = omega arith in
    let e : (n + 1) + length ls ≡ n + suc (length ls) = omega arith in
    ap (λ r. kinds_read m r (literal_numbers ls)) (open-clause (nat_le c (length x)) (not-full (length x) c l) (number m (inside Outside v c n p x []) (number_of a)) ∙ one)
    ∙ (more-literals m v c (n + 1) p x (a ∷ []) ls h.1 g ∙ ap (λ y. Ok (inside InClause v c y p x (a ∷ ls))) e) where
      open-clause : (t : Bool) → t ≡ false → (r : Result Gathered ℕ) → (if t then Err 6 else r) ≡ r
      open-clause true e r = cc
      open-clause false e r = refl

pub literals-split : (ls : List Literal) → literals_kinds ls ≡ literal_numbers ls ++ Number (pos 0) ∷ []
literals-split [] = refl
literals-split (l ∷ ls) = ap (λ ks. Number (number_of l) ∷ ks) (literals-split ls)

whole-clause : (m : Limits) (v c n : ℕ) (p : Prefix) (x : Matrix) (ls : List Literal) → AllByRecursion (λ l. IsVar v l.var) ls → n + length ls ≤ m.lits → length x < c
    → kinds_read m (Ok (inside Outside v c n p x [])) (literals_kinds ls) ≡ Ok (inside Outside v c (n + length ls) p (x ++ clause_of ls ∷ []) [])
whole-clause m v c n p x [] h k l = rw (not-full (length x) c l, add-zero) refl
whole-clause m v c n p x (a ∷ ls) h k l =
    ap (λ ks. kinds_read m (Ok (inside Outside v c n p x [])) ks) (literals-split (a ∷ ls))
    ∙ (kinds-append m (Ok (inside Outside v c n p x [])) (literal_numbers (a ∷ ls)) (Number (pos 0) ∷ [])
    ∙ ap (λ r. kinds_read m r (Number (pos 0) ∷ [])) (begun-clause m v c n p x (a ∷ ls) (omega arith) h k l))

pub all-clauses : (m : Limits) (v c n : ℕ) (p : Prefix) (x : Matrix) (cs : List (List Literal)) → AllByRecursion (λ c. AllByRecursion (λ l. IsVar v l.var) c) cs → n + total cs ≤ m.lits → length x + length cs ≤ c
    → kinds_read m (Ok (inside Outside v c n p x [])) (clauses_kinds cs) ≡ Ok (inside Outside v c (n + total cs) p (x ++ map clause_of cs) [])
all-clauses m v c n p x [] h k l = rw (add-zero, append-nil) refl
all-clauses m v c n p x (d ∷ cs) h k l =
    let one = whole-clause m v c n p x d h.0 (omega arith) (omega arith) in
    let g : (n + length d) + total cs ≤ m.lits = omega arith in
    let e : (n + length d) + total cs ≡ n + (length d + total cs) = omega arith in
    let j : length (x ++ clause_of d ∷ []) + length cs ≤ c = rw length-append (omega arith) in
    let a = append_assoc x (clause_of d ∷ []) (map clause_of cs) in
    kinds-append m (Ok (inside Outside v c n p x [])) (literals_kinds d) (clauses_kinds cs)
    ∙ (ap (λ r. kinds_read m r (clauses_kinds cs)) one
    ∙ (all-clauses m v c (n + length d) p (x ++ clause_of d ∷ []) cs h.1 g j ∙ rw (e, a) refl))

-- sets

all-mid : (r : Bound) (p rest : Prefix) (q : Bound) → AllByRecursion (λ s. r.var ≢ s.var) (p ++ q ∷ rest) → r.var ≢ q.var
all-mid r [] rest q h = h.0
all-mid r (s ∷ p) rest q h = all-mid r p rest q h.1

unequal : (a b : ℕ) → a ≢ b → (a == b) ≡ false
unequal a b h = grind (arith, nat_tests)

unbound : (p rest : Prefix) (q : Bound) → ArePairs (λ r s. r.var ≢ s.var) (p ++ q ∷ rest) → is_bound p q.var ≡ false
unbound [] rest q h = refl
unbound (r ∷ p) rest q h = rw (unequal r.var q.var (all-mid r p rest q h.0)) (unbound p rest q h.1)

abbrev pub var_numbers : List ℕ → List TokenKind
var_numbers vs = map (λ v. Number (pos v)) vs

pub vars-split : (vs : List ℕ) → vars_kinds vs ≡ var_numbers vs ++ Number (pos 0) ∷ []
vars-split [] = refl
vars-split (v ∷ vs) = ap (λ ks. Number (pos v) ∷ ks) (vars-split vs)

pub begun-set : (m : Limits) (v c : ℕ) (q : Quant) (p rest : Prefix) (vs : List ℕ) → AllByRecursion (λ b. IsVar v b.var) (vars_bounds q vs) → ArePairs (λ r s. r.var ≢ s.var) (p ++ (vars_bounds q vs ++ rest))
    → kinds_read m (Ok (inside (InSet q) v c 0 p [] [])) (var_numbers vs) ≡ Ok (inside (InSet q) v c 0 (p ++ vars_bounds q vs) [] [])
begun-set m v c q p rest [] h d = rw append-nil refl
begun-set m v c q p rest (w ∷ vs) h d =
    let z = no_zero w h.0.0 in
    let n = not-above w v h.0.1 in
    let u = unbound p (vars_bounds q vs ++ rest) (record { quant = q; var = w }) d in
    let a = append_assoc p (record { quant = q; var = w } ∷ []) (vars_bounds q vs ++ rest) in
    let b = append_assoc p (record { quant = q; var = w } ∷ []) (vars_bounds q vs) in
    let one : kinds_read m (Ok (inside (InSet q) v c 0 p [] [])) (Number (pos w) ∷ []) ≡ Ok (inside (InSet q) v c 0 (p ++ record { quant = q; var = w } ∷ []) [] []) = rw (z, n, u) refl in
    ap (λ r. kinds_read m r (var_numbers vs)) one ∙ (begun-set m v c q (p ++ record { quant = q; var = w } ∷ []) rest vs h.1 (rw a d) ∙ rw b refl)

pub begin-set : (m : Limits) (v c : ℕ) (q : Quant) (p : Prefix) → kinds_read m (Ok (inside Outside v c 0 p [] [])) (letter q ∷ []) ≡ Ok (inside (InSet q) v c 0 p [] [])
begin-set m v c Exists p = refl
begin-set m v c Forall p = refl

whole-set : (m : Limits) (v c : ℕ) (q : Quant) (p rest : Prefix) (vs : List ℕ) → AllByRecursion (λ b. IsVar v b.var) (vars_bounds q vs) → ArePairs (λ r s. r.var ≢ s.var) (p ++ (vars_bounds q vs ++ rest))
    → kinds_read m (Ok (inside (InSet q) v c 0 p [] [])) (vars_kinds vs) ≡ Ok (inside Outside v c 0 (p ++ vars_bounds q vs) [] [])
whole-set m v c q p rest vs h d =
    ap (λ ks. kinds_read m (Ok (inside (InSet q) v c 0 p [] [])) ks) (vars-split vs)
    ∙ (kinds-append m (Ok (inside (InSet q) v c 0 p [] [])) (var_numbers vs) (Number (pos 0) ∷ [])
    ∙ ap (λ r. kinds_read m r (Number (pos 0) ∷ [])) (begun-set m v c q p rest vs h d))

pub all-sets : (m : Limits) (v c : ℕ) (p rest : Prefix) (ss : List Block) → AllByRecursion (λ b. IsVar v b.var) (sets_bounds ss) → ArePairs (λ r s. r.var ≢ s.var) (p ++ (sets_bounds ss ++ rest))
    → kinds_read m (Ok (inside Outside v c 0 p [] [])) (sets_kinds ss) ≡ Ok (inside Outside v c 0 (p ++ sets_bounds ss) [] [])
all-sets m v c p rest [] h d = rw append-nil refl
all-sets m v c p rest (s ∷ ss) h d =
    let w = append_assoc (vars_bounds s.quant s.vars) (sets_bounds ss) rest in
    let one = whole-set m v c s.quant p (sets_bounds ss ++ rest) s.vars (all-left (λ b. IsVar v b.var) (vars_bounds s.quant s.vars) (sets_bounds ss) h) (rw w at d) in
    let a = append_assoc p (vars_bounds s.quant s.vars) (sets_bounds ss) in
    let b = append_assoc p (vars_bounds s.quant s.vars) (sets_bounds ss ++ rest) in
    kinds-append m (Ok (inside Outside v c 0 p [] [])) (letter s.quant ∷ []) (vars_kinds s.vars ++ sets_kinds ss)
    ∙ (ap (λ r. kinds_read m r (vars_kinds s.vars ++ sets_kinds ss)) (begin-set m v c s.quant p)
    ∙ (kinds-append m (Ok (inside (InSet s.quant) v c 0 p [] [])) (vars_kinds s.vars) (sets_kinds ss)
    ∙ (ap (λ r. kinds_read m r (sets_kinds ss)) one
    ∙ (all-sets m v c (p ++ vars_bounds s.quant s.vars) rest ss (all-right (λ b. IsVar v b.var) (vars_bounds s.quant s.vars) (sets_bounds ss) h) (rw b (rw w at d)) ∙ rw a refl))))
