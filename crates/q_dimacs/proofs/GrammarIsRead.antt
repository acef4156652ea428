-- What is in the grammar is read.
use Rattle.std.proofs.Common.{◌≡◌, ◌≢◌, ℕ, zero, suc, ◌+◌, ◌<◌, ◌≤◌, ◌==◌, nat_lt, nat_le, Bool, true, false, List, [], ◌∷◌, ◌++◌, length, map, Ok, Err, Result, refl, ap, sym, ◌∙◌, arith, pos, add-one, add-zero, append_assoc, append-nil, if◌then◌else◌, length-append, zero-add, take}
use Rattle.std.proofs.lemmas.Bool.Decides.{nat_tests}
use Rattle.std.proofs.lemmas.Bool.{le-leb}
use Rattle.std.specs.List.{AllByRecursion}
use Rattle.q_logic.specs.declared.formulas.Bound.{Bound}
use Rattle.q_logic.specs.declared.limits.Limits.{Limits}
use Rattle.q_logic.specs.declared.formulas.Quant.{Quant}
use Rattle.q_logic.specs.declared.formulas.Quant.TheVariants.{Exists, Forall}
use Rattle.q_logic.specs.Prelude.{Literal, number_of, Matrix, Prefix, PrenexFormula, clause_of, is_bound, ArePairs, Block}
use Rattle.q_text.specs.declared.tokens.Token.{Token}
use Rattle.q_text.specs.declared.tokens.TokenKind.{TokenKind}
use Rattle.q_text.specs.declared.tokens.TokenKind.TheVariants.{Number}
use Rattle.q_dimacs.specs.declared.builder.Place.{Place}
use Rattle.q_dimacs.specs.declared.builder.Place.TheVariants.{Vars, Count, Outside, InSet, InClause}
use Rattle.q_dimacs.specs.declared.error.ReadError.{ReadError}
use Rattle.q_dimacs.specs.Reading.{Gathered, step_of, number, nothing_read}
use Rattle.q_dimacs.specs.Offences.{tokens_read, at_line, at_last, past_limit, parse}
use Rattle.q_text.specs.Texts.{tokens_of, tokens_ended, line_after}
use Rattle.q_dimacs.specs.Dimacs.{Text, vars_kinds, sets_kinds, clauses_kinds, letter, spelled, vars_bounds, sets_bounds, total, IsVar, IsLawful, Dimacs, text_formula}
use Rattle.q_dimacs.proofs.RoundTrip.{all-left, all-right}
use Rattle.q_dimacs.proofs.PartsKept.{no_zero}
use Rattle.q_text.specs.Tokens.{literals_kinds}

abbrev kind_step : Limits → Result Gathered ℕ → TokenKind → Result Gathered ℕ
kind_step m (Ok b) k = step_of m b k
kind_step m (Err c) k = Err c

abbrev pub kinds_read : Limits → Result Gathered ℕ → List TokenKind → Result Gathered ℕ
kinds_read m r [] = r
kinds_read m r (k ∷ ks) = kinds_read m (kind_step m r k) ks

kinds-append : (m : Limits) (r : Result Gathered ℕ) (xs ys : List TokenKind) → kinds_read m r (xs ++ ys) ≡ kinds_read m (kinds_read m r xs) ys
kinds-append m r [] ys = refl
kinds-append m r (x ∷ xs) ys = kinds-append m (kind_step m r x) xs ys

pub kinds-err : (m : Limits) (c : ℕ) (ks : List TokenKind) → kinds_read m (Err c) ks ≡ Err c
kinds-err m c [] = refl
kinds-err m c (k ∷ ks) = kinds-err m c ks

-- lines don't matter where there is no offence
pub without-lines : (m : Limits) (b d : Gathered) (ts : List Token) → kinds_read m (Ok b) (map (λ t. t.kind) ts) ≡ Ok d → tokens_read m (Ok b) ts ≡ Ok d
without-lines m b d [] e = ap keep e where
  keep : Result Gathered ℕ → Result Gathered ReadError
  keep (Ok x) = Ok x
  keep (Err c) = Ok b
without-lines m b d (t ∷ ts) e = go (step_of m b t.kind) e (λ c. without-lines m c d ts) where
  go : (r : Result Gathered ℕ) → kinds_read m r (map (λ t. t.kind) ts) ≡ Ok d → ((c : Gathered) → kinds_read m (Ok c) (map (λ t. t.kind) ts) ≡ Ok d → tokens_read m (Ok c) ts ≡ Ok d) → tokens_read m (at_line t.line r) ts ≡ Ok d
  go (Ok c) e f = f c e
  go (Err c) e f = let g = kinds-err m c (map (λ t. t.kind) ts) in cc

abbrev pub inside : Place → ℕ → ℕ → ℕ → Prefix → Matrix → List Literal → Gathered
inside at v c n p x ls = record { place = at; vars = v; count = c; lits = n; parts = record { bounds = p; clauses = x; pending = ls } }

not-above : (n v : ℕ) → n ≤ v → nat_lt v n ≡ false
not-above n v h = grind (arith, nat_tests)

not-full : (n k : ℕ) → n < k → nat_le k n ≡ false
not-full n k h = grind (arith, nat_tests)

read-literal : (m : Limits) (at : Place) (v c n : ℕ) (p : Prefix) (x : Matrix) (ls : List Literal) (l : Literal) → IsVar v l.var → n < m.lits
    → number m (inside at v c n p x ls) (number_of l) ≡ Ok (inside InClause v c (n + 1) p x (ls ++ l ∷ []))
read-literal m at v c n p x ls l h k = go l.var l.negative h where
  go : (w : ℕ) (s : Bool) → IsVar v w → number m (inside at v c n p x ls) (number_of (record { var = w; negative = s })) ≡ Ok (inside InClause v c (n + 1) p x (ls ++ record { var = w; negative = s } ∷ []))
  go zero s h = absurd (let z = h.0 in omega arith)
  go (suc w) true h = rw (not-above (w + 1) v (let z = h.1 in omega arith), not-full n m.lits k) (ap (λ y. Ok (inside InClause v c (n + 1) p x (ls ++ record { var = y; negative = true } ∷ []))) (add-one w))
  go (suc w) false h = rw (no_zero (suc w) h.0, not-above (suc w) v h.1, not-full n m.lits k) refl

read-rest : (m : Limits) (v c n : ℕ) (p : Prefix) (x : Matrix) (ls ms : List Literal) → AllByRecursion (λ l. IsVar v l.var) ms → n + length ms ≤ m.lits
    → kinds_read m (Ok (inside InClause v c n p x ls)) (literals_kinds ms) ≡ Ok (inside Outside v c (n + length ms) p (x ++ clause_of (ls ++ ms) ∷ []) [])
read-rest m v c n p x ls [] h k = rw (add-zero, append-nil) refl
read-rest m v c n p x ls (l ∷ ms) h k =
    let one = read-literal m InClause v c n p x ls l h.0 (omega arith) in
    let g : (n + 1) + length ms ≤ m.lits = omega arith in
    let e : (n + 1) + length ms ≡ n + suc (length ms) = omega arith in
    let a = append_assoc ls (l ∷ []) ms in
    ap (λ r. kinds_read m r (literals_kinds ms)) one ∙ (read-rest m v c (n + 1) p x (ls ++ l ∷ []) ms h.1 g ∙ rw (e, a) refl)

read-clause : (m : Limits) (v c n : ℕ) (p : Prefix) (x : Matrix) (ls : List Literal) → AllByRecursion (λ l. IsVar v l.var) ls → n + length ls ≤ m.lits → length x < c
    → kinds_read m (Ok (inside Outside v c n p x [])) (literals_kinds ls) ≡ Ok (inside Outside v c (n + length ls) p (x ++ clause_of ls ∷ []) [])
read-clause m v c n p x [] h k l = rw (not-full (length x) c l, add-zero) refl
read-clause m v c n p x (a ∷ ls) h k l =
    let one = read-literal m Outside v c n p x [] a h.0 (omega arith) in
    let g : (n + 1) + length ls ≤ m.lits = omega arith in
    let e : (n + 1) + length ls ≡ n + suc (length ls) = omega arith in
    ap (λ r. kinds_read m r (literals_kinds ls)) (open-clause (nat_le c (length x)) (not-full (length x) c l) (number m (inside Outside v c n p x []) (number_of a)) ∙ one)
    ∙ (read-rest m v c (n + 1) p x (a ∷ []) ls h.1 g ∙ ap (λ y. Ok (inside Outside v c y p (x ++ clause_of (a ∷ ls) ∷ []) [])) e) where
      open-clause : (t : Bool) → t ≡ false → (r : Result Gathered ℕ) → (if t then Err 6 else r) ≡ r
      open-clause true e r = cc
      open-clause false e r = refl

read-clauses : (m : Limits) (v c n : ℕ) (p : Prefix) (x : Matrix) (cs : List (List Literal)) → AllByRecursion (λ c. AllByRecursion (λ l. IsVar v l.var) c) cs → n + total cs ≤ m.lits → length x + length cs ≤ c
    → kinds_read m (Ok (inside Outside v c n p x [])) (clauses_kinds cs) ≡ Ok (inside Outside v c (n + total cs) p (x ++ map clause_of cs) [])
read-clauses m v c n p x [] h k l = rw (add-zero, append-nil) refl
read-clauses m v c n p x (d ∷ cs) h k l =
    let one = read-clause m v c n p x d h.0 (omega arith) (omega arith) in
    let g : (n + length d) + total cs ≤ m.lits = omega arith in
    let e : (n + length d) + total cs ≡ n + (length d + total cs) = omega arith in
    let j : length (x ++ clause_of d ∷ []) + length cs ≤ c = rw length-append (omega arith) in
    let a = append_assoc x (clause_of d ∷ []) (map clause_of cs) in
    kinds-append m (Ok (inside Outside v c n p x [])) (literals_kinds d) (clauses_kinds cs)
    ∙ (ap (λ r. kinds_read m r (clauses_kinds cs)) one
    ∙ (read-clauses m v c (n + length d) p (x ++ clause_of d ∷ []) cs h.1 g j ∙ rw (e, a) refl))

all-mid : (r : Bound) (p rest : Prefix) (q : Bound) → AllByRecursion (λ s. r.var ≢ s.var) (p ++ q ∷ rest) → r.var ≢ q.var
all-mid r [] rest q h = h.0
all-mid r (s ∷ p) rest q h = all-mid r p rest q h.1

unequal : (a b : ℕ) → a ≢ b → (a == b) ≡ false
unequal a b h = grind (arith, nat_tests)

unbound : (p rest : Prefix) (q : Bound) → ArePairs (λ r s. r.var ≢ s.var) (p ++ q ∷ rest) → is_bound p q.var ≡ false
unbound [] rest q h = refl
unbound (r ∷ p) rest q h = rw (unequal r.var q.var (all-mid r p rest q h.0)) (unbound p rest q h.1)

read-vars : (m : Limits) (v c : ℕ) (q : Quant) (p rest : Prefix) (vs : List ℕ) → AllByRecursion (λ b. IsVar v b.var) (vars_bounds q vs) → ArePairs (λ r s. r.var ≢ s.var) (p ++ (vars_bounds q vs ++ rest))
    → kinds_read m (Ok (inside (InSet q) v c 0 p [] [])) (vars_kinds vs) ≡ Ok (inside Outside v c 0 (p ++ vars_bounds q vs) [] [])
read-vars m v c q p rest [] h d = rw append-nil refl
read-vars m v c q p rest (w ∷ vs) h d =
    let z = no_zero w h.0.0 in
    let n = not-above w v h.0.1 in
    let u = unbound p (vars_bounds q vs ++ rest) (record { quant = q; var = w }) d in
    let a = append_assoc p (record { quant = q; var = w } ∷ []) (vars_bounds q vs ++ rest) in
    let b = append_assoc p (record { quant = q; var = w } ∷ []) (vars_bounds q vs) in
    let one : kind_step m (Ok (inside (InSet q) v c 0 p [] [])) (Number (pos w)) ≡ Ok (inside (InSet q) v c 0 (p ++ record { quant = q; var = w } ∷ []) [] []) = rw (z, n, u) refl in
    ap (λ r. kinds_read m r (vars_kinds vs)) one ∙ (read-vars m v c q (p ++ record { quant = q; var = w } ∷ []) rest vs h.1 (rw a d) ∙ rw b refl)

begin-set : (m : Limits) (v c : ℕ) (q : Quant) (p : Prefix) → kind_step m (Ok (inside Outside v c 0 p [] [])) (letter q) ≡ Ok (inside (InSet q) v c 0 p [] [])
begin-set m v c Exists p = refl
begin-set m v c Forall p = refl

read-sets : (m : Limits) (v c : ℕ) (p : Prefix) (ss : List Block) → AllByRecursion (λ b. IsVar v b.var) (sets_bounds ss) → ArePairs (λ r s. r.var ≢ s.var) (p ++ sets_bounds ss)
    → kinds_read m (Ok (inside Outside v c 0 p [] [])) (sets_kinds ss) ≡ Ok (inside Outside v c 0 (p ++ sets_bounds ss) [] [])
read-sets m v c p [] h d = rw append-nil refl
read-sets m v c p (s ∷ ss) h d =
    let one = read-vars m v c s.quant p (sets_bounds ss) s.vars (all-left (λ b. IsVar v b.var) (vars_bounds s.quant s.vars) (sets_bounds ss) h) d in
    let a = append_assoc p (vars_bounds s.quant s.vars) (sets_bounds ss) in
    ap (λ r. kinds_read m r (vars_kinds s.vars ++ sets_kinds ss)) (begin-set m v c s.quant p)
    ∙ (kinds-append m (Ok (inside (InSet s.quant) v c 0 p [] [])) (vars_kinds s.vars) (sets_kinds ss)
    ∙ (ap (λ r. kinds_read m r (sets_kinds ss)) one
    ∙ (read-sets m v c (p ++ vars_bounds s.quant s.vars) ss (all-right (λ b. IsVar v b.var) (vars_bounds s.quant s.vars) (sets_bounds ss) h) (rw a d) ∙ rw a refl)))

read-vars-number : (m : Limits) (v : ℕ) → nat_lt m.vars v ≡ false → kind_step m (Ok (inside Vars 0 0 0 [] [] [])) (Number (pos v)) ≡ Ok (inside Count v 0 0 [] [] [])
read-vars-number m v e = rw e refl

read-count : (m : Limits) (v c : ℕ) → nat_lt m.clauses c ≡ false → kind_step m (Ok (inside Count v 0 0 [] [] [])) (Number (pos c)) ≡ Ok (inside Outside v c 0 [] [] [])
read-count m v c e = rw e refl

read-text : (m : Limits) (t : Text) → IsLawful m t
    → kinds_read m (Ok nothing_read) (spelled t) ≡ Ok (inside Outside t.vars t.count (total t.clauses) (sets_bounds t.sets) (map clause_of t.clauses) [])
read-text m t h =
    let c : 0 + length t.clauses ≤ t.count = let e = h.clauses in omega arith in
    let f : 0 + total t.clauses ≤ m.lits = let e = h.few in omega arith in
    let z = zero-add (total t.clauses) in
    ap (λ r. kinds_read m (kind_step m r (Number (pos t.count))) (sets_kinds t.sets ++ clauses_kinds t.clauses)) (read-vars-number m t.vars (not-above t.vars m.vars h.vars))
    ∙ (ap (λ r. kinds_read m r (sets_kinds t.sets ++ clauses_kinds t.clauses)) (read-count m t.vars t.count (not-above t.count m.clauses h.count))
    ∙ (kinds-append m (Ok (inside Outside t.vars t.count 0 [] [] [])) (sets_kinds t.sets) (clauses_kinds t.clauses)
    ∙ (ap (λ r. kinds_read m r (clauses_kinds t.clauses)) (read-sets m t.vars t.count [] t.sets h.bounds h.once)
    ∙ (read-clauses m t.vars t.count 0 (sets_bounds t.sets) [] t.clauses h.lits f c ∙ rw z refl))))

pub length-map-clause : (cs : List (List Literal)) → length (map clause_of cs) ≡ length cs
length-map-clause [] = refl
length-map-clause (c ∷ cs) = ap suc (length-map-clause cs)

ended : (m : Limits) (t : Text) (n : ℕ) → IsLawful m t → at_last n (Ok (inside Outside t.vars t.count (total t.clauses) (sets_bounds t.sets) (map clause_of t.clauses) [])) ≡ Ok (text_formula t)
ended m t n h =
    let e : nat_lt (length (map clause_of t.clauses)) t.count ≡ false = not-above t.count (length (map clause_of t.clauses)) (let a = length-map-clause t.clauses in let b = h.clauses in omega arith) in
    rw e refl

-- what is in the grammar is read, as its formula
pub grammar_is_read : (m : Limits) (bytes : List ℕ) (f : PrenexFormula) → Dimacs m bytes f → parse m bytes ≡ Ok f
grammar_is_read m bytes f h =
    let s : nat_le (length bytes) m.bytes ≡ true = le-leb (length bytes) m.bytes h.short in
    let r = without-lines m nothing_read (inside Outside h.text.vars h.text.count (total h.text.clauses) (sets_bounds h.text.sets) (map clause_of h.text.clauses) []) (tokens_of bytes)
    (ap (kinds_read m (Ok nothing_read)) h.tokens ∙ read-text m h.text h.lawful) in
    within-limit (nat_le (length bytes) m.bytes) s (at_last (line_after bytes) (tokens_read m (Ok nothing_read) (tokens_of bytes))) (past_limit (line_after (take m.bytes bytes)) (tokens_read m (Ok nothing_read) (tokens_ended (take m.bytes bytes))))
    ∙ (ap (at_last (line_after bytes)) r ∙ (ended m h.text (line_after bytes) h.lawful ∙ ap Ok (sym h.formula))) where
      within-limit : (t : Bool) → t ≡ true → (x y : Result PrenexFormula ReadError) → (if t then x else y) ≡ x
      within-limit true e x y = refl
      within-limit false e x y = cc
