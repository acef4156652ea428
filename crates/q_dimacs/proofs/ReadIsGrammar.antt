-- What is read is in the grammar.
use Rattle.std.proofs.Common.{◌≡◌, ◌≢◌, ◌⊎◌, ℕ, zero, suc, ◌+◌, ◌<◌, ◌≤◌, ◌==◌, nat_lt, nat_le, Bool, true, false, cond, List, [], ◌∷◌, ◌++◌, length, map, Ok, Err, Result, Option, Some, None, refl, ap, sym, ◌∙◌, arith, ℤ, pos, negsuc, add-one, add-zero, append_assoc, append-nil, if◌then◌else◌, inl, inr, length-append, eqb-true, take}
use Rattle.std.proofs.lemmas.Bool.Decides.{nat_tests}
use Rattle.std.proofs.lemmas.Bool.{leb-true, leb-false, ltb-false}
use Rattle.std.specs.List.{AllByRecursion}
use Rattle.q_logic.specs.declared.formulas.Bound.{Bound}
use Rattle.q_logic.specs.declared.limits.Limits.{Limits}
use Rattle.q_logic.specs.declared.formulas.Quant.{Quant}
use Rattle.q_logic.specs.declared.formulas.Quant.TheVariants.{Exists, Forall}
use Rattle.q_logic.specs.Prelude.{Literal, number_of, Matrix, Prefix, PrenexFormula, ArePairs, clause_of, is_bound, Block}
use Rattle.q_text.specs.declared.tokens.TokenKind.{TokenKind}
use Rattle.q_text.specs.declared.tokens.TokenKind.TheVariants.{Number, P, Cnf, Qrat, E, A, D, U, R, Other}
use Rattle.q_dimacs.specs.declared.builder.Place.{Place}
use Rattle.q_dimacs.specs.declared.builder.Place.TheVariants.{Problem, Format, Vars, Count, Outside, InSet, InClause}
use Rattle.q_dimacs.specs.Building.{formula_of}
use Rattle.q_dimacs.specs.Reading.{Gathered, step_of, problem, format, vars_of, count_of, with_vars, with_count, number, literal, end_of, nothing_read}
use Rattle.q_dimacs.specs.Dimacs.{Dimacs, vars_kinds, sets_kinds, clauses_kinds, letter, vars_bounds, sets_bounds, total, IsVar}
use Rattle.q_text.specs.Tokens.{literals_kinds}
use Rattle.q_dimacs.proofs.GrammarIsRead.{kinds_read, kinds-err, inside, length-map-clause}
use Rattle.q_text.specs.declared.tokens.Token.{Token}
use Rattle.q_text.specs.Texts.{tokens_of, tokens_ended, line_after}
use Rattle.q_dimacs.specs.declared.error.ReadError.{ReadError}
use Rattle.q_dimacs.specs.declared.error.ReadError.TheVariants.{Refused}
use Rattle.q_dimacs.specs.Offences.{tokens_read, at_line, at_last, at_end, past_limit, parse}
use Rattle.q_dimacs.proofs.FeedLaw.{tokens_read-err}
use Rattle.q_dimacs.proofs.VariableMarks.{Pairs-push, differs}

pub record FromClause (m : Limits) (d : Gathered) (v c n : ℕ) (p : Prefix) (x : Matrix) (ls : List Literal) (ks : List TokenKind) : Type 0 where
  pub ms : List Literal
  pub cs : List (List Literal)
  pub kinds : ks ≡ literals_kinds ms ++ clauses_kinds cs
  pub is : d ≡ inside Outside v c (n + (length ms + total cs)) p (x ++ clause_of (ls ++ ms) ∷ map clause_of cs) []
  pub lits : AllByRecursion (λ l. IsVar v l.var) ms
  pub later : AllByRecursion (λ c. AllByRecursion (λ l. IsVar v l.var) c) cs
  pub few : n ≤ m.lits → n + (length ms + total cs) ≤ m.lits
  pub full : length x < c → length x + suc (length cs) ≤ c

pub record FromOutside (m : Limits) (d : Gathered) (v c n : ℕ) (p : Prefix) (x : Matrix) (ks : List TokenKind) : Type 0 where
  pub ss : List Block
  pub cs : List (List Literal)
  pub kinds : ks ≡ sets_kinds ss ++ clauses_kinds cs
  pub is : d ≡ inside Outside v c (n + total cs) (p ++ sets_bounds ss) (x ++ map clause_of cs) []
  pub lits : AllByRecursion (λ c. AllByRecursion (λ l. IsVar v l.var) c) cs
  pub few : n ≤ m.lits → n + total cs ≤ m.lits
  pub late : 0 < length x → ss ≡ []
  pub bounds : AllByRecursion (λ q. IsVar v q.var) (sets_bounds ss)
  pub once : ArePairs (λ q r. q.var ≢ r.var) p → ArePairs (λ q r. q.var ≢ r.var) (p ++ sets_bounds ss)
  pub full : length x ≤ c → length x + length cs ≤ c

bad : {X : Type 0} (m : Limits) (c : ℕ) (ks : List TokenKind) (d : Gathered) → kinds_read m (Err c) ks ≡ Ok d → X
bad m c ks d h = absurd (let e = kinds-err m c ks in cc)

-- one literal more
abbrev pub After : Limits → Gathered → ℕ → ℕ → ℕ → Prefix → Matrix → List Literal → List TokenKind → Type 0
After m d v c n p x ls ks = kinds_read m (Ok (inside InClause v c n p x ls)) ks ≡ Ok d → FromClause m d v c n p x ls ks

with-literal : (m : Limits) (d : Gathered) (at : Place) (v c n w : ℕ) (s : Bool) (p : Prefix) (x : Matrix) (ls : List Literal) (ks : List TokenKind) → 1 ≤ w
    → kinds_read m (literal m (inside at v c n p x ls) w s) ks ≡ Ok d → After m d v c (n + 1) p x (ls ++ record { var = w; negative = s } ∷ []) ks
    → FromClause m d v c n p x ls (Number (number_of (record { var = w; negative = s })) ∷ ks)
with-literal m d at v c n w s p x ls ks o h ih = go (nat_lt v w) (nat_le m.lits n) refl refl h where
  go : (t u : Bool) → nat_lt v w ≡ t → nat_le m.lits n ≡ u
      → kinds_read m (cond t (Err 3) (cond u (Err 8) (Ok (inside InClause v c (n + 1) p x (ls ++ record { var = w; negative = s } ∷ []))))) ks ≡ Ok d
      → FromClause m d v c n p x ls (Number (number_of (record { var = w; negative = s })) ∷ ks)
  go true u e f g = bad m 3 ks d g
  go false true e f g = bad m 8 ks d g
  go false false e f g =
      let r = ih g in
      let l : Literal = record { var = w; negative = s } in
      let a = append_assoc ls (l ∷ []) r.ms in
      let q : (n + 1) + (length r.ms + total r.cs) ≡ n + (suc (length r.ms) + total r.cs) = omega arith in
      record {
        ms = l ∷ r.ms;
        cs = r.cs;
        kinds = ap (λ js. Number (number_of l) ∷ js) r.kinds;
        is = r.is ∙ rw (q, a) refl;
        lits = ((o, ltb-false v w e), r.lits);
        later = r.later;
        few = λ k. let z = r.few (let y = leb-false m.lits n f in omega arith) in omega arith;
        full = r.full;
      }

one-of : (w : ℕ) → (w == 0) ≡ false → 1 ≤ w
one-of w e = grind (arith, nat_tests)

nothing-late : (x : Matrix) → nat_lt 0 (length x) ≡ false → 0 < length x → ⊥
nothing-late x e h = grind (arith, nat_tests)

-- 0 ends the clause: what follows stands outside, and no set does
zero-ends : (m : Limits) (d : Gathered) (v c n : ℕ) (p : Prefix) (x : Matrix) (ls : List Literal) (ks : List TokenKind)
    → FromOutside m d v c n p (x ++ clause_of ls ∷ []) ks → FromClause m d v c n p x ls (Number (pos 0) ∷ ks)
zero-ends m d v c n p x ls ks r =
    let none = r.late (let z : 0 < length (x ++ clause_of ls ∷ []) = rw length-append (omega arith) in z) in
    let a = append_assoc x (clause_of ls ∷ []) (map clause_of r.cs) in
    let q : n + (0 + total r.cs) ≡ n + total r.cs = omega arith in
    record {
      ms = [];
      cs = r.cs;
      kinds = ap (λ js. Number (pos 0) ∷ js) (r.kinds ∙ ap (λ ss. sets_kinds ss ++ clauses_kinds r.cs) none);
      is = r.is ∙ (ap (λ ss. inside Outside v c (n + total r.cs) (p ++ sets_bounds ss) ((x ++ clause_of ls ∷ []) ++ map clause_of r.cs) []) none ∙ rw (a, q, append-nil p, append-nil ls) refl);
      lits = tt;
      later = r.lits;
      few = λ k. let z = r.few k in omega arith;
      full = λ k. let y = length-append x (clause_of ls ∷ []) in let z = r.full (let w : length (x ++ clause_of ls ∷ []) ≤ c = omega arith in w) in omega arith;
    }

-- any number
from-number : (m : Limits) (d : Gathered) (at : Place) (v c n : ℕ) (p : Prefix) (x : Matrix) (ls : List Literal) (z : ℤ) (ks : List TokenKind)
    → kinds_read m (number m (inside at v c n p x ls) z) ks ≡ Ok d
    → (kinds_read m (Ok (inside Outside v c n p (x ++ clause_of ls ∷ []) [])) ks ≡ Ok d → FromOutside m d v c n p (x ++ clause_of ls ∷ []) ks)
    → ((l : Literal) → After m d v c (n + 1) p x (ls ++ l ∷ []) ks)
    → FromClause m d v c n p x ls (Number z ∷ ks)
from-number m d at v c n p x ls (pos zero) ks h out more = zero-ends m d v c n p x ls ks (out h)
from-number m d at v c n p x ls (pos (suc w)) ks h out more =
    let e : (suc w == 0) ≡ false = grind (arith, nat_tests) in
    with-literal m d at v c n (suc w) false p x ls ks (omega arith) (rw e at h) (more (record { var = suc w; negative = false }))
from-number m d at v c n p x ls (negsuc w) ks h out more =
    let a = add-one w in
    let g = rw a at h in
    with-literal m d at v c n (suc w) true p x ls ks (omega arith) g (more (record { var = suc w; negative = true }))

pub record FromSet (m : Limits) (d : Gathered) (q : Quant) (v c n : ℕ) (p : Prefix) (x : Matrix) (ks : List TokenKind) : Type 0 where
  pub vs : List ℕ
  pub ss : List Block
  pub cs : List (List Literal)
  pub kinds : ks ≡ vars_kinds vs ++ (sets_kinds ss ++ clauses_kinds cs)
  pub is : d ≡ inside Outside v c (n + total cs) (p ++ (vars_bounds q vs ++ sets_bounds ss)) (x ++ map clause_of cs) []
  pub lits : AllByRecursion (λ c. AllByRecursion (λ l. IsVar v l.var) c) cs
  pub few : n ≤ m.lits → n + total cs ≤ m.lits
  pub bounds : AllByRecursion (λ q. IsVar v q.var) (vars_bounds q vs ++ sets_bounds ss)
  pub once : ArePairs (λ q r. q.var ≢ r.var) p → ArePairs (λ q r. q.var ≢ r.var) (p ++ (vars_bounds q vs ++ sets_bounds ss))
  pub full : length x ≤ c → length x + length cs ≤ c

pub record Reads (m : Limits) (d : Gathered) (ks : List TokenKind) : Type 0 where
  pub outside : (v c n : ℕ) (p : Prefix) (x : Matrix) → kinds_read m (Ok (inside Outside v c n p x [])) ks ≡ Ok d → FromOutside m d v c n p x ks
  pub set : (q : Quant) (v c n : ℕ) (p : Prefix) (x : Matrix) → nat_lt 0 (length x) ≡ false → kinds_read m (Ok (inside (InSet q) v c n p x [])) ks ≡ Ok d → FromSet m d q v c n p x ks
  pub clause : (v c n : ℕ) (p : Prefix) (x : Matrix) (ls : List Literal) → After m d v c n p x ls ks

same-ok : (a b : Gathered) → ◌≡◌ {A = Result Gathered ℕ} (Ok a) (Ok b) → a ≡ b
same-ok a b h = cc

no-end : {X : Type 0} (a d : Gathered) (k : ℕ) → a ≡ d → end_of a ≡ Some k → end_of d ≡ None → X
no-end a d k e f g = absurd (let h = ap end_of e in cc)

done : (m : Limits) (d : Gathered) → end_of d ≡ None → Reads m d []
done m d e = record {
  outside = λ v c n p x h. record {
    ss = [];
    cs = [];
    kinds = refl;
    is = sym (same-ok (inside Outside v c n p x []) d h) ∙ rw (add-zero, append-nil p, append-nil x) refl;
    lits = tt;
    few = λ k. omega arith;
    late = λ k. refl;
    bounds = tt;
    once = λ k. rw append-nil k;
    full = λ k. omega arith;
  };
  set = λ q v c n p x l h. no-end (inside (InSet q) v c n p x []) d 7 (same-ok (inside (InSet q) v c n p x []) d h) refl e;
  clause = λ v c n p x ls h. no-end (inside InClause v c n p x ls) d 7 (same-ok (inside InClause v c n p x ls) d h) refl e;
}

-- a letter begins a set
from-letter : (m : Limits) (d : Gathered) (q : Quant) (v c n : ℕ) (p : Prefix) (x : Matrix) (ks : List TokenKind) → Reads m d ks
    → kinds_read m (cond (nat_lt 0 (length x)) (Err 5) (Ok (inside (InSet q) v c n p x []))) ks ≡ Ok d → FromOutside m d v c n p x (letter q ∷ ks)
from-letter m d q v c n p x ks r h = go (nat_lt 0 (length x)) refl h where
  go : (t : Bool) → nat_lt 0 (length x) ≡ t → kinds_read m (cond t (Err 5) (Ok (inside (InSet q) v c n p x []))) ks ≡ Ok d → FromOutside m d v c n p x (letter q ∷ ks)
  go true e g = bad m 5 ks d g
  go false e g =
      let s = r.set q v c n p x e g in
      record {
        ss = record { quant = q; vars = s.vs } ∷ s.ss;
        cs = s.cs;
        kinds = ap (λ js. letter q ∷ js) (s.kinds ∙ sym (append_assoc (vars_kinds s.vs) (sets_kinds s.ss) (clauses_kinds s.cs)));
        is = s.is;
        lits = s.lits;
        few = s.few;
        late = λ k. absurd (nothing-late x e k);
        bounds = s.bounds;
        once = s.once;
        full = s.full;
      }

-- a number where a clause begins
from-first : (m : Limits) (d : Gathered) (v c n : ℕ) (p : Prefix) (x : Matrix) (z : ℤ) (ks : List TokenKind) → Reads m d ks
    → kinds_read m (cond (nat_le c (length x)) (Err 6) (number m (inside Outside v c n p x []) z)) ks ≡ Ok d → FromOutside m d v c n p x (Number z ∷ ks)
from-first m d v c n p x z ks r h = go (nat_le c (length x)) refl h where
  go : (t : Bool) → nat_le c (length x) ≡ t → kinds_read m (cond t (Err 6) (number m (inside Outside v c n p x []) z)) ks ≡ Ok d → FromOutside m d v c n p x (Number z ∷ ks)
  go true e g = bad m 6 ks d g
  go false e g =
      let f = from-number m d Outside v c n p x [] z ks g (r.outside v c n p (x ++ clause_of [] ∷ [])) (λ l. r.clause v c (n + 1) p x (l ∷ [])) in
      record {
        ss = [];
        cs = f.ms ∷ f.cs;
        kinds = f.kinds;
        is = f.is ∙ rw append-nil refl;
        lits = (f.lits, f.later);
        few = f.few;
        late = λ k. refl;
        bounds = tt;
        once = λ k. rw append-nil k;
        full = λ k. f.full (leb-false c (length x) e);
      }

-- a number in a set
from-var : (m : Limits) (d : Gathered) (q : Quant) (v c n : ℕ) (p : Prefix) (x : Matrix) (w : ℕ) (ks : List TokenKind) → nat_lt 0 (length x) ≡ false → Reads m d ks
    → kinds_read m (cond (w == 0) (Ok (inside Outside v c n p x [])) (cond (nat_lt v w) (Err 3) (cond (is_bound p w) (Err 4) (Ok (inside (InSet q) v c n (p ++ record { quant = q; var = w } ∷ []) x []))))) ks ≡ Ok d
    → FromSet m d q v c n p x (Number (pos w) ∷ ks)
from-var m d q v c n p x w ks l r h = go (w == 0) (nat_lt v w) (is_bound p w) refl refl refl h where
  go : (t u b : Bool) → (w == 0) ≡ t → nat_lt v w ≡ u → is_bound p w ≡ b
      → kinds_read m (cond t (Ok (inside Outside v c n p x [])) (cond u (Err 3) (cond b (Err 4) (Ok (inside (InSet q) v c n (p ++ record { quant = q; var = w } ∷ []) x []))))) ks ≡ Ok d
      → FromSet m d q v c n p x (Number (pos w) ∷ ks)
  go true u b e f i g =
      let s = r.outside v c n p x g in
      let z = eqb-true w 0 e in
      record { vs = []; ss = s.ss; cs = s.cs; kinds = rw z (ap (λ js. Number (pos 0) ∷ js) s.kinds); is = s.is; lits = s.lits; few = s.few; bounds = s.bounds; once = s.once; full = s.full }
  go false true b e f i g = bad m 3 ks d g
  go false false true e f i g = bad m 4 ks d g
  go false false false e f i g =
      let o : Bound = record { quant = q; var = w } in
      let s = r.set q v c n (p ++ o ∷ []) x l g in
      let a = append_assoc p (o ∷ []) (vars_bounds q s.vs ++ sets_bounds s.ss) in
      record {
        vs = w ∷ s.vs;
        ss = s.ss;
        cs = s.cs;
        kinds = ap (λ js. Number (pos w) ∷ js) s.kinds;
        is = s.is ∙ rw a refl;
        lits = s.lits;
        few = s.few;
        full = s.full;
        bounds = ((one-of w e, ltb-false v w f), s.bounds);
        once = λ k. rw a at (s.once (Pairs-push (λ q r. q.var ≢ r.var) p o k (differs p o i)));
      }

step-number : (m : Limits) (d : Gathered) (z : ℤ) (ks : List TokenKind) → Reads m d ks → Reads m d (Number z ∷ ks)
step-number m d (pos w) ks r = record {
  outside = λ v c n p x h. from-first m d v c n p x (pos w) ks r h;
  set = λ q v c n p x l h. from-var m d q v c n p x w ks l r h;
  clause = λ v c n p x ls h. from-number m d InClause v c n p x ls (pos w) ks h (r.outside v c n p (x ++ clause_of ls ∷ [])) (λ l. r.clause v c (n + 1) p x (ls ++ l ∷ []));
}
step-number m d (negsuc w) ks r = record {
  outside = λ v c n p x h. from-first m d v c n p x (negsuc w) ks r h;
  set = λ q v c n p x l h. bad m 2 ks d h;
  clause = λ v c n p x ls h. from-number m d InClause v c n p x ls (negsuc w) ks h (r.outside v c n p (x ++ clause_of ls ∷ [])) (λ l. r.clause v c (n + 1) p x (ls ++ l ∷ []));
}

step-letter : (m : Limits) (d : Gathered) (q : Quant) (ks : List TokenKind) → Reads m d ks → Reads m d (letter q ∷ ks)
step-letter m d Exists ks r = record { outside = λ v c n p x h. from-letter m d Exists v c n p x ks r h; set = λ q v c n p x l h. bad m 2 ks d h; clause = λ v c n p x ls h. bad m 2 ks d h }
step-letter m d Forall ks r = record { outside = λ v c n p x h. from-letter m d Forall v c n p x ks r h; set = λ q v c n p x l h. bad m 2 ks d h; clause = λ v c n p x ls h. bad m 2 ks d h }

pub reads_back : (m : Limits) (d : Gathered) (ks : List TokenKind) → end_of d ≡ None → Reads m d ks
reads_back m d [] e = done m d e
reads_back m d (Number z ∷ ks) e = step-number m d z ks (reads_back m d ks e)
reads_back m d (E ∷ ks) e = step-letter m d Exists ks (reads_back m d ks e)
reads_back m d (A ∷ ks) e = step-letter m d Forall ks (reads_back m d ks e)
reads_back m d (P ∷ ks) e = record { outside = λ v c n p x h. bad m 2 ks d h; set = λ q v c n p x l h. bad m 2 ks d h; clause = λ v c n p x ls h. bad m 2 ks d h }
reads_back m d (Cnf ∷ ks) e = record { outside = λ v c n p x h. bad m 2 ks d h; set = λ q v c n p x l h. bad m 2 ks d h; clause = λ v c n p x ls h. bad m 2 ks d h }
reads_back m d (D ∷ ks) e = record { outside = λ v c n p x h. bad m 2 ks d h; set = λ q v c n p x l h. bad m 2 ks d h; clause = λ v c n p x ls h. bad m 2 ks d h }
reads_back m d (U ∷ ks) e = record { outside = λ v c n p x h. bad m 2 ks d h; set = λ q v c n p x l h. bad m 2 ks d h; clause = λ v c n p x ls h. bad m 2 ks d h }
reads_back m d (R ∷ ks) e = record { outside = λ v c n p x h. bad m 2 ks d h; set = λ q v c n p x l h. bad m 2 ks d h; clause = λ v c n p x ls h. bad m 2 ks d h }
reads_back m d (Qrat ∷ ks) e = record { outside = λ v c n p x h. bad m 2 ks d h; set = λ q v c n p x l h. bad m 2 ks d h; clause = λ v c n p x ls h. bad m 2 ks d h }
reads_back m d (Other ∷ ks) e = record { outside = λ v c n p x h. bad m 2 ks d h; set = λ q v c n p x l h. bad m 2 ks d h; clause = λ v c n p x ls h. bad m 2 ks d h }

abbrev pub begin : Gathered
begin = inside Problem 0 0 0 [] [] []

is-p : (b : Gathered) (k : TokenKind) → (k ≡ P) ⊎ (problem b k ≡ Err 1)
is-p b (Number z) = inr refl
is-p b P = inl refl
is-p b Cnf = inr refl
is-p b E = inr refl
is-p b A = inr refl
is-p b D = inr refl
is-p b U = inr refl
is-p b R = inr refl
is-p b Qrat = inr refl
is-p b Other = inr refl

is-cnf : (b : Gathered) (k : TokenKind) → (k ≡ Cnf) ⊎ (format b k ≡ Err 1)
is-cnf b (Number z) = inr refl
is-cnf b P = inr refl
is-cnf b Cnf = inl refl
is-cnf b E = inr refl
is-cnf b A = inr refl
is-cnf b D = inr refl
is-cnf b U = inr refl
is-cnf b R = inr refl
is-cnf b Qrat = inr refl
is-cnf b Other = inr refl

abbrev Plain : TokenKind → Type 0
Plain k = (n : ℕ) × (k ≡ Number (pos n))

is-vars : (m : Limits) (b : Gathered) (k : TokenKind) → Plain k ⊎ (vars_of m b k ≡ Err 1)
is-vars m b (Number (pos n)) = inl (n, refl)
is-vars m b (Number (negsuc n)) = inr refl
is-vars m b P = inr refl
is-vars m b Cnf = inr refl
is-vars m b E = inr refl
is-vars m b A = inr refl
is-vars m b D = inr refl
is-vars m b U = inr refl
is-vars m b R = inr refl
is-vars m b Qrat = inr refl
is-vars m b Other = inr refl

is-count : (m : Limits) (b : Gathered) (k : TokenKind) → Plain k ⊎ (count_of m b k ≡ Err 1)
is-count m b (Number (pos n)) = inl (n, refl)
is-count m b (Number (negsuc n)) = inr refl
is-count m b P = inr refl
is-count m b Cnf = inr refl
is-count m b E = inr refl
is-count m b A = inr refl
is-count m b D = inr refl
is-count m b U = inr refl
is-count m b R = inr refl
is-count m b Qrat = inr refl
is-count m b Other = inr refl

pub record FromStart (m : Limits) (d : Gathered) (ks : List TokenKind) : Type 0 where
  pub v : ℕ
  pub c : ℕ
  pub rest : List TokenKind
  pub kinds : ks ≡ P ∷ Cnf ∷ Number (pos v) ∷ Number (pos c) ∷ rest
  pub vars : v ≤ m.vars
  pub count : c ≤ m.clauses
  pub from : FromOutside m d v c 0 [] [] rest

bad-step : {X : Type 0} (m : Limits) (c : ℕ) (r : Result Gathered ℕ) (ks : List TokenKind) (d : Gathered) → r ≡ Err c → kinds_read m r ks ≡ Ok d → X
bad-step m c r ks d e h = bad m c ks d (sym (ap (λ s. kinds_read m s ks) e) ∙ h)

from-count : (m : Limits) (d : Gathered) (v : ℕ) (ks : List TokenKind) → end_of d ≡ None → kinds_read m (Ok (inside Count v 0 0 [] [] [])) ks ≡ Ok d
    → (c : ℕ) × (rest : List TokenKind) × (ks ≡ Number (pos c) ∷ rest) × (c ≤ m.clauses) × FromOutside m d v c 0 [] [] rest
from-count m d v [] e h = no-end (inside Count v 0 0 [] [] []) d 1 (same-ok (inside Count v 0 0 [] [] []) d h) refl e
from-count m d v (k ∷ ks) e h = elim (is-count m (inside Count v 0 0 [] [] []) k) [
  | inr b ↦ bad-step m 1 (count_of m (inside Count v 0 0 [] [] []) k) ks d b h
  | inl s ↦ go s.0 s.1 (nat_lt m.clauses s.0) refl (sym (ap (λ j. kinds_read m (count_of m (inside Count v 0 0 [] [] []) j) ks) s.1) ∙ h)
] where
  go : (n : ℕ) → k ≡ Number (pos n) → (t : Bool) → nat_lt m.clauses n ≡ t → kinds_read m (with_count (inside Count v 0 0 [] [] []) (cond t (Err 8) (Ok n))) ks ≡ Ok d
      → (c : ℕ) × (rest : List TokenKind) × (k ∷ ks ≡ Number (pos c) ∷ rest) × (c ≤ m.clauses) × FromOutside m d v c 0 [] [] rest
  go n i true f g = bad m 8 ks d g
  go n i false f g = (n, ks, ap (λ j. j ∷ ks) i, ltb-false m.clauses n f, (reads_back m d ks e).outside v n 0 [] [] g)

from-vars : (m : Limits) (d : Gathered) (ks : List TokenKind) → end_of d ≡ None → kinds_read m (Ok (inside Vars 0 0 0 [] [] [])) ks ≡ Ok d
    → (v : ℕ) × (rest : List TokenKind) × (ks ≡ Number (pos v) ∷ rest) × (v ≤ m.vars) × (kinds_read m (Ok (inside Count v 0 0 [] [] [])) rest ≡ Ok d)
from-vars m d [] e h = no-end (inside Vars 0 0 0 [] [] []) d 1 (same-ok (inside Vars 0 0 0 [] [] []) d h) refl e
from-vars m d (k ∷ ks) e h = elim (is-vars m (inside Vars 0 0 0 [] [] []) k) [
  | inr b ↦ bad-step m 1 (vars_of m (inside Vars 0 0 0 [] [] []) k) ks d b h
  | inl s ↦ go s.0 s.1 (nat_lt m.vars s.0) refl (sym (ap (λ j. kinds_read m (vars_of m (inside Vars 0 0 0 [] [] []) j) ks) s.1) ∙ h)
] where
  go : (n : ℕ) → k ≡ Number (pos n) → (t : Bool) → nat_lt m.vars n ≡ t → kinds_read m (with_vars (inside Vars 0 0 0 [] [] []) (cond t (Err 8) (Ok n))) ks ≡ Ok d
      → (v : ℕ) × (rest : List TokenKind) × (k ∷ ks ≡ Number (pos v) ∷ rest) × (v ≤ m.vars) × (kinds_read m (Ok (inside Count v 0 0 [] [] [])) rest ≡ Ok d)
  go n i true f g = bad m 8 ks d g
  go n i false f g = (n, ks, ap (λ j. j ∷ ks) i, ltb-false m.vars n f, g)

from-format : (m : Limits) (d : Gathered) (ks : List TokenKind) → end_of d ≡ None → kinds_read m (Ok (inside Format 0 0 0 [] [] [])) ks ≡ Ok d
    → (rest : List TokenKind) × (ks ≡ Cnf ∷ rest) × (kinds_read m (Ok (inside Vars 0 0 0 [] [] [])) rest ≡ Ok d)
from-format m d [] e h = no-end (inside Format 0 0 0 [] [] []) d 1 (same-ok (inside Format 0 0 0 [] [] []) d h) refl e
from-format m d (k ∷ ks) e h = elim (is-cnf (inside Format 0 0 0 [] [] []) k) [
  | inr b ↦ bad-step m 1 (format (inside Format 0 0 0 [] [] []) k) ks d b h
  | inl s ↦ (ks, ap (λ j. j ∷ ks) s, sym (ap (λ j. kinds_read m (format (inside Format 0 0 0 [] [] []) j) ks) s) ∙ h)
]

pub from-start : (m : Limits) (d : Gathered) (ks : List TokenKind) → end_of d ≡ None → kinds_read m (Ok begin) ks ≡ Ok d → FromStart m d ks
from-start m d [] e h = no-end begin d 1 (same-ok begin d h) refl e
from-start m d (k ∷ ks) e h = elim (is-p begin k) [
  | inr b ↦ bad-step m 1 (problem begin k) ks d b h
  | inl s ↦ (let f = from-format m d ks e (sym (ap (λ j. kinds_read m (problem begin j) ks) s) ∙ h) in
      let g = from-vars m d f.0 e f.2 in
      let c = from-count m d g.0 g.1 e g.4 in
      record {
        v = g.0;
        c = c.0;
        rest = c.1;
        kinds = ap (λ j. j ∷ ks) s ∙ ap (λ js. P ∷ js) (f.1 ∙ ap (λ js. Cnf ∷ js) (g.2 ∙ ap (λ js. Number (pos g.0) ∷ js) c.2));
        vars = g.3;
        count = c.3;
        from = c.4;
      })
]

lines-back : (m : Limits) (b d : Gathered) (ts : List Token) → tokens_read m (Ok b) ts ≡ Ok d → kinds_read m (Ok b) (map (λ t. t.kind) ts) ≡ Ok d
lines-back m b d [] e = let f : b ≡ d = cc in ap Ok f
lines-back m b d (t ∷ ts) e = go (step_of m b t.kind) e (λ c. lines-back m c d ts) where
  go : (r : Result Gathered ℕ) → tokens_read m (at_line t.line r) ts ≡ Ok d → ((c : Gathered) → tokens_read m (Ok c) ts ≡ Ok d → kinds_read m (Ok c) (map (λ t. t.kind) ts) ≡ Ok d) → kinds_read m r (map (λ t. t.kind) ts) ≡ Ok d
  go (Ok c) e f = f c e
  go (Err c) e f = let g = tokens_read-err m (Refused t.line c) ts in cc

pub record Ended (m : Limits) (bytes : List ℕ) (f : PrenexFormula) : Type 0 where
  pub d : Gathered
  pub short : length bytes ≤ m.bytes
  pub read : tokens_read m (Ok nothing_read) (tokens_of bytes) ≡ Ok d
  pub end : end_of d ≡ None
  pub formula : f ≡ formula_of d.parts.bounds d.parts.clauses

parse-ok : (m : Limits) (bytes : List ℕ) (f : PrenexFormula) → parse m bytes ≡ Ok f → Ended m bytes f
parse-ok m bytes f h = go (nat_le (length bytes) m.bytes) refl h where
  last : (r : Result Gathered ReadError) → tokens_read m (Ok nothing_read) (tokens_of bytes) ≡ r → length bytes ≤ m.bytes → at_last (line_after bytes) r ≡ Ok f → Ended m bytes f
  last (Err e) i l g = cc
  last (Ok d) i l g = fin (end_of d) refl g where
    fin : (o : Option ℕ) → end_of d ≡ o → at_end (line_after bytes) d o ≡ Ok f → Ended m bytes f
    fin None j k = let e : formula_of d.parts.bounds d.parts.clauses ≡ f = cc in record { d = d; short = l; read = i; end = j; formula = sym e }
    fin (Some c) j k = cc

  none : (r : Result Gathered ReadError) (n : ℕ) → past_limit n r ≡ Ok f → Ended m bytes f
  none (Err e) n g = cc
  none (Ok d) n g = cc

  go : (t : Bool) → nat_le (length bytes) m.bytes ≡ t → (if t then at_last (line_after bytes) (tokens_read m (Ok nothing_read) (tokens_of bytes)) else past_limit (line_after (take m.bytes bytes)) (tokens_read m (Ok nothing_read) (tokens_ended (take m.bytes bytes)))) ≡ Ok f → Ended m bytes f
  go true e g = last (tokens_read m (Ok nothing_read) (tokens_of bytes)) refl (leb-true (length bytes) m.bytes e) g
  go false e g = none (tokens_read m (Ok nothing_read) (tokens_ended (take m.bytes bytes))) (line_after (take m.bytes bytes)) g

all-ended : (v c n : ℕ) (p : Prefix) (x : Matrix) → end_of (inside Outside v c n p x []) ≡ None → c ≤ length x
all-ended v c n p x e = go (nat_lt (length x) c) refl e where
  go : (t : Bool) → nat_lt (length x) c ≡ t → cond {A = Option ℕ} t (Some 6) None ≡ None → c ≤ length x
  go true f g = absurd (cc)
  go false f g = ltb-false (length x) c f

pub read_is_grammar : (m : Limits) (bytes : List ℕ) (f : PrenexFormula) → parse m bytes ≡ Ok f → Dimacs m bytes f
read_is_grammar m bytes f h =
    let o = parse-ok m bytes f h in
    let s = from-start m o.d (map (λ t. t.kind) (tokens_of bytes)) o.end (lines-back m nothing_read o.d (tokens_of bytes) o.read) in
    let r = s.from in
    let e = all-ended s.v s.c (0 + total r.cs) (sets_bounds r.ss) (map clause_of r.cs) (sym (ap end_of r.is) ∙ o.end) in
    let l = length-map-clause r.cs in
    let u = r.full (omega arith) in
    record {
      text = record { vars = s.v; count = s.c; sets = r.ss; clauses = r.cs };
      short = o.short;
      tokens = s.kinds ∙ ap (λ js. P ∷ Cnf ∷ Number (pos s.v) ∷ Number (pos s.c) ∷ js) r.kinds;
      lawful = record {
        vars = s.vars;
        count = s.count;
        clauses = omega arith;
        bounds = r.bounds;
        once = r.once tt;
        lits = r.lits;
        few = let z = r.few (omega arith) in omega arith;
      };
      formula = o.formula ∙ ap (λ (b : Gathered). formula_of b.parts.bounds b.parts.clauses) r.is;
    }
