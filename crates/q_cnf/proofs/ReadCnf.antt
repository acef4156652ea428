-- The text of clauses is read as the formula that has them, with existentials alone.
use Rattle.std.proofs.Common.{◌≡◌, ◌⊎◌, ℕ, zero, suc, ◌+◌, ◌*◌, ◌<◌, ◌≤◌, ◌^◌, Bool, true, false, cond, List, [], ◌∷◌, ◌++◌, map, length, refl, ap, sym, ◌∙◌, subst, arith, inl, inr, append_assoc, append-nil, length-append, pos}
use Rattle.std.specs.List.{AllByRecursion}
use Rattle.std.specs.Fmt.{decimal}
use Rattle.q_logic.specs.declared.formulas.Quant.TheVariants.{Exists}
use Rattle.q_logic.specs.Prelude.{Literal, IsBelow, number_of, Clause, Matrix, Prefix, IsIn, is_bound, Closed, ArePairs, clause_of, literals_in, standard}
use Rattle.q_logic.proofs.Common.{clause_of-ordered_clause, IsBound-is_bound}
use Rattle.q_text.specs.declared.tokens.Token.{Token}
use Rattle.q_text.specs.declared.tokens.TokenKind.{TokenKind}
use Rattle.q_text.specs.declared.tokens.TokenKind.TheVariants.{Number, P, Cnf}
use Rattle.q_text.specs.declared.shape.Shape.TheVariants.{Start, Between}
use Rattle.q_text.specs.Texts.{tokens_of}
use Rattle.q_text.specs.Tokens.{to_come, literals_kinds}
use Rattle.q_text.specs.Numbers.{number_text, numbers_text, line_end}
use Rattle.q_text.proofs.TokenLaw.{at, from_start}
use Rattle.q_text.proofs.SpelledWords.{opens-start, opens-between}
use Rattle.q_text.proofs.Decimals.{IsShown, token_of, number-space, count-line, numbers-line}
use Rattle.q_dimacs.specs.Building.{occurs, is_free, greatest, greatest_in, formula_of, bounds_from}
use Rattle.q_dimacs.specs.Dimacs.{Text, clauses_kinds, spelled, IsVar, Dimacs}
use Rattle.q_dimacs.specs.Writing.{clause_text, matrix_text, header_text}
use Rattle.q_dimacs.proofs.FreeVariables.{bounds-has, none-above, occurs-IsIn}
use Rattle.q_dimacs.proofs.TextLimits.{header-short, matrix-short, total-same}
use Rattle.q_miter.specs.Miters.{AllExist, IsCnf, VarsUpTo}
use Rattle.q_cnf.specs.Cnf.{cnf_text, no_sets, AreVariables, AreClauses, AreInLimits}

abbrev kinds : List Token → List TokenKind
kinds ts = map (λ t. t.kind) ts

kinds-literals : (n : ℕ) (ls : List Literal) (rest : List Token) → kinds (map (token_of n) (map number_of ls) ++ token_of n (pos 0) ∷ rest) ≡ literals_kinds ls ++ kinds rest
kinds-literals n [] rest = refl
kinds-literals n (l ∷ ls) rest = ap (λ ks. Number (number_of l) ∷ ks) (kinds-literals n ls rest)

literal-shown : (l : Literal) → (1 ≤ l.var) × (l.var < 2 ^ 31) → IsShown (number_of l)
literal-shown l h = go l.var l.negative h
  where
    go : (w : ℕ) (n : Bool) → (1 ≤ w) × (w < 2 ^ 31) → IsShown (number_of (record { var = w; negative = n }))
    go zero n h = absurd (let z = h.0 in omega arith)
    go (suc w) true h = let z = h.1 in omega arith
    go (suc w) false h = let z = h.1 in omega arith

literals-shown : (ls : List Literal) → AllByRecursion (λ l. (1 ≤ l.var) × (l.var < 2 ^ 31)) ls → AllByRecursion IsShown (map number_of ls)
literals-shown [] h = tt
literals-shown (l ∷ ls) h = (literal-shown l h.0, literals-shown ls h.1)

clause-kinds : (n : ℕ) (C : Clause) (rest : List ℕ) → AllByRecursion (λ l. (1 ≤ l.var) × (l.var < 2 ^ 31)) C
    → kinds (to_come (at n Start) (clause_text C ++ rest)) ≡ literals_kinds C ++ kinds (to_come (at (n + 1) Start) rest)
clause-kinds n C rest h =
    ap (λ x. kinds (to_come (at n Start) x)) (append_assoc (numbers_text (map number_of C)) line_end rest)
    ∙ (ap kinds (numbers-line n Start (map number_of C) rest opens-start (literals-shown C h)) ∙ kinds-literals n C (to_come (at (n + 1) Start) rest))

matrix-kinds : (n : ℕ) (X : Matrix) → AreVariables X → kinds (to_come (at n Start) (matrix_text X)) ≡ clauses_kinds X
matrix-kinds n [] h = refl
matrix-kinds n (C ∷ X) h =
    clause-kinds n C (matrix_text X) h.0 ∙ ap (λ ks. literals_kinds C ++ ks) (matrix-kinds (n + 1) X h.1)

header-kinds : (T c : ℕ) (rest : List ℕ) → T ≤ 4611686018427387904 → c ≤ 4611686018427387904
    → kinds (to_come (at 1 Start) (header_text T c ++ rest)) ≡ P ∷ Cnf ∷ Number (pos T) ∷ Number (pos c) ∷ kinds (to_come (at 2 Start) rest)
header-kinds T c rest s h =
    ap (λ x. P ∷ Cnf ∷ kinds (to_come (at 1 Between) x)) spaced
    ∙ (ap (λ ts. P ∷ Cnf ∷ kinds ts) (number-space 1 Between (pos T) (decimal c ++ 10 ∷ rest) opens-between s)
    ∙ ap (λ ts. P ∷ Cnf ∷ Number (pos T) ∷ kinds ts) (count-line 1 Between c rest opens-between h))
  where
    spaced : (decimal T ++ (32 ∷ decimal c ++ 10 ∷ [])) ++ rest ≡ number_text (pos T) ++ (decimal c ++ 10 ∷ rest)
    spaced =
        append_assoc (decimal T) (32 ∷ decimal c ++ 10 ∷ []) rest
        ∙ (ap (λ x. decimal T ++ 32 ∷ x) (append_assoc (decimal c) (10 ∷ []) rest) ∙ sym (append_assoc (decimal T) (32 ∷ []) (decimal c ++ 10 ∷ rest)))

abbrev text_of : Matrix → Text
text_of X = record { vars = greatest X; count = length X; sets = []; clauses = X }

of-ordered : (X : Matrix) → AllByRecursion (ArePairs IsBelow) X → map clause_of X ≡ X
of-ordered [] h = refl
of-ordered (C ∷ X) h = rw (clause_of-ordered_clause C h.0) (ap (λ Y. C ∷ Y) (of-ordered X h.1))

clause-within : (T : ℕ) (C : Clause) → greatest_in C ≤ T → AllByRecursion (λ l. (1 ≤ l.var) × (l.var < 2 ^ 31)) C → AllByRecursion (λ l. IsVar T l.var) C
clause-within T [] g h = tt
clause-within T (l ∷ C) g h = ((h.0.0, omega arith), clause-within T C (omega arith) h.1)

matrix-within : (T : ℕ) (X : Matrix) → greatest X ≤ T → AreVariables X → AllByRecursion (λ C. AllByRecursion (λ l. IsVar T l.var) C) X
matrix-within T [] g h = tt
matrix-within T (C ∷ X) g h = (clause-within T C (omega arith) h.0, matrix-within T X (omega arith) h.1)

clause-range : (C : Clause) → AllByRecursion (λ l. (1 ≤ l.var) × (l.var < 2 ^ 31)) C → (k : Literal) → IsIn k C → (1 ≤ k.var) × (k.var < 2 ^ 31)
clause-range [] h k m = elim m [ ]
clause-range (l ∷ C) h k (inl e) = subst (λ (x : Literal). (1 ≤ x.var) × (x.var < 2 ^ 31)) (sym e) h.0
clause-range (l ∷ C) h k (inr m) = clause-range C h.1 k m

in-range : (X : Matrix) → AreVariables X → (D : Clause) → IsIn D X → (k : Literal) → IsIn k D → (1 ≤ k.var) × (k.var < 2 ^ 31)
in-range [] h D m k i = elim m [ ]
in-range (C ∷ X) h D (inl e) k i = clause-range C h.0 k (subst (λ (E : Clause). IsIn k E) e i)
in-range (C ∷ X) h D (inr m) k i = in-range X h.1 D m k i

all_exist-bounds : (t : ℕ → Bool) (v n : ℕ) → AllExist (bounds_from t v n ++ [])
all_exist-bounds t v zero = tt
all_exist-bounds t v (suc n) = go (t v) (all_exist-bounds t (v + 1) n)
  where
    go : (b : Bool) → AllExist (bounds_from t (v + 1) n ++ []) →
        AllExist (cond b (record { quant = Exists; var = v } ∷ bounds_from t (v + 1) n) (bounds_from t (v + 1) n) ++ [])
    go true h = (refl, h)
    go false h = h

free-occurs : (X : Matrix) (v : ℕ) → occurs X v ≡ true → is_free no_sets X v ≡ true
free-occurs X v e = rw e refl

closed-free : (X : Matrix) → AreVariables X → Closed (bounds_from (is_free no_sets X) 1 (greatest X) ++ []) X
closed-free X h D m k i =
    let o : occurs X k.var ≡ true = occurs-IsIn X D k m i in
    let r = in-range X h D m k i in
    let b = bounds-has (is_free no_sets X) 1 (greatest X) k.var r.0 (within o) (free-occurs X k.var o) in
    subst (λ (P : Prefix). is_bound P k.var ≡ true) (sym (append-nil (bounds_from (is_free no_sets X) 1 (greatest X))))
    (IsBound-is_bound (bounds_from (is_free no_sets X) 1 (greatest X)) k.var b)
  where
    cases : (a b : ℕ) → (a < b) ⊎ (b ≤ a)
    cases a b = grind arith

    within : occurs X k.var ≡ true → k.var < 1 + greatest X
    within o = elim (cases (greatest X) k.var) [
      | inl l ↦ absurd (let z = none-above X k.var l in cc)
      | inr l ↦ omega arith
    ]

clause-up : (n : ℕ) (C : Clause) → ((k : Literal) → IsIn k C → k.var ≤ n) → greatest_in C ≤ n
clause-up n [] h = omega arith
clause-up n (l ∷ C) h = let a = h l (inl refl) in let b = clause-up n C (λ k m. h k (inr m)) in omega arith

greatest-up : (n : ℕ) (X : Matrix) → VarsUpTo n X → greatest X ≤ n
greatest-up n [] h = omega arith
greatest-up n (C ∷ X) h = let a = clause-up n C (h C (inl refl)) in let b = greatest-up n X (λ D m. h D (inr m)) in omega arith

pub cnf-read : (X : Matrix) → AreClauses X → AreInLimits standard X → Dimacs standard (cnf_text X) (formula_of no_sets X) × IsCnf X (formula_of no_sets X)
cnf-read X h l = (
  record {
    text = text_of X;
    short = short;
    tokens = tokens;
    lawful = record {
      vars = vars;
      count = l.clauses;
      clauses = refl;
      bounds = tt;
      once = tt;
      lits = matrix-within (greatest X) X (omega arith) h.variables;
      few = subst (λ (k : ℕ). k ≤ standard.lits) (sym (total-same X)) l.lits;
    };
    formula = sym (ap (λ (Y : Matrix). formula_of no_sets Y) (of-ordered X h.ordered));
  },
  record { existential = all_exist-bounds (is_free no_sets X) 1 (greatest X); closed = closed-free X h.variables; matrix = refl },
)
  where
    vars : greatest X ≤ 16777215
    vars = greatest-up 16777215 X l.vars

    clauses : length X ≤ 33554432
    clauses = l.clauses

    lits : literals_in X ≤ 134217728
    lits = l.lits

    short : length (cnf_text X) ≤ standard.bytes
    short =
        let a : length (header_text (greatest X) (length X)) ≤ 28 = header-short (greatest X) (length X) (omega (arith, vars)) (omega (arith, clauses)) in
        let b : length (matrix_text X) ≤ 12 * literals_in X + 2 * length X = matrix-short X (λ D m k i. (in-range X h.variables D m k i).1) in
        let e : length (cnf_text X) ≡ length (header_text (greatest X) (length X)) + length (matrix_text X) = length-append (header_text (greatest X) (length X)) (matrix_text X) in
        omega (arith, clauses, lits)

    tokens : kinds (tokens_of (cnf_text X)) ≡ spelled (text_of X)
    tokens =
        ap kinds (sym (from_start (cnf_text X)))
        ∙ (header-kinds (greatest X) (length X) (matrix_text X) (omega (arith, vars)) (omega (arith, clauses))
        ∙ ap (λ ks. P ∷ Cnf ∷ Number (pos (greatest X)) ∷ Number (pos (length X)) ∷ ks) (matrix-kinds 2 X h.variables))
