-- The canonical text of a formula is read as this formula.
use Rattle.std.proofs.Common.{◌≡◌, ◌≢◌, ◌⊎◌, ℕ, zero, suc, ◌+◌, ◌<◌, ◌≤◌, ◌^◌, ◌==◌, ◌||◌, ◌&&◌, not, Bool, true, false, cond, List, [], ◌∷◌, ◌++◌, map, length, refl, ap, sym, ◌∙◌, subst, arith, inl, inr, append_assoc, pos}
use Rattle.std.proofs.lemmas.Bool.Decides.{eqb_tells}
use Rattle.std.specs.List.{AllByRecursion}
use Rattle.std.specs.Fmt.{decimal}
use Rattle.q_logic.specs.declared.formulas.Bound.{Bound}
use Rattle.q_logic.specs.declared.limits.Limits.{Limits}
use Rattle.q_logic.specs.declared.formulas.Quant.{Quant}
use Rattle.q_logic.specs.declared.formulas.Quant.TheVariants.{Exists, Forall}
use Rattle.q_logic.specs.Prelude.{Literal, IsBelow, number_of, Clause, Matrix, Prefix, PrenexFormula, IsIn, Block, blocks, push_block, is_bound, Closed, ArePairs, IsProper, AreModerate, clause_of}
use Rattle.q_logic.proofs.Common.{clause_of-ordered_clause}
use Rattle.q_logic.proofs.FormulaParts.{Distinct-pairs}
use Rattle.q_text.specs.declared.tokens.Token.{Token}
use Rattle.q_text.specs.declared.tokens.TokenKind.{TokenKind}
use Rattle.q_text.specs.declared.tokens.TokenKind.TheVariants.{Number, P, Cnf}
use Rattle.q_text.specs.declared.shape.Shape.TheVariants.{Start, Between}
use Rattle.q_text.specs.Texts.{tokens_of}
use Rattle.q_text.specs.Tokens.{to_come, literals_kinds}
use Rattle.q_text.specs.Numbers.{number_text, numbers_text, line_end}
use Rattle.q_text.proofs.TokenLaw.{at, from_start}
use Rattle.q_text.proofs.SpelledWords.{opens-start, opens-between}
use Rattle.q_text.proofs.Decimals.{IsShown, token_of, number-space, count-line, numbers-line}
use Rattle.q_dimacs.specs.Building.{occurs, occurs_in, is_free, greatest, formula_of}
use Rattle.q_dimacs.specs.Dimacs.{Text, letter, vars_kinds, sets_kinds, clauses_kinds, spelled, vars_bounds, sets_bounds, IsVar, text_formula, Dimacs}
use Rattle.q_dimacs.specs.Writing.{block_text, blocks_text, clause_text, matrix_text, greatest_bound, header_text, formula_text, KeepsLimits}
use Rattle.q_dimacs.proofs.FreeVariables.{bounds-none}

abbrev kinds : List Token → List TokenKind
kinds ts = map (λ t. t.kind) ts

-- the line behind these lines
abbrev lines_past : {X : Type 0} → ℕ → List X → ℕ
lines_past n [] = n
lines_past n (x ∷ xs) = lines_past (n + 1) xs

kinds-vars : (n : ℕ) (vs : List ℕ) (rest : List Token) → kinds (map (token_of n) (map pos vs) ++ token_of n (pos 0) ∷ rest) ≡ vars_kinds vs ++ kinds rest
kinds-vars n [] rest = refl
kinds-vars n (v ∷ vs) rest = ap (λ ks. Number (pos v) ∷ ks) (kinds-vars n vs rest)

kinds-literals : (n : ℕ) (ls : List Literal) (rest : List Token) → kinds (map (token_of n) (map number_of ls) ++ token_of n (pos 0) ∷ rest) ≡ literals_kinds ls ++ kinds rest
kinds-literals n [] rest = refl
kinds-literals n (l ∷ ls) rest = ap (λ ks. Number (number_of l) ∷ ks) (kinds-literals n ls rest)

vars-shown : (T : ℕ) (q : Quant) (vs : List ℕ) → T < 2 ^ 31 → AllByRecursion (λ b. IsVar T b.var) (vars_bounds q vs) → AllByRecursion IsShown (map pos vs)
vars-shown T q [] s h = tt
vars-shown T q (v ∷ vs) s h = ((let w = h.0.1 in omega arith), vars-shown T q vs s h.1)

literal-shown : (T : ℕ) (l : Literal) → T < 2 ^ 31 → IsVar T l.var → IsShown (number_of l)
literal-shown T l s h = go l.var l.negative h
  where
    go : (w : ℕ) (n : Bool) → IsVar T w → IsShown (number_of (record { var = w; negative = n }))
    go zero n h = absurd (let z = h.0 in omega arith)
    go (suc w) true h = let z = h.1 in omega arith
    go (suc w) false h = let z = h.1 in omega arith

literals-shown : (T : ℕ) (ls : List Literal) → T < 2 ^ 31 → AllByRecursion (λ l. IsVar T l.var) ls → AllByRecursion IsShown (map number_of ls)
literals-shown T [] s h = tt
literals-shown T (l ∷ ls) s h = (literal-shown T l s h.0, literals-shown T ls s h.1)

pub all-left : {X : Type 0} (Q : X → Type 0) (xs ys : List X) → AllByRecursion Q (xs ++ ys) → AllByRecursion Q xs
all-left Q [] ys h = tt
all-left Q (x ∷ xs) ys h = (h.0, all-left Q xs ys h.1)

pub all-right : {X : Type 0} (Q : X → Type 0) (xs ys : List X) → AllByRecursion Q (xs ++ ys) → AllByRecursion Q ys
all-right Q [] ys h = h
all-right Q (x ∷ xs) ys h = all-right Q xs ys h.1

-- a line of a block
block-kinds : (n T : ℕ) (B : Block) (rest : List ℕ) → T < 2 ^ 31 → AllByRecursion (λ b. IsVar T b.var) (vars_bounds B.quant B.vars)
    → kinds (to_come (at n Start) (block_text B ++ rest)) ≡ letter B.quant ∷ (vars_kinds B.vars ++ kinds (to_come (at (n + 1) Start) rest))
block-kinds n T B rest s h = go B.quant
  where
    numbers : kinds (to_come (at n Between) ((numbers_text (map pos B.vars) ++ line_end) ++ rest)) ≡ vars_kinds B.vars ++ kinds (to_come (at (n + 1) Start) rest)
    numbers =
        ap (λ x. kinds (to_come (at n Between) x)) (append_assoc (numbers_text (map pos B.vars)) line_end rest)
        ∙ (ap kinds (numbers-line n Between (map pos B.vars) rest opens-between (vars-shown T B.quant B.vars s h)) ∙ kinds-vars n B.vars (to_come (at (n + 1) Start) rest))

    go : (q : Quant) → kinds (to_come (at n Start) (block_text (record { quant = q; vars = B.vars }) ++ rest)) ≡ letter q ∷ (vars_kinds B.vars ++ kinds (to_come (at (n + 1) Start) rest))
    go Exists = ap (λ ks. letter Exists ∷ ks) numbers
    go Forall = ap (λ ks. letter Forall ∷ ks) numbers

blocks-kinds : (n T : ℕ) (Bs : List Block) (rest : List ℕ) → T < 2 ^ 31 → AllByRecursion (λ b. IsVar T b.var) (sets_bounds Bs)
    → kinds (to_come (at n Start) (blocks_text Bs ++ rest)) ≡ sets_kinds Bs ++ kinds (to_come (at (lines_past n Bs) Start) rest)
blocks-kinds n T [] rest s h = refl
blocks-kinds n T (B ∷ Bs) rest s h =
    ap (λ x. kinds (to_come (at n Start) x)) (append_assoc (block_text B) (blocks_text Bs) rest)
    ∙ (block-kinds n T B (blocks_text Bs ++ rest) s (all-left (λ b. IsVar T b.var) (vars_bounds B.quant B.vars) (sets_bounds Bs) h)
    ∙ ap (λ ks. letter B.quant ∷ ks)
    (ap (λ ks. vars_kinds B.vars ++ ks) (blocks-kinds (n + 1) T Bs rest s (all-right (λ b. IsVar T b.var) (vars_bounds B.quant B.vars) (sets_bounds Bs) h))
    ∙ sym (append_assoc (vars_kinds B.vars) (sets_kinds Bs) (kinds (to_come (at (lines_past (n + 1) Bs) Start) rest)))))

clause-kinds : (n T : ℕ) (C : Clause) (rest : List ℕ) → T < 2 ^ 31 → AllByRecursion (λ l. IsVar T l.var) C
    → kinds (to_come (at n Start) (clause_text C ++ rest)) ≡ literals_kinds C ++ kinds (to_come (at (n + 1) Start) rest)
clause-kinds n T C rest s h =
    ap (λ x. kinds (to_come (at n Start) x)) (append_assoc (numbers_text (map number_of C)) line_end rest)
    ∙ (ap kinds (numbers-line n Start (map number_of C) rest opens-start (literals-shown T C s h)) ∙ kinds-literals n C (to_come (at (n + 1) Start) rest))

matrix-kinds : (n T : ℕ) (X : Matrix) → T < 2 ^ 31 → AllByRecursion (λ C. AllByRecursion (λ l. IsVar T l.var) C) X
    → kinds (to_come (at n Start) (matrix_text X)) ≡ clauses_kinds X
matrix-kinds n T [] s h = refl
matrix-kinds n T (C ∷ X) s h =
    clause-kinds n T C (matrix_text X) s h.0 ∙ ap (λ ks. literals_kinds C ++ ks) (matrix-kinds (n + 1) T X s h.1)

header-kinds : (T c : ℕ) (rest : List ℕ) → T ≤ 4611686018427387904 → c ≤ 4611686018427387904
    → kinds (to_come (at 1 Start) (header_text T c ++ rest)) ≡ P ∷ Cnf ∷ Number (pos T) ∷ Number (pos c) ∷ kinds (to_come (at 2 Start) rest)
header-kinds T c rest s h =
    ap (λ x. P ∷ Cnf ∷ kinds (to_come (at 1 Between) x)) spaced
    ∙ (ap (λ ts. P ∷ Cnf ∷ kinds ts) (number-space 1 Between (pos T) (decimal c ++ 10 ∷ rest) opens-between s)
    ∙ ap (λ ts. P ∷ Cnf ∷ Number (pos T) ∷ kinds ts) (count-line 1 Between c rest opens-between h))
  where
    spaced : (decimal T ++ (32 ∷ decimal c ++ 10 ∷ [])) ++ rest ≡ number_text (pos T) ++ (decimal c ++ 10 ∷ rest)
    spaced =
        append_assoc (decimal T) (32 ∷ decimal c ++ 10 ∷ []) rest
        ∙ (ap (λ x. decimal T ++ 32 ∷ x) (append_assoc (decimal c) (10 ∷ []) rest) ∙ sym (append_assoc (decimal T) (32 ∷ []) (decimal c ++ 10 ∷ rest)))

-- the sets of the blocks are the prefix
sets-push : (b : Bound) (Bs : List Block) → sets_bounds (push_block b Bs) ≡ b ∷ sets_bounds Bs
sets-push b [] = refl
sets-push b (B ∷ Bs) = go b.quant B.quant
  where
    go : (q p : Quant) → sets_bounds (push_block (record { quant = q; var = b.var }) (record { quant = p; vars = B.vars } ∷ Bs)) ≡ record { quant = q; var = b.var } ∷ sets_bounds (record { quant = p; vars = B.vars } ∷ Bs)
    go Exists Exists = refl
    go Exists Forall = refl
    go Forall Exists = refl
    go Forall Forall = refl

sets-blocks : (Q : Prefix) → sets_bounds (blocks Q) ≡ Q
sets-blocks [] = refl
sets-blocks (b ∷ Q) = sets-push b (blocks Q) ∙ ap (λ R. b ∷ R) (sets-blocks Q)

abbrev InRange : Bound → Type 0
InRange q = (1 ≤ q.var) × (q.var < 2 ^ 31)

bounds-within : (Q : Prefix) (T : ℕ) → greatest_bound Q ≤ T → AllByRecursion InRange Q → AllByRecursion (λ q. IsVar T q.var) Q
bounds-within [] T l h = tt
bounds-within (b ∷ Q) T l h = ((h.0.0, omega arith), bounds-within Q T (omega arith) h.1)

greatest-small : (Q : Prefix) → AllByRecursion InRange Q → greatest_bound Q < 2 ^ 31
greatest-small [] h = omega arith
greatest-small (b ∷ Q) h = let g = greatest-small Q h.1 in let k = h.0.1 in omega arith

bound-within : (Q : Prefix) (T v : ℕ) → AllByRecursion (λ q. IsVar T q.var) Q → is_bound Q v ≡ true → IsVar T v
bound-within [] T v h e = absurd (cc)
bound-within (b ∷ Q) T v h e = go (eqb_tells b.var v) e (bound-within Q T v h.1)
  where
    go : ((b.var == v) ≡ true) × (b.var ≡ v) ⊎ ((b.var == v) ≡ false) × (b.var ≢ v) → cond (b.var == v) true (is_bound Q v) ≡ true → (is_bound Q v ≡ true → IsVar T v) → IsVar T v
    go (inl d) e ih = subst (IsVar T) d.1 h.0
    go (inr d) e ih = ih (rw d.0 at e)

clause-within : (Q : Prefix) (T : ℕ) (C : Clause) → AllByRecursion (λ q. IsVar T q.var) Q → ((k : Literal) → IsIn k C → is_bound Q k.var ≡ true) → AllByRecursion (λ l. IsVar T l.var) C
clause-within Q T [] h f = tt
clause-within Q T (l ∷ C) h f = (bound-within Q T l.var h (f l (inl refl)), clause-within Q T C h (λ k i. f k (inr i)))

matrix-within : (Q : Prefix) (T : ℕ) (X : Matrix) → AllByRecursion (λ q. IsVar T q.var) Q → Closed Q X → AllByRecursion (λ C. AllByRecursion (λ l. IsVar T l.var) C) X
matrix-within Q T [] h f = tt
matrix-within Q T (C ∷ X) h f = (clause-within Q T C h (f C (inl refl)), matrix-within Q T X h (λ D i. f D (inr i)))

-- no variable of the clauses is free
none-in : (Q : Prefix) (C : Clause) (v : ℕ) → ((k : Literal) → IsIn k C → is_bound Q k.var ≡ true) → is_bound Q v ≡ false → occurs_in C v ≡ false
none-in Q [] v f e = refl
none-in Q (l ∷ C) v f e = go (eqb_tells l.var v) (none-in Q C v (λ k i. f k (inr i)) e)
  where
    go : ((l.var == v) ≡ true) × (l.var ≡ v) ⊎ ((l.var == v) ≡ false) × (l.var ≢ v) → occurs_in C v ≡ false → ((l.var == v) || occurs_in C v) ≡ false
    go (inl d) ih = absurd (let g = subst (λ w. is_bound Q w ≡ true) d.1 (f l (inl refl)) in cc)
    go (inr d) ih = rw (d.0, ih) refl

none-occurs : (Q : Prefix) (X : Matrix) (v : ℕ) → Closed Q X → is_bound Q v ≡ false → occurs X v ≡ false
none-occurs Q [] v f e = refl
none-occurs Q (C ∷ X) v f e = rw (none-in Q C v (f C (inl refl)) e, none-occurs Q X v (λ D i. f D (inr i)) e) refl

and-no : (a : Bool) → (a && false) ≡ false
and-no true = refl
and-no false = refl

none-free : (Q : Prefix) (X : Matrix) (v : ℕ) → Closed Q X → is_free Q X v ≡ false
none-free Q X v f = go (is_bound Q v) refl
  where
    go : (t : Bool) → is_bound Q v ≡ t → (occurs X v && not (is_bound Q v)) ≡ false
    go true e = rw e (and-no (occurs X v))
    go false e = rw (none-occurs Q X v f e) refl

sets-of-ordered : (X : Matrix) → AllByRecursion (ArePairs IsBelow) X → map clause_of X ≡ X
sets-of-ordered [] h = refl
sets-of-ordered (C ∷ X) h = rw (clause_of-ordered_clause C h.0) (ap (λ Y. C ∷ Y) (sets-of-ordered X h.1))

abbrev text_of : PrenexFormula → Text
text_of F = record { vars = greatest_bound F.prefix; count = length F.matrix; sets = blocks F.prefix; clauses = F.matrix }

same-formula : (F : PrenexFormula) → IsProper F → F ≡ text_formula (text_of F)
same-formula F h =
    let none = bounds-none (is_free F.prefix F.matrix) 1 (greatest F.matrix) (λ k l. none-free F.prefix F.matrix k h.formula.closed) in
    sym (ap (λ X. formula_of (sets_bounds (blocks F.prefix)) X) (sets-of-ordered F.matrix h.ordered)
    ∙ (ap (λ Q. formula_of Q F.matrix) (sets-blocks F.prefix)
    ∙ ap (λ Q. let r : PrenexFormula = record { prefix = Q ++ F.prefix; matrix = F.matrix } in r) none))

text-kinds : (m : Limits) (F : PrenexFormula) → AreModerate m → IsProper F → KeepsLimits m F → kinds (tokens_of (formula_text F)) ≡ spelled (text_of F)
text-kinds m F a h k =
    let T = greatest_bound F.prefix in
    let s = greatest-small F.prefix h.ranges in
    let w = bounds-within F.prefix T (omega arith) h.ranges in
    let v = subst (AllByRecursion (λ b. IsVar T b.var)) (sym (sets-blocks F.prefix)) w in
    let few : length F.matrix ≤ 4611686018427387904 = (let x = k.clauses in let y = a.clauses in omega arith) in
    let body = blocks_text (blocks F.prefix) ++ matrix_text F.matrix in
    ap kinds (sym (from_start (formula_text F)))
    ∙ (header-kinds T (length F.matrix) body (omega arith) few
    ∙ ap (λ ks. P ∷ Cnf ∷ Number (pos T) ∷ Number (pos (length F.matrix)) ∷ ks)
    (blocks-kinds 2 T (blocks F.prefix) (matrix_text F.matrix) s v
    ∙ ap (λ ks. sets_kinds (blocks F.prefix) ++ ks) (matrix-kinds (lines_past 2 (blocks F.prefix)) T F.matrix s (matrix-within F.prefix T F.matrix w h.formula.closed))))

pub written_is_read : (m : Limits) (F : PrenexFormula) → AreModerate m → IsProper F → KeepsLimits m F → Dimacs m (formula_text F) F
written_is_read m F a h k =
    let T = greatest_bound F.prefix in
    let w = bounds-within F.prefix T (omega arith) h.ranges in
    let b = sets-blocks F.prefix in
    record {
      text = text_of F;
      short = k.bytes;
      tokens = text-kinds m F a h k;
      lawful = record {
        vars = k.vars;
        count = k.clauses;
        clauses = refl;
        bounds = subst (AllByRecursion (λ q. IsVar T q.var)) (sym b) w;
        once = subst (ArePairs (λ q r. q.var ≢ r.var)) (sym b) (Distinct-pairs F.prefix h.formula.distinct);
        lits = matrix-within F.prefix T F.matrix w h.formula.closed;
        few = k.lits;
      };
      formula = same-formula F h;
    }
