-- The tests say which rows apply in front of a token.
use Rattle.std.proofs.Common.{◌≡◌, inl, inr, ℕ, zero, suc, ◌+◌, ◌<◌, ◌≤◌, ◌==◌, ◌&&◌, nat_lt, nat_le, not, Bool, true, false, List, [], ◌∷◌, ◌++◌, length, map, Ok, refl, ap, sym, ◌∙◌, arith, ℤ, pos, negsuc, subst, append-nil, if◌then◌else◌}
use Rattle.std.proofs.lemmas.Bool.Decides.{nat_tests}
use Rattle.std.specs.List.{AllByRecursion}
use Rattle.q_logic.specs.declared.limits.Limits.{Limits}
use Rattle.q_logic.specs.declared.formulas.Quant.{Quant}
use Rattle.q_logic.specs.Prelude.{Literal, number_of, Prefix, is_bound, clause_of}
use Rattle.q_text.specs.declared.tokens.TokenKind.{TokenKind}
use Rattle.q_text.specs.declared.tokens.TokenKind.TheVariants.{Number, P, Cnf, Qrat, E, A, D, U, R, Other}
use Rattle.q_dimacs.specs.declared.builder.Place.TheVariants.{Outside, InSet, InClause}
use Rattle.q_dimacs.specs.Reading.{Gathered, nothing_read}
use Rattle.q_dimacs.specs.Dimacs.{Text, letter, spelled, sets_kinds, clauses_kinds, sets_bounds, vars_bounds, total, IsVar}
use Rattle.q_dimacs.proofs.GrammarIsRead.{kinds_read, length-map-clause}
use Rattle.q_offences.specs.FormulaFronts.{IsOutside, IsInSet, IsInClause, with_set}
use Rattle.q_offences.specs.FormulaTable.{Row, bad_header, header_limit, late_quantifier, bad_token, clause_count, above_header, bound_twice, literal_limit, unended, IsNumber, IsPlainNumber, IsLetter, IsHeaderToken, BeginsSet, magnitude, IsBehindHeader, AppliesAt, AppliesAtEnd}
use Rattle.q_offences.proofs.FirstRows.{Tests}
use Rattle.q_offences.proofs.FrontStates.{outside_of, set_of, clause_in, outside-read, set-read, clause-read, sets_bounds-push, total-push}
use Rattle.q_offences.proofs.SpelledFronts.{var_numbers, literal_numbers}
use Rattle.q_offences.proofs.ToldFronts.{Told, at_problem, at_format, at_vars, at_count, at_outside, at_set, at_clause}
use Rattle.q_offences.proofs.RowTests.{is_p, is_cnf, is_number, is_plain, is_letter, passes, exceeds, is_nonzero, is_bound_in, at, at_end}

-- tests of tokens

absurd-test : {X : Type 0} → false ≡ true → X
absurd-test e = cc

both : (a b : Bool) → a && b ≡ true → (a ≡ true) × (b ≡ true)
both true b e = (refl, e)
both false b e = cc

pair : (a b : Bool) → a ≡ true → b ≡ true → a && b ≡ true
pair a b e f = rw (e, f) refl

negated : (a : Bool) → not a ≡ true → a ≡ true → ⊥
negated true e f = cc
negated false e f = cc

not-true : (a : Bool) → (a ≡ true → ⊥) → not a ≡ true
not-true true h = absurd (h refl)
not-true false h = refl

p-only : (k : TokenKind) → is_p k ≡ true → k ≡ P
p-only P e = refl
p-only k e = cc

cnf-only : (k : TokenKind) → is_cnf k ≡ true → k ≡ Cnf
cnf-only Cnf e = refl
cnf-only k e = cc

plain-only : (k : TokenKind) → is_plain k ≡ true → IsPlainNumber k
plain-only (Number (pos n)) e = (n, refl)
plain-only (Number (negsuc n)) e = cc
plain-only k e = cc

plain-is : (k : TokenKind) → IsPlainNumber k → is_plain k ≡ true
plain-is k (n, e) = ap is_plain e

number-only : (k : TokenKind) → is_number k ≡ true → IsNumber k
number-only (Number z) e = (z, refl)
number-only k e = cc

number-is : (k : TokenKind) → IsNumber k → is_number k ≡ true
number-is k (z, e) = ap is_number e

letter-only : (k : TokenKind) → is_letter k ≡ true → IsLetter k
letter-only E e = inl refl
letter-only A e = inr refl
letter-only k e = cc

letter-is : (k : TokenKind) → IsLetter k → is_letter k ≡ true
letter-is k (inl e) = ap is_letter e
letter-is k (inr e) = ap is_letter e

passes-only : (m : ℕ) (k : TokenKind) → passes m k ≡ true → (n : ℕ) × (k ≡ Number (pos n)) × (m < n)
passes-only m (Number (pos n)) e = (n, refl, grind (arith, nat_tests))
passes-only m (Number (negsuc n)) e = cc
passes-only m k e = cc

passes-is : (m : ℕ) (k : TokenKind) (n : ℕ) → k ≡ Number (pos n) → m < n → passes m k ≡ true
passes-is m k n e l = ap (passes m) e ∙ (let t : nat_lt m n ≡ true = grind (arith, nat_tests) in t)

exceeds-only : (v : ℕ) (k : TokenKind) → exceeds v k ≡ true → (z : ℤ) × (k ≡ Number z) × (v < magnitude z)
exceeds-only v (Number (pos n)) e = (pos n, refl, grind (arith, nat_tests))
exceeds-only v (Number (negsuc n)) e = (negsuc n, refl, grind (arith, nat_tests))
exceeds-only v k e = cc

exceeds-is : (v : ℕ) (k : TokenKind) (z : ℤ) → k ≡ Number z → v < magnitude z → exceeds v k ≡ true
exceeds-is v k z e l = ap (exceeds v) e ∙ go z l where
  go : (z : ℤ) → v < magnitude z → exceeds v (Number z) ≡ true
  go (pos n) l = grind (arith, nat_tests)
  go (negsuc n) l = grind (arith, nat_tests)

nonzero-only : (k : TokenKind) → is_nonzero k ≡ true → (l : Literal) × (k ≡ Number (number_of l)) × (1 ≤ l.var)
nonzero-only (Number (pos zero)) e = cc
nonzero-only (Number (pos (suc n))) e = (record { var = suc n; negative = false }, refl, omega arith)
nonzero-only (Number (negsuc n)) e = (record { var = suc n; negative = true }, refl, omega arith)
nonzero-only k e = cc

nonzero-is : (k : TokenKind) (l : Literal) → k ≡ Number (number_of l) → 1 ≤ l.var → is_nonzero k ≡ true
nonzero-is k l e o = ap is_nonzero e ∙ go l.var l.negative o where
  go : (w : ℕ) (s : Bool) → 1 ≤ w → is_nonzero (Number (number_of (record { var = w; negative = s }))) ≡ true
  go zero s o = absurd (omega (arith, o))
  go (suc w) true o = refl
  go (suc w) false o = let t : (suc w == 0) ≡ false = grind (arith, nat_tests) in rw t refl

bound-only : (p : Prefix) (k : TokenKind) → is_bound_in p k ≡ true → (v : ℕ) × (k ≡ Number (pos v)) × (is_bound p v ≡ true)
bound-only p (Number (pos n)) e = (n, refl, (both (not (n == 0)) (is_bound p n) e).1)
bound-only p (Number (negsuc n)) e = cc
bound-only p k e = cc

bound-is : (p : Prefix) (k : TokenKind) (v : ℕ) → k ≡ Number (pos v) → 1 ≤ v → is_bound p v ≡ true → is_bound_in p k ≡ true
bound-is p k v e o b = ap (is_bound_in p) e ∙ (let t : (v == 0) ≡ false = grind (arith, nat_tests) in pair (not (v == 0)) (is_bound p v) (rw t refl) b)

positive : (n : ℕ) (p : Prefix) (v : ℕ) → AllByRecursion (λ q. IsVar n q.var) p → is_bound p v ≡ true → 1 ≤ v
positive n [] v h e = cc
positive n (b ∷ p) v h e = go (b.var == v) refl e (positive n p v h.1) where
  go : (x : Bool) → (b.var == v) ≡ x → (if x then true else is_bound p v) ≡ true → (is_bound p v ≡ true → 1 ≤ v) → 1 ≤ v
  go true i f ih = let o = h.0.0 in grind (arith, nat_tests)
  go false i f ih = ih f

-- lengths of fronts

outside-long : (m : Limits) (t : Text) (ks : List TokenKind) → IsOutside m t ks → 4 ≤ length ks
outside-long m t ks h = subst (λ js. 4 ≤ length js) (sym h.kinds) (omega arith)

set-long : (m : Limits) (t : Text) (q : Quant) (vs : List ℕ) (ks : List TokenKind) → IsInSet m t q vs ks → 4 ≤ length ks
set-long m t q vs ks h = subst (λ js. 4 ≤ length js) (sym h.kinds) (omega arith)

clause-long : (m : Limits) (t : Text) (ls : List Literal) (ks : List TokenKind) → IsInClause m t ls ks → 4 ≤ length ks
clause-long m t ls ks h = subst (λ js. 4 ≤ length js) (sym h.kinds) (omega arith)

behind-long : (v : ℕ) (ks : List TokenKind) → IsBehindHeader v ks → 4 ≤ length ks
behind-long v ks (c, rest, e) = subst (λ js. 4 ≤ length js) (sym e) (omega arith)

short : {X : Type 0} (ks js : List TokenKind) → ks ≡ js → length js < 4 → 4 ≤ length ks → X
short ks js e l g = absurd (let f = ap length e in omega arith)

-- the place by what is in front

same-state : (m : Limits) (ks : List TokenKind) (a b : Gathered) → kinds_read m (Ok nothing_read) ks ≡ Ok b → kinds_read m (Ok nothing_read) ks ≡ Ok a → b ≡ a
same-state m ks a b e f = cc

is-outside : (m : Limits) (ks : List TokenKind) (b : Gathered) (t : Text) → kinds_read m (Ok nothing_read) ks ≡ Ok b → IsOutside m t ks → b ≡ outside_of t
is-outside m ks b t e h = same-state m ks (outside_of t) b e (outside-read m t ks h)

is-set : (m : Limits) (ks : List TokenKind) (b : Gathered) (t : Text) (q : Quant) (vs : List ℕ) → kinds_read m (Ok nothing_read) ks ≡ Ok b → IsInSet m t q vs ks → b ≡ set_of t q vs
is-set m ks b t q vs e h = same-state m ks (set_of t q vs) b e (set-read m t q vs ks h)

is-clause : (m : Limits) (ks : List TokenKind) (b : Gathered) (t : Text) (ls : List Literal) → kinds_read m (Ok nothing_read) ks ≡ Ok b → IsInClause m t ls ks → b ≡ clause_in t ls
is-clause m ks b t ls e h = same-state m ks (clause_in t ls) b e (clause-read m t ls ks h)

-- the rows

abbrev Said : Limits → List TokenKind → TokenKind → Gathered → Row → Type 0
Said m ks k b r = (AppliesAt m ks k r → at m b k r ≡ true) × (at m b k r ≡ true → AppliesAt m ks k r)

header-said : (m : Limits) (ks : List TokenKind) (k : TokenKind) (b : Gathered) → Told m ks b → Said m ks k b bad_header
header-said m ks k b (at_problem h) = (
  λ x. not-true (is_p k) (λ e. subst (λ js. ¬ IsHeaderToken (length js) k) h x.1 (p-only k e)),
  λ e. (subst (λ js. length js < 4) (sym h) (omega arith), subst (λ js. ¬ IsHeaderToken (length js) k) (sym h) (λ i. negated (is_p k) e (ap is_p i))),
)
header-said m ks k b (at_format h) = (
  λ x. not-true (is_cnf k) (λ e. subst (λ js. ¬ IsHeaderToken (length js) k) h x.1 (cnf-only k e)),
  λ e. (subst (λ js. length js < 4) (sym h) (omega arith), subst (λ js. ¬ IsHeaderToken (length js) k) (sym h) (λ i. negated (is_cnf k) e (ap is_cnf i))),
)
header-said m ks k b (at_vars h) = (
  λ x. not-true (is_plain k) (λ e. subst (λ js. ¬ IsHeaderToken (length js) k) h x.1 (plain-only k e)),
  λ e. (subst (λ js. length js < 4) (sym h) (omega arith), subst (λ js. ¬ IsHeaderToken (length js) k) (sym h) (λ i. negated (is_plain k) e (plain-is k i))),
)
header-said m ks k b (at_count v l h) = (
  λ x. not-true (is_plain k) (λ e. subst (λ js. ¬ IsHeaderToken (length js) k) h x.1 (plain-only k e)),
  λ e. (subst (λ js. length js < 4) (sym h) (omega arith), subst (λ js. ¬ IsHeaderToken (length js) k) (sym h) (λ i. negated (is_plain k) e (plain-is k i))),
)
header-said m ks k b (at_outside t h) = (λ x. absurd (let l = outside-long m t ks h in let y = x.0 in omega arith), λ e. absurd-test e)
header-said m ks k b (at_set t q vs h) = (λ x. absurd (let l = set-long m t q vs ks h in let y = x.0 in omega arith), λ e. absurd-test e)
header-said m ks k b (at_clause t ls h) = (λ x. absurd (let l = clause-long m t ls ks h in let y = x.0 in omega arith), λ e. absurd-test e)

limit-said : (m : Limits) (ks : List TokenKind) (k : TokenKind) (b : Gathered) → Told m ks b → Said m ks k b header_limit
limit-said m ks k b (at_problem h) = (λ x. no (ap length h) x, λ e. absurd-test e) where
  no : length ks ≡ 0 → AppliesAt m ks k header_limit → false ≡ true
  no l (n, e, inl x) = absurd (let y = x.0 in omega arith)
  no l (n, e, inr x) = absurd (let y = x.0 in omega arith)
limit-said m ks k b (at_format h) = (λ x. no (ap length h) x, λ e. absurd-test e) where
  no : length ks ≡ 1 → AppliesAt m ks k header_limit → false ≡ true
  no l (n, e, inl x) = absurd (let y = x.0 in omega arith)
  no l (n, e, inr x) = absurd (let y = x.0 in omega arith)
limit-said m ks k b (at_vars h) = (λ x. go (ap length h) x, λ e. let r = passes-only m.vars k e in (r.0, r.1, inl (ap length h, r.2))) where
  go : length ks ≡ 2 → AppliesAt m ks k header_limit → passes m.vars k ≡ true
  go l (n, e, inl x) = passes-is m.vars k n e x.1
  go l (n, e, inr x) = absurd (let y = x.0 in omega arith)
limit-said m ks k b (at_count v i h) = (λ x. go (ap length h) x, λ e. let r = passes-only m.clauses k e in (r.0, r.1, inr (ap length h, r.2))) where
  go : length ks ≡ 3 → AppliesAt m ks k header_limit → passes m.clauses k ≡ true
  go l (n, e, inl x) = absurd (let y = x.0 in omega arith)
  go l (n, e, inr x) = passes-is m.clauses k n e x.1
limit-said m ks k b (at_outside t h) = (λ x. no (outside-long m t ks h) x, λ e. absurd-test e) where
  no : 4 ≤ length ks → AppliesAt m ks k header_limit → false ≡ true
  no l (n, e, inl x) = absurd (let y = x.0 in omega arith)
  no l (n, e, inr x) = absurd (let y = x.0 in omega arith)
limit-said m ks k b (at_set t q vs h) = (λ x. no (set-long m t q vs ks h) x, λ e. absurd-test e) where
  no : 4 ≤ length ks → AppliesAt m ks k header_limit → false ≡ true
  no l (n, e, inl x) = absurd (let y = x.0 in omega arith)
  no l (n, e, inr x) = absurd (let y = x.0 in omega arith)
limit-said m ks k b (at_clause t ls h) = (λ x. no (clause-long m t ls ks h) x, λ e. absurd-test e) where
  no : 4 ≤ length ks → AppliesAt m ks k header_limit → false ≡ true
  no l (n, e, inl x) = absurd (let y = x.0 in omega arith)
  no l (n, e, inr x) = absurd (let y = x.0 in omega arith)

some-clause : (t : Text) → 1 ≤ length t.clauses → nat_lt 0 (length (map clause_of t.clauses)) ≡ true
some-clause t l = let e = length-map-clause t.clauses in grind (arith, nat_tests)

has-clause : (t : Text) → nat_lt 0 (length (map clause_of t.clauses)) ≡ true → 1 ≤ length t.clauses
has-clause t f = let e = length-map-clause t.clauses in grind (arith, nat_tests)

late-said : (m : Limits) (ks : List TokenKind) (k : TokenKind) (b : Gathered) → kinds_read m (Ok nothing_read) ks ≡ Ok b → Told m ks b → Said m ks k b late_quantifier
late-said m ks k b r w = (
  λ x. (let t = x.1 in subst (λ a. at m a k late_quantifier ≡ true) (sym (is-outside m ks b t r x.2)) (pair (is_letter k) (nat_lt 0 (length (map clause_of t.clauses))) (letter-is k x.0) (some-clause t x.3))),
  λ e. up b w e,
) where
  up : (b : Gathered) → Told m ks b → at m b k late_quantifier ≡ true → AppliesAt m ks k late_quantifier
  up b (at_outside t h) e = let s = both (is_letter k) (nat_lt 0 (length (map clause_of t.clauses))) e in (letter-only k s.0, t, h, has-clause t s.1)
  up b (at_problem h) e = absurd-test e
  up b (at_format h) e = absurd-test e
  up b (at_vars h) e = absurd-test e
  up b (at_count v l h) e = absurd-test e
  up b (at_set t q vs h) e = absurd-test e
  up b (at_clause t ls h) e = absurd-test e

-- a letter begins a set exactly outside, where no clause has ended
begins : (m : Limits) (ks : List TokenKind) (k : TokenKind) (t : Text) → IsOutside m t ks → is_letter k && not (nat_lt 0 (length (map clause_of t.clauses))) ≡ true → BeginsSet m ks k
begins m ks k t h e =
    let s = both (is_letter k) (not (nat_lt 0 (length (map clause_of t.clauses)))) e in
    (letter-only k s.0, t, h, none t.clauses s.1) where
      none : (xs : List (List Literal)) → not (nat_lt 0 (length (map clause_of xs))) ≡ true → xs ≡ []
      none [] f = refl
      none (x ∷ xs) f = absurd (grind (arith, nat_tests))

begins-not : (m : Limits) (ks : List TokenKind) (k : TokenKind) (b : Gathered) → kinds_read m (Ok nothing_read) ks ≡ Ok b → BeginsSet m ks k → (b.place ≡ Outside) × (length b.parts.clauses ≡ 0)
begins-not m ks k b r x =
    let i = is-outside m ks b x.1 r x.2 in
    (ap (λ (a : Gathered). a.place) i, ap (λ (a : Gathered). length a.parts.clauses) i ∙ ap (λ (cs : List (List Literal)). length (map clause_of cs)) x.3)

set-apart : {X : Type 0} (q : Quant) → InSet q ≡ Outside → X
set-apart q e = cc

clause-apart : {X : Type 0} → InClause ≡ Outside → X
clause-apart e = cc

bad-down : (m : Limits) (ks : List TokenKind) (k : TokenKind) (b : Gathered) → Told m ks b → 4 ≤ length ks → ¬ IsNumber k → ¬ BeginsSet m ks k → at m b k bad_token ≡ true
bad-down m ks k b (at_problem h) l n s = short ks [] h (omega arith) l
bad-down m ks k b (at_format h) l n s = short ks (P ∷ []) h (omega arith) l
bad-down m ks k b (at_vars h) l n s = short ks (P ∷ Cnf ∷ []) h (omega arith) l
bad-down m ks k b (at_count v i h) l n s = short ks (P ∷ Cnf ∷ Number (pos v) ∷ []) h (omega arith) l
bad-down m ks k b (at_outside t h) l n s =
    pair (not (is_number k)) (not (is_letter k && not (nat_lt 0 (length (map clause_of t.clauses))))) (not-true (is_number k) (λ e. n (number-only k e)))
    (not-true (is_letter k && not (nat_lt 0 (length (map clause_of t.clauses)))) (λ e. s (begins m ks k t h e)))
bad-down m ks k b (at_set t q vs h) l n s = not-true (is_plain k) (λ e. let p = plain-only k e in n (pos p.0, p.1))
bad-down m ks k b (at_clause t ls h) l n s = not-true (is_number k) (λ e. n (number-only k e))

bad-up : (m : Limits) (ks : List TokenKind) (k : TokenKind) (b : Gathered) → kinds_read m (Ok nothing_read) ks ≡ Ok b → Told m ks b → at m b k bad_token ≡ true → AppliesAt m ks k bad_token
bad-up m ks k b r (at_problem h) e = absurd-test e
bad-up m ks k b r (at_format h) e = absurd-test e
bad-up m ks k b r (at_vars h) e = absurd-test e
bad-up m ks k b r (at_count v l h) e = absurd-test e
bad-up m ks k b r (at_outside t h) e =
    let s = both (not (is_number k)) (not (is_letter k && not (nat_lt 0 (length (map clause_of t.clauses))))) e in
    inl (
      outside-long m t ks h,
      λ x. negated (is_number k) s.0 (number-is k x),
      λ x. negated (is_letter k && not (nat_lt 0 (length (map clause_of t.clauses)))) s.1 (begun x),
    ) where
      begun : BeginsSet m ks k → is_letter k && not (nat_lt 0 (length (map clause_of t.clauses))) ≡ true
      begun x =
          let z : length (map clause_of t.clauses) ≡ 0 = (begins-not m ks k (outside_of t) r x).1 in
          let f : nat_lt 0 (length (map clause_of t.clauses)) ≡ false = grind (arith, nat_tests) in
          pair (is_letter k) (not (nat_lt 0 (length (map clause_of t.clauses)))) (letter-is k x.0) (rw f refl)
bad-up m ks k b r (at_set t q vs h) e = go k e where
  plainly : (k : TokenKind) → ¬ IsNumber k → AppliesAt m ks k bad_token
  plainly k n = inl (set-long m t q vs ks h, n, λ x. set-apart q (begins-not m ks k (set_of t q vs) r x).0)

  go : (k : TokenKind) → not (is_plain k) ≡ true → AppliesAt m ks k bad_token
  go (Number (pos n)) e = cc
  go (Number (negsuc n)) e = inr (n, refl, (t, q, vs, h))
  go P e = plainly P (λ x. let i = x.1 in cc)
  go Cnf e = plainly Cnf (λ x. let i = x.1 in cc)
  go Qrat e = plainly Qrat (λ x. let i = x.1 in cc)
  go E e = plainly E (λ x. let i = x.1 in cc)
  go A e = plainly A (λ x. let i = x.1 in cc)
  go D e = plainly D (λ x. let i = x.1 in cc)
  go U e = plainly U (λ x. let i = x.1 in cc)
  go R e = plainly R (λ x. let i = x.1 in cc)
  go Other e = plainly Other (λ x. let i = x.1 in cc)
bad-up m ks k b r (at_clause t ls h) e =
    inl (clause-long m t ls ks h, λ x. negated (is_number k) e (number-is k x), λ x. clause-apart (begins-not m ks k (clause_in t ls) r x).0)

bad-said : (m : Limits) (ks : List TokenKind) (k : TokenKind) (b : Gathered) → kinds_read m (Ok nothing_read) ks ≡ Ok b → Told m ks b → Said m ks k b bad_token
bad-said m ks k b r w = (down, bad-up m ks k b r w) where
  down : AppliesAt m ks k bad_token → at m b k bad_token ≡ true
  down (inl (l, n, s)) = bad-down m ks k b w l n s
  down (inr (n, e, (t, q, vs, h))) = subst (λ a. at m a k bad_token ≡ true) (sym (is-set m ks b t q vs r h)) (rw e refl)

count-said : (m : Limits) (ks : List TokenKind) (k : TokenKind) (b : Gathered) → kinds_read m (Ok nothing_read) ks ≡ Ok b → Told m ks b → Said m ks k b clause_count
count-said m ks k b r w = (down, up b w) where
  down : AppliesAt m ks k clause_count → at m b k clause_count ≡ true
  down (n, t, h, l) = subst (λ a. at m a k clause_count ≡ true) (sym (is-outside m ks b t r h))
      (pair (is_number k) (nat_le t.count (length (map clause_of t.clauses))) (number-is k n) (let e = length-map-clause t.clauses in grind (arith, nat_tests)))

  up : (b : Gathered) → Told m ks b → at m b k clause_count ≡ true → AppliesAt m ks k clause_count
  up b (at_outside t h) e =
      let s = both (is_number k) (nat_le t.count (length (map clause_of t.clauses))) e in
      let f = s.1 in
      (number-only k s.0, t, h, let g = length-map-clause t.clauses in grind (arith, nat_tests))
  up b (at_problem h) e = absurd-test e
  up b (at_format h) e = absurd-test e
  up b (at_vars h) e = absurd-test e
  up b (at_count v l h) e = absurd-test e
  up b (at_set t q vs h) e = absurd-test e
  up b (at_clause t ls h) e = absurd-test e

-- V is the number that stands third

vars-of : (v : ℕ) (ks : List TokenKind) (t : Text) (rest : List TokenKind) → IsBehindHeader v ks → ks ≡ spelled t ++ rest → v ≡ t.vars
vars-of v ks t rest (c, more, e) k = let i : P ∷ Cnf ∷ Number (pos v) ∷ Number (pos c) ∷ more ≡ P ∷ Cnf ∷ Number (pos t.vars) ∷ Number (pos t.count) ∷ (sets_kinds t.sets ++ clauses_kinds t.clauses) ++ rest = sym e ∙ k in cc

above-said : (m : Limits) (ks : List TokenKind) (k : TokenKind) (b : Gathered) → Told m ks b → Said m ks k b above_header
above-said m ks k b (at_problem h) = (λ x. short ks [] h (omega arith) (behind-long x.2 ks x.3), λ e. absurd-test e)
above-said m ks k b (at_format h) = (λ x. short ks (P ∷ []) h (omega arith) (behind-long x.2 ks x.3), λ e. absurd-test e)
above-said m ks k b (at_vars h) = (λ x. short ks (P ∷ Cnf ∷ []) h (omega arith) (behind-long x.2 ks x.3), λ e. absurd-test e)
above-said m ks k b (at_count v l h) = (λ x. short ks (P ∷ Cnf ∷ Number (pos v) ∷ []) h (omega arith) (behind-long x.2 ks x.3), λ e. absurd-test e)
above-said m ks k b (at_outside t h) = (
  λ x. (let i = vars-of x.2 ks t [] x.3 (h.kinds ∙ sym (append-nil (spelled t))) in exceeds-is t.vars k x.0 x.1 (subst (λ v. v < magnitude x.0) i x.4)),
  λ e. (let r = exceeds-only t.vars k e in (r.0, r.1, t.vars, (t.count, sets_kinds t.sets ++ clauses_kinds t.clauses, h.kinds), r.2)),
)
above-said m ks k b (at_set t q vs h) = (
  λ x. (let i = vars-of x.2 ks t (letter q ∷ var_numbers vs) x.3 h.kinds in exceeds-is t.vars k x.0 x.1 (subst (λ v. v < magnitude x.0) i x.4)),
  λ e. (let r = exceeds-only t.vars k e in (r.0, r.1, t.vars, (t.count, (sets_kinds t.sets ++ clauses_kinds t.clauses) ++ letter q ∷ var_numbers vs, h.kinds), r.2)),
)
above-said m ks k b (at_clause t ls h) = (
  λ x. (let i = vars-of x.2 ks t (literal_numbers ls) x.3 h.kinds in exceeds-is t.vars k x.0 x.1 (subst (λ v. v < magnitude x.0) i x.4)),
  λ e. (let r = exceeds-only t.vars k e in (r.0, r.1, t.vars, (t.count, (sets_kinds t.sets ++ clauses_kinds t.clauses) ++ literal_numbers ls, h.kinds), r.2)),
)

twice-said : (m : Limits) (ks : List TokenKind) (k : TokenKind) (b : Gathered) → kinds_read m (Ok nothing_read) ks ≡ Ok b → Told m ks b → Said m ks k b bound_twice
twice-said m ks k b r w = (down, up b w) where
  down : AppliesAt m ks k bound_twice → at m b k bound_twice ≡ true
  down (v, e, t, q, vs, h, i) =
      let p = sets_bounds-push t.sets q vs in
      let o = positive t.vars (sets_bounds (with_set t q vs).sets) v h.lawful.bounds i in
      subst (λ a. at m a k bound_twice ≡ true) (sym (is-set m ks b t q vs r h)) (bound-is (sets_bounds t.sets ++ vars_bounds q vs) k v e o (subst (λ p. is_bound p v ≡ true) p i))

  up : (b : Gathered) → Told m ks b → at m b k bound_twice ≡ true → AppliesAt m ks k bound_twice
  up b (at_set t q vs h) e =
      let p = sets_bounds-push t.sets q vs in
      let x = bound-only (sets_bounds t.sets ++ vars_bounds q vs) k e in
      (x.0, x.1, t, q, vs, h, subst (λ p. is_bound p x.0 ≡ true) (sym p) x.2)
  up b (at_problem h) e = absurd-test e
  up b (at_format h) e = absurd-test e
  up b (at_vars h) e = absurd-test e
  up b (at_count v l h) e = absurd-test e
  up b (at_outside t h) e = absurd-test e
  up b (at_clause t ls h) e = absurd-test e

full-said : (m : Limits) (ks : List TokenKind) (k : TokenKind) (b : Gathered) → kinds_read m (Ok nothing_read) ks ≡ Ok b → Told m ks b → Said m ks k b literal_limit
full-said m ks k b r w = (down, up b w) where
  down : AppliesAt m ks k literal_limit → at m b k literal_limit ≡ true
  down (l, e, o, n, inl (t, h, i), f) =
      subst (λ a. at m a k literal_limit ≡ true) (sym (is-outside m ks b t r h)) (pair (is_nonzero k) (nat_le m.lits (total t.clauses)) (nonzero-is k l e o) (grind (arith, nat_tests)))
  down (l, e, o, n, inr (t, ls, h, i), f) =
      let p = total-push t.clauses ls in
      subst (λ a. at m a k literal_limit ≡ true) (sym (is-clause m ks b t ls r h)) (pair (is_nonzero k) (nat_le m.lits (total t.clauses + length ls)) (nonzero-is k l e o) (grind (arith, nat_tests)))

  up : (b : Gathered) → Told m ks b → at m b k literal_limit ≡ true → AppliesAt m ks k literal_limit
  up b (at_outside t h) e =
      let s = both (is_nonzero k) (nat_le m.lits (total t.clauses)) e in
      let x = nonzero-only k s.0 in
      let f = s.1 in
      (x.0, x.1, x.2, total t.clauses, inl (t, h, refl), grind (arith, nat_tests))
  up b (at_clause t ls h) e =
      let s = both (is_nonzero k) (nat_le m.lits (total t.clauses + length ls)) e in
      let x = nonzero-only k s.0 in
      let f = s.1 in
      (x.0, x.1, x.2, total t.clauses + length ls, inr (t, ls, h, sym (total-push t.clauses ls)), grind (arith, nat_tests))
  up b (at_problem h) e = absurd-test e
  up b (at_format h) e = absurd-test e
  up b (at_vars h) e = absurd-test e
  up b (at_count v l h) e = absurd-test e
  up b (at_set t q vs h) e = absurd-test e

pub rows-said : (m : Limits) (ks : List TokenKind) (k : TokenKind) (b : Gathered) → kinds_read m (Ok nothing_read) ks ≡ Ok b → Told m ks b → Tests (AppliesAt m ks k) (at m b k)
rows-said m ks k b r w bad_header = header-said m ks k b w
rows-said m ks k b r w header_limit = limit-said m ks k b w
rows-said m ks k b r w late_quantifier = late-said m ks k b r w
rows-said m ks k b r w bad_token = bad-said m ks k b r w
rows-said m ks k b r w clause_count = count-said m ks k b r w
rows-said m ks k b r w above_header = above-said m ks k b w
rows-said m ks k b r w bound_twice = twice-said m ks k b r w
rows-said m ks k b r w literal_limit = full-said m ks k b r w
rows-said m ks k b r w unended = (λ x. absurd x, λ e. absurd-test e)

-- the rows at the end

abbrev SaidAtEnd : Limits → List TokenKind → Gathered → Row → Type 0
SaidAtEnd m ks b r = (AppliesAtEnd m ks r → at_end b r ≡ true) × (at_end b r ≡ true → AppliesAtEnd m ks r)

end-header : (m : Limits) (ks : List TokenKind) (b : Gathered) → Told m ks b → SaidAtEnd m ks b bad_header
end-header m ks b (at_problem h) = (λ x. refl, λ e. subst (λ js. length js < 4) (sym h) (omega arith))
end-header m ks b (at_format h) = (λ x. refl, λ e. subst (λ js. length js < 4) (sym h) (omega arith))
end-header m ks b (at_vars h) = (λ x. refl, λ e. subst (λ js. length js < 4) (sym h) (omega arith))
end-header m ks b (at_count v l h) = (λ x. refl, λ e. subst (λ js. length js < 4) (sym h) (omega arith))
end-header m ks b (at_outside t h) = (λ x. absurd (let l = outside-long m t ks h in omega arith), λ e. absurd-test e)
end-header m ks b (at_set t q vs h) = (λ x. absurd (let l = set-long m t q vs ks h in omega arith), λ e. absurd-test e)
end-header m ks b (at_clause t ls h) = (λ x. absurd (let l = clause-long m t ls ks h in omega arith), λ e. absurd-test e)

end-count : (m : Limits) (ks : List TokenKind) (b : Gathered) → kinds_read m (Ok nothing_read) ks ≡ Ok b → Told m ks b → SaidAtEnd m ks b clause_count
end-count m ks b r w = (down, up b w) where
  down : AppliesAtEnd m ks clause_count → at_end b clause_count ≡ true
  down (t, h, l) = subst (λ a. at_end a clause_count ≡ true) (sym (is-outside m ks b t r h)) (let e = length-map-clause t.clauses in grind (arith, nat_tests))

  up : (b : Gathered) → Told m ks b → at_end b clause_count ≡ true → AppliesAtEnd m ks clause_count
  up b (at_outside t h) e = (t, h, let g = length-map-clause t.clauses in grind (arith, nat_tests))
  up b (at_problem h) e = absurd-test e
  up b (at_format h) e = absurd-test e
  up b (at_vars h) e = absurd-test e
  up b (at_count v l h) e = absurd-test e
  up b (at_set t q vs h) e = absurd-test e
  up b (at_clause t ls h) e = absurd-test e

end-within : (m : Limits) (ks : List TokenKind) (b : Gathered) → kinds_read m (Ok nothing_read) ks ≡ Ok b → Told m ks b → SaidAtEnd m ks b unended
end-within m ks b r w = (down, up b w) where
  down : AppliesAtEnd m ks unended → at_end b unended ≡ true
  down (inl (t, q, vs, h)) = subst (λ a. at_end a unended ≡ true) (sym (is-set m ks b t q vs r h)) refl
  down (inr (t, ls, h)) = subst (λ a. at_end a unended ≡ true) (sym (is-clause m ks b t ls r h)) refl

  up : (b : Gathered) → Told m ks b → at_end b unended ≡ true → AppliesAtEnd m ks unended
  up b (at_set t q vs h) e = inl (t, q, vs, h)
  up b (at_clause t ls h) e = inr (t, ls, h)
  up b (at_problem h) e = absurd-test e
  up b (at_format h) e = absurd-test e
  up b (at_vars h) e = absurd-test e
  up b (at_count v l h) e = absurd-test e
  up b (at_outside t h) e = absurd-test e

pub end-rows-said : (m : Limits) (ks : List TokenKind) (b : Gathered) → kinds_read m (Ok nothing_read) ks ≡ Ok b → Told m ks b → Tests (AppliesAtEnd m ks) (at_end b)
end-rows-said m ks b r w bad_header = end-header m ks b w
end-rows-said m ks b r w header_limit = (λ x. absurd x, λ e. absurd-test e)
end-rows-said m ks b r w late_quantifier = (λ x. absurd x, λ e. absurd-test e)
end-rows-said m ks b r w bad_token = (λ x. absurd x, λ e. absurd-test e)
end-rows-said m ks b r w clause_count = end-count m ks b r w
end-rows-said m ks b r w above_header = (λ x. absurd x, λ e. absurd-test e)
end-rows-said m ks b r w bound_twice = (λ x. absurd x, λ e. absurd-test e)
end-rows-said m ks b r w literal_limit = (λ x. absurd x, λ e. absurd-test e)
end-rows-said m ks b r w unended = end-within m ks b r w
