-- How justified steps compose, up to the order of clauses.
use Rattle.std.proofs.Common.{◌≡◌, ◌≤◌, ◌+◌, Bool, true, false, cond, List, [], ◌∷◌, ◌++◌, ◌⊎◌, inl, inr, arith, refl, sym, ap, ◌∙◌, subst, Option}
use Rattle.q_logic.specs.Prelude.{Literal, negation, Clause, Matrix, Prefix, IsIn, PrenexFormula, blocks, SameBlocks, Implied, outer, ExistsPivot, ForallPivot, without, Reducible, Reached, ProofStep, add, delete, drop_literal, fresh, remove_variable, after, clause_eq, one_less, FirstPivot, copies, formula_of}
use Rattle.q_logic.proofs.Justified.{Justified, JustifiedSteps, JustifiedRun}
use Rattle.q_logic.proofs.Propagation.{implied-same}
use Rattle.q_logic.proofs.Runs.{clause_eq-sound, clause_eq-itself, IsIn-copies, copies-IsIn, SameBlocks-refl}

abbrev pub SameClauses : Matrix → Matrix → Type 0
SameClauses X Y = (C : Clause) → copies C X ≡ copies C Y

abbrev pub Alike : PrenexFormula → PrenexFormula → Type 0
Alike F G = (F.prefix ≡ G.prefix) × SameClauses F.matrix G.matrix

abbrev pub Reaches : PrenexFormula → List ProofStep → PrenexFormula → Type 0
Reaches F [] G = Alike F G
Reaches F (s ∷ ss) G = Justified F s × Reaches (after F s) ss G

pub IsIn-alike : (X Y : Matrix) → SameClauses X Y → (D : Clause) → IsIn D X → IsIn D Y
IsIn-alike X Y s D m = copies-IsIn D Y (let z : 1 ≤ copies D X = IsIn-copies D X m in subst (λ n. 1 ≤ n) (s D) z)

pub alike-refl : (X : Matrix) → SameClauses X X
alike-refl X C = refl

pub alike-sym : (X Y : Matrix) → SameClauses X Y → SameClauses Y X
alike-sym X Y s C = sym (s C)

pub alike-trans : (X Y Z : Matrix) → SameClauses X Y → SameClauses Y Z → SameClauses X Z
alike-trans X Y Z s t C = s C ∙ t C

pub copies-append : (C : Clause) (X Y : Matrix) → copies C (X ++ Y) ≡ copies C X + copies C Y
copies-append C [] Y = grind arith
copies-append C (D ∷ X) Y = let i : copies C (X ++ Y) ≡ copies C X + copies C Y = copies-append C X Y in grind arith

pub alike-cons : (C : Clause) (X Y : Matrix) → SameClauses X Y → SameClauses (C ∷ X) (C ∷ Y)
alike-cons C X Y s D = let e : copies D X ≡ copies D Y = s D in grind arith

pub alike-uncons : (C : Clause) (X Y : Matrix) → SameClauses (C ∷ X) (C ∷ Y) → SameClauses X Y
alike-uncons C X Y s D = let e : copies D (C ∷ X) ≡ copies D (C ∷ Y) = s D in go (clause_eq C D) refl e
  where
    go : (b : Bool) → clause_eq C D ≡ b → cond b (copies D X + 1) (copies D X) ≡ cond b (copies D Y + 1) (copies D Y) → copies D X ≡ copies D Y
    go true q e = grind arith
    go false q e = e

pub alike-swap : (C D : Clause) (X : Matrix) → SameClauses (C ∷ D ∷ X) (D ∷ C ∷ X)
alike-swap C D X E = grind arith

pub alike-append : (X X' Y Y' : Matrix) → SameClauses X X' → SameClauses Y Y' → SameClauses (X ++ Y) (X' ++ Y')
alike-append X X' Y Y' s t C = let a : copies C X ≡ copies C X' = s C in let b : copies C Y ≡ copies C Y' = t C in let c : copies C (X ++ Y) ≡ copies C X + copies C Y = copies-append C X Y in let d : copies C (X' ++ Y') ≡ copies C X' + copies C Y' = copies-append C X' Y' in grind arith

pub alike-append_swap : (X Y : Matrix) → SameClauses (X ++ Y) (Y ++ X)
alike-append_swap X Y C = let c : copies C (X ++ Y) ≡ copies C X + copies C Y = copies-append C X Y in let d : copies C (Y ++ X) ≡ copies C Y + copies C X = copies-append C Y X in grind arith

-- Taking one copy out and putting it first.
pub one_less-alike : (C : Clause) (X : Matrix) → IsIn C X → SameClauses X (C ∷ one_less C X)
one_less-alike C [] m D = elim m [ ]
one_less-alike C (E ∷ X) m D = go (clause_eq E C) refl m (λ n. one_less-alike C X n D)
  where
    go : (b : Bool) → clause_eq E C ≡ b → (C ≡ E) ⊎ IsIn C X → (IsIn C X → copies D X ≡ copies D (C ∷ one_less C X)) → copies D (E ∷ X) ≡ copies D (C ∷ cond b X (E ∷ one_less C X))
    go true q n ih = ap (λ y. copies D (y ∷ X)) (clause_eq-sound E C q)
    go false q (inl e) ih = let z : clause_eq E C ≡ true = subst (λ y. clause_eq y C ≡ true) e (clause_eq-itself C) in grind arith
    go false q (inr n) ih = let i : copies D X ≡ copies D (C ∷ one_less C X) = ih n in grind arith

pub one_less-first : (C : Clause) (X : Matrix) → one_less C (C ∷ X) ≡ X
one_less-first C X = let e : clause_eq C C ≡ true = clause_eq-itself C in rw e refl

pub one_less-same : (C : Clause) (X Y : Matrix) → SameClauses X Y → IsIn C X → SameClauses (one_less C X) (one_less C Y)
one_less-same C X Y s m = alike-uncons C (one_less C X) (one_less C Y)
    (alike-trans (C ∷ one_less C X) X (C ∷ one_less C Y) (alike-sym X (C ∷ one_less C X) (one_less-alike C X m))
    (alike-trans X Y (C ∷ one_less C Y) s (one_less-alike C Y (IsIn-alike X Y s C m))))

-- What is valid over a matrix is valid over one with the same clauses.
pub exists_pivot-fewer : (P : Prefix) (X Y : Matrix) (C : Clause) (l : Literal) → ((D : Clause) → IsIn D X → IsIn D Y) → ((D : Clause) → IsIn D Y → IsIn D X) → ExistsPivot P X C l → ExistsPivot P Y C l
exists_pivot-fewer P X Y C l f g h = record { existential_pivot = h.existential_pivot; in_clause = h.in_clause; implied = λ D m n. implied-same X Y (C ++ outer P (negation l) D) (C ++ outer P (negation l) D) f (λ k i. i) (h.implied D (g D m) n) }

pub forall_pivot-fewer : (P : Prefix) (X Y : Matrix) (C : Clause) (l : Literal) → ((D : Clause) → IsIn D X → IsIn D Y) → ((D : Clause) → IsIn D Y → IsIn D X) → ForallPivot P X C l → ForallPivot P Y C l
forall_pivot-fewer P X Y C l f g h = record { universal_pivot = h.universal_pivot; in_clause = h.in_clause; not_negated = h.not_negated; implied = λ D m n. implied-same X Y (without l C ++ outer P (negation l) D) (without l C ++ outer P (negation l) D) f (λ k i. i) (h.implied D (g D m) n) }

pub reached-more : (P : Prefix) (X Y : Matrix) (C : Clause) (l : Literal) → ((D : Clause) → IsIn D X → IsIn D Y) → (D : Clause) → Reached P X C l D → Reached P Y C l D
reached-more P X Y C l f D Reached.first = Reached.first
reached-more P X Y C l f D (Reached.next {D = B} E k a b c d m n r) = Reached.next E k a b c d (f E m) n (reached-more P X Y C l f B r)

pub reducible-fewer : (P : Prefix) (X Y : Matrix) (C : Clause) (l : Literal) → ((D : Clause) → IsIn D Y → IsIn D X) → Reducible P X C l → Reducible P Y C l
reducible-fewer P X Y C l g h = record { universal_literal = h.universal_literal; in_clause = h.in_clause; no_negation = λ D r. h.no_negation D (reached-more P Y X C l g D r) }

first_pivot-same : (P : Prefix) (X Y : Matrix) (C : Clause) (p : Option Literal) → SameClauses X Y → Implied X C ⊎ FirstPivot P X C p → Implied Y C ⊎ FirstPivot P Y C p
first_pivot-same P X Y C p s (inl i) = inl (implied-same X Y C C (IsIn-alike X Y s) (λ k m. m) i)
first_pivot-same P X Y C p s (inr (l, e, h)) = inr (l, e, exists_pivot-fewer P X Y C l (IsIn-alike X Y s) (IsIn-alike Y X (alike-sym X Y s)) h)

pub valid-alike : (P : Prefix) (X Y : Matrix) (s : ProofStep) → SameClauses X Y → Justified (formula_of P X) s → Justified (formula_of P Y) s
valid-alike P X Y (add p C) a v = (v.0, first_pivot-same P X Y C p a v.1)
valid-alike P X Y (delete p C) a v = (IsIn-alike X Y a C v.0, first_pivot-same P (one_less C X) (one_less C Y) C p (one_less-same C X Y a v.0) v.1)
valid-alike P X Y (drop_literal l C) a v = (IsIn-alike X Y a C v.0, go v.1)
  where
    same : SameClauses (one_less C X) (one_less C Y)
    same = one_less-same C X Y a v.0

    go : ForallPivot P (one_less C X) C l ⊎ Reducible P (one_less C X) C l → ForallPivot P (one_less C Y) C l ⊎ Reducible P (one_less C Y) C l
    go (inl h) = inl (forall_pivot-fewer P (one_less C X) (one_less C Y) C l (IsIn-alike (one_less C X) (one_less C Y) same) (IsIn-alike (one_less C Y) (one_less C X) (alike-sym (one_less C X) (one_less C Y) same)) h)
    go (inr h) = inr (reducible-fewer P (one_less C X) (one_less C Y) C l (IsIn-alike (one_less C Y) (one_less C X) (alike-sym (one_less C X) (one_less C Y) same)) h)
valid-alike P X Y (fresh v w) a h = h
valid-alike P X Y (remove_variable v) a h = (h.0, λ D m. h.1 D (IsIn-alike Y X (alike-sym X Y a) D m))

pub reaches-alike : (P : Prefix) (X Y : Matrix) (ss : List ProofStep) (G : PrenexFormula) → SameClauses X Y → Reaches (formula_of P X) ss G → Reaches (formula_of P Y) ss G
reaches-alike P X Y [] G a r = (r.0, alike-trans Y X G.matrix (alike-sym X Y a) r.1)
reaches-alike P X Y (add p C ∷ ss) G a r = (valid-alike P X Y (add p C) a r.0, reaches-alike P (C ∷ X) (C ∷ Y) ss G (alike-cons C X Y a) r.1)
reaches-alike P X Y (delete p C ∷ ss) G a r = (valid-alike P X Y (delete p C) a r.0, reaches-alike P (one_less C X) (one_less C Y) ss G (one_less-same C X Y a r.0.0) r.1)
reaches-alike P X Y (drop_literal l C ∷ ss) G a r = (valid-alike P X Y (drop_literal l C) a r.0, reaches-alike P (without l C ∷ one_less C X) (without l C ∷ one_less C Y) ss G (alike-cons (without l C) (one_less C X) (one_less C Y) (one_less-same C X Y a r.0.0)) r.1)
reaches-alike P X Y (fresh v w ∷ ss) G a r = (valid-alike P X Y (fresh v w) a r.0, reaches-alike (after (formula_of P X) (fresh v w)).prefix X Y ss G a r.1)
reaches-alike P X Y (remove_variable v ∷ ss) G a r = (valid-alike P X Y (remove_variable v) a r.0, reaches-alike (after (formula_of P X) (remove_variable v)).prefix X Y ss G a r.1)

pub reaches-append : (F : PrenexFormula) (ss tt : List ProofStep) (G H : PrenexFormula) → Reaches F ss G → Reaches G tt H → Reaches F (ss ++ tt) H
reaches-append F [] tt G H a r = reaches-alike F.prefix G.matrix F.matrix tt H (alike-sym F.matrix G.matrix a.1) (subst (λ P. Reaches (formula_of P G.matrix) tt H) (sym a.0) r)
reaches-append F (s ∷ ss) tt G H r t = (r.0, reaches-append (after F s) ss tt G H r.1 t)

-- The end may be told otherwise.
pub reaches-end : (P : Prefix) (X Y : Matrix) (F : PrenexFormula) (ss : List ProofStep) → SameClauses X Y → Reaches F ss (formula_of P X) → Reaches F ss (formula_of P Y)
reaches-end P X Y F [] a r = (r.0, alike-trans F.matrix X Y r.1 a)
reaches-end P X Y F (s ∷ ss) a r = (r.0, reaches-end P X Y (after F s) ss a r.1)

reaches-steps : (F : PrenexFormula) (ss : List ProofStep) (G : PrenexFormula) → Reaches F ss G → (E : PrenexFormula) × JustifiedSteps F ss E × Alike E G
reaches-steps F [] G r = (F, refl, r)
reaches-steps F (s ∷ ss) G r = let i : (E : PrenexFormula) × JustifiedSteps (after F s) ss E × Alike E G = reaches-steps (after F s) ss G r.1 in (i.0, (r.0, i.1), i.2)

-- They are a run.
pub reaches-run : (F : PrenexFormula) (ss : List ProofStep) (G : PrenexFormula) → Reaches F ss G → JustifiedRun F ss G
reaches-run F ss G r = let i : (E : PrenexFormula) × JustifiedSteps F ss E × Alike E G = reaches-steps F ss G r in
    record { last = i.0; steps = i.1; same = record { same_blocks = subst (λ Q. SameBlocks (blocks i.0.prefix) (blocks Q)) i.2.0 (SameBlocks-refl (blocks i.0.prefix)); same_clauses = i.2.1 } }
