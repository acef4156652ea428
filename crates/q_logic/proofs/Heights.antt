-- How large the formulas along a run get: what its steps add at most, and that steps which add little keep the checker's limits.
use Rattle.std.proofs.Common.{◌≡◌, ◌≤◌, ℕ, ◌+◌, ◌-◌, ◌*◌, Bool, true, false, cond, List, [], ◌∷◌, ◌++◌, ◌⊎◌, inl, inr, arith, refl, subst, Option, Some, None, zero, suc, length}
use Rattle.q_logic.specs.Prelude.{Literal, Clause, Matrix, IsIn, PrenexFormula, IsFormula, without, ProofStep, add, delete, drop_literal, fresh, remove_variable, after, clause_eq, one_less, literals_in, Within, ValidSteps, Run, blocks, SameBlocks, standard, has, with_literal, without_literal, Slots, slot, live, others, put_first}
use Rattle.q_logic.proofs.Runs.{clause_eq-sound, clause_eq-itself, SameBlocks-refl}
use Rattle.q_logic.proofs.NumberedClauses.{live-slot}
use Rattle.q_logic.proofs.Soundness.{after-formula}
use Rattle.q_logic.proofs.JoinedClauses.{without-shorter}
use Rattle.q_logic.proofs.JustifiedRuns.{Reaches, Alike}
use Rattle.q_logic.proofs.ChangeRuns.{deletes, adds, drops, replaces, mapped}

-- How much a list of steps adds at most, by a weight of clauses, at any time.
abbrev pub rise : (Clause → ℕ) → List ProofStep → ℕ
rise w [] = 0
rise w (add p C ∷ ss) = w C + rise w ss
rise w (delete p C ∷ ss) = rise w ss - w C
rise w (drop_literal l C ∷ ss) = rise w ss
rise w (fresh v x ∷ ss) = rise w ss
rise w (remove_variable v ∷ ss) = rise w ss

abbrev pub weight : (Clause → ℕ) → Matrix → ℕ
weight w [] = 0
weight w (C ∷ X) = w C + weight w X

abbrev pub one : Clause → ℕ
one C = 1

-- Each fresh variable is at most m.
abbrev pub FreshUpTo : ℕ → List ProofStep → Type 0
FreshUpTo m [] = Unit {0}
FreshUpTo m (add p C ∷ ss) = FreshUpTo m ss
FreshUpTo m (delete p C ∷ ss) = FreshUpTo m ss
FreshUpTo m (drop_literal l C ∷ ss) = FreshUpTo m ss
FreshUpTo m (fresh v x ∷ ss) = (1 ≤ v) × (v ≤ m) × FreshUpTo m ss
FreshUpTo m (remove_variable v ∷ ss) = FreshUpTo m ss

-- Steps that at no time add more than c clauses and l literals.
pub record Modest (c l : ℕ) (ss : List ProofStep) : Type 0 where
  pub clauses : rise one ss ≤ c
  pub lits : rise length ss ≤ l
  pub variables : FreshUpTo standard.vars ss

-- A run of modest steps.
abbrev pub Way : ℕ → ℕ → PrenexFormula → PrenexFormula → Type 0
Way c l F G = (ss : List ProofStep) × Reaches F ss G × Modest c l ss

-- Lists of steps, one after the other.
pub rise-append : (w : Clause → ℕ) (ss rest : List ProofStep) → rise w (ss ++ rest) ≤ rise w ss + rise w rest
rise-append w [] rest = omega arith
rise-append w (add p C ∷ ss) rest = let i : rise w (ss ++ rest) ≤ rise w ss + rise w rest = rise-append w ss rest in more (w C) (rise w (ss ++ rest)) (rise w ss) (rise w rest) i
  where
    more : (c a s t : ℕ) → a ≤ s + t → c + a ≤ c + s + t
    more c a s t i = omega arith
rise-append w (delete p C ∷ ss) rest = let i : rise w (ss ++ rest) ≤ rise w ss + rise w rest = rise-append w ss rest in less (w C) (rise w (ss ++ rest)) (rise w ss) (rise w rest) i
  where
    less : (c a s t : ℕ) → a ≤ s + t → a - c ≤ s - c + t
    less c a s t i = omega arith
rise-append w (drop_literal l C ∷ ss) rest = rise-append w ss rest
rise-append w (fresh v x ∷ ss) rest = rise-append w ss rest
rise-append w (remove_variable v ∷ ss) rest = rise-append w ss rest

pub fresh-append : (m : ℕ) (ss rest : List ProofStep) → FreshUpTo m ss → FreshUpTo m rest → FreshUpTo m (ss ++ rest)
fresh-append m [] rest f g = g
fresh-append m (add p C ∷ ss) rest f g = fresh-append m ss rest f g
fresh-append m (delete p C ∷ ss) rest f g = fresh-append m ss rest f g
fresh-append m (drop_literal l C ∷ ss) rest f g = fresh-append m ss rest f g
fresh-append m (fresh v x ∷ ss) rest f g = (f.0, f.1, fresh-append m ss rest f.2 g)
fresh-append m (remove_variable v ∷ ss) rest f g = fresh-append m ss rest f g

at-most : (x y m n : ℕ) → x ≤ y → y ≤ m → m ≤ n → x ≤ n
at-most x y m n a b c = omega arith

add-most : (x s t a b : ℕ) → x ≤ s + t → s ≤ a → t ≤ b → x ≤ a + b
add-most x s t a b i j k = omega arith

pub modest-append : (a b c d : ℕ) (ss rest : List ProofStep) → Modest a b ss → Modest c d rest → Modest (a + c) (b + d) (ss ++ rest)
modest-append a b c d ss rest f g = record {
  clauses = add-most (rise one (ss ++ rest)) (rise one ss) (rise one rest) a c (rise-append one ss rest) f.clauses g.clauses;
  lits = add-most (rise length (ss ++ rest)) (rise length ss) (rise length rest) b d (rise-append length ss rest) f.lits g.lits;
  variables = fresh-append standard.vars ss rest f.variables g.variables;
}

pub modest-more : (a b c d : ℕ) (ss : List ProofStep) → a ≤ c → b ≤ d → Modest a b ss → Modest c d ss
modest-more a b c d ss i j m = record {
  clauses = at-most (rise one ss) (rise one ss) a c (omega arith) m.clauses i;
  lits = at-most (rise length ss) (rise length ss) b d (omega arith) m.lits j;
  variables = m.variables;
}

-- The lists that the rules use.
rise-deletes : (w : Clause → ℕ) (p : Clause → Option Literal) (X : Matrix) → rise w (deletes p X) ≤ 0
rise-deletes w p [] = omega arith
rise-deletes w p (C ∷ X) = let i : rise w (deletes p X) ≤ 0 = rise-deletes w p X in less (rise w (deletes p X)) (w C) i
  where
    less : (a c : ℕ) → a ≤ 0 → a - c ≤ 0
    less a c i = omega arith

fresh-deletes : (m : ℕ) (p : Clause → Option Literal) (X : Matrix) → FreshUpTo m (deletes p X)
fresh-deletes m p [] = tt
fresh-deletes m p (C ∷ X) = fresh-deletes m p X

pub modest-deletes : (p : Clause → Option Literal) (X : Matrix) → Modest 0 0 (deletes p X)
modest-deletes p X = record { clauses = rise-deletes one p X; lits = rise-deletes length p X; variables = fresh-deletes standard.vars p X }

pub modest-delete : (p : Option Literal) (C : Clause) → Modest 0 0 (delete p C ∷ [])
modest-delete p C = modest-deletes (λ D. p) (C ∷ [])

rise-drops : (w : Clause → ℕ) (l : Literal) (X : Matrix) → rise w (drops l X) ≤ 0
rise-drops w l [] = omega arith
rise-drops w l (C ∷ X) = rise-drops w l X

fresh-drops : (m : ℕ) (l : Literal) (X : Matrix) → FreshUpTo m (drops l X)
fresh-drops m l [] = tt
fresh-drops m l (C ∷ X) = fresh-drops m l X

pub modest-drops : (l : Literal) (X : Matrix) → Modest 0 0 (drops l X)
modest-drops l X = record { clauses = rise-drops one l X; lits = rise-drops length l X; variables = fresh-drops standard.vars l X }

pub weight-one : (X : Matrix) → weight one X ≡ length X
weight-one [] = refl
weight-one (C ∷ X) = let i : weight one X ≡ length X = weight-one X in grind arith

pub weight-length : (X : Matrix) → weight length X ≡ literals_in X
weight-length [] = refl
weight-length (C ∷ X) = let i : weight length X ≡ literals_in X = weight-length X in grind arith

rise-adds : (w : Clause → ℕ) (p : Clause → Option Literal) (X : Matrix) → rise w (adds p X) ≤ weight w X
rise-adds w p [] = omega arith
rise-adds w p (C ∷ X) = let i : rise w (adds p X) ≤ weight w X = rise-adds w p X in more (w C) (rise w (adds p X)) (weight w X) i
  where
    more : (c a x : ℕ) → a ≤ x → c + a ≤ c + x
    more c a x i = omega arith

fresh-adds : (m : ℕ) (p : Clause → Option Literal) (X : Matrix) → FreshUpTo m (adds p X)
fresh-adds m p [] = tt
fresh-adds m p (C ∷ X) = fresh-adds m p X

pub modest-adds : (p : Clause → Option Literal) (X : Matrix) → Modest (weight one X) (weight length X) (adds p X)
modest-adds p X = record {
  clauses = rise-adds one p X;
  lits = rise-adds length p X;
  variables = fresh-adds standard.vars p X;
}

rise-replaces : (w : Clause → ℕ) (f : Clause → Clause) (X : Matrix) → rise w (replaces f X) ≤ weight w (mapped f X)
rise-replaces w f [] = omega arith
rise-replaces w f (C ∷ X) = let i : rise w (replaces f X) ≤ weight w (mapped f X) = rise-replaces w f X in more (w (f C)) (w C) (rise w (replaces f X)) (weight w (mapped f X)) i
  where
    more : (d c a x : ℕ) → a ≤ x → d + (a - c) ≤ d + x
    more d c a x i = omega arith

fresh-replaces : (m : ℕ) (f : Clause → Clause) (X : Matrix) → FreshUpTo m (replaces f X)
fresh-replaces m f [] = tt
fresh-replaces m f (C ∷ X) = fresh-replaces m f X

pub modest-replaces : (f : Clause → Clause) (X : Matrix) → Modest (weight one (mapped f X)) (weight length (mapped f X)) (replaces f X)
modest-replaces f X = record {
  clauses = rise-replaces one f X;
  lits = rise-replaces length f X;
  variables = fresh-replaces standard.vars f X;
}

-- Weights of parts.
pub weight-mapped : (w : Clause → ℕ) (f : Clause → Clause) → ((C : Clause) → w (f C) ≤ w C) → (X : Matrix) → weight w (mapped f X) ≤ weight w X
weight-mapped w f h [] = omega arith
weight-mapped w f h (C ∷ X) = let i : weight w (mapped f X) ≤ weight w X = weight-mapped w f h X in let j : w (f C) ≤ w C = h C in both (w (f C)) (w C) (weight w (mapped f X)) (weight w X) j i
  where
    both : (a b x y : ℕ) → a ≤ b → x ≤ y → a + x ≤ b + y
    both a b x y j i = omega arith

more-heavy : (c x y : ℕ) → x ≤ y → x ≤ c + y
more-heavy c x y i = omega arith

both-heavy : (c x y : ℕ) → x ≤ y → c + x ≤ c + y
both-heavy c x y i = omega arith

pub weight-with : (w : Clause → ℕ) (l : Literal) (X : Matrix) → weight w (with_literal l X) ≤ weight w X
weight-with w l [] = omega arith
weight-with w l (C ∷ X) = go (has l C) (weight-with w l X)
  where
    go : (b : Bool) → weight w (with_literal l X) ≤ weight w X → weight w (cond b (C ∷ with_literal l X) (with_literal l X)) ≤ w C + weight w X
    go true i = both-heavy (w C) (weight w (with_literal l X)) (weight w X) i
    go false i = more-heavy (w C) (weight w (with_literal l X)) (weight w X) i

pub weight-without : (w : Clause → ℕ) (l : Literal) (X : Matrix) → weight w (without_literal l X) ≤ weight w X
weight-without w l [] = omega arith
weight-without w l (C ∷ X) = go (has l C) (weight-without w l X)
  where
    go : (b : Bool) → weight w (without_literal l X) ≤ weight w X → weight w (cond b (without_literal l X) (C ∷ without_literal l X)) ≤ w C + weight w X
    go true i = more-heavy (w C) (weight w (without_literal l X)) (weight w X) i
    go false i = both-heavy (w C) (weight w (without_literal l X)) (weight w X) i

pub weight-others : (w : Clause → ℕ) (c : ℕ) (N : Slots) → weight w (others c N) ≤ weight w (live N)
weight-others w c [] = omega arith
weight-others w zero (o ∷ N) = go o
  where
    go : (o : Option Clause) → weight w (live N) ≤ weight w (put_first o (live N))
    go None = omega arith
    go (Some C) = more-heavy (w C) (weight w (live N)) (weight w (live N)) (omega arith)
weight-others w (suc c) (o ∷ N) = go o (weight-others w c N)
  where
    go : (o : Option Clause) → weight w (others c N) ≤ weight w (live N) → weight w (put_first o (others c N)) ≤ weight w (put_first o (live N))
    go None i = i
    go (Some C) i = both-heavy (w C) (weight w (others c N)) (weight w (live N)) i

pub weight-slot : (w : Clause → ℕ) (N : Slots) (c : ℕ) (C : Clause) → slot N c ≡ Some C → w C ≤ weight w (live N)
weight-slot w N c C e = weight-in (live N) (live-slot N c C e)
  where
    weight-in : (X : Matrix) → IsIn C X → w C ≤ weight w X
    weight-in [] m = elim m [ ]
    weight-in (D ∷ X) (inl e) = subst (λ y. w C ≤ w y + weight w X) e (first (w C) (weight w X))
      where
        first : (a b : ℕ) → a ≤ a + b
        first a b = omega arith
    weight-in (D ∷ X) (inr m) = more-heavy (w D) (w C) (weight w X) (weight-in X m)

-- Taking one copy out.
pub length-one_less : (C : Clause) (X : Matrix) → IsIn C X → length X ≡ 1 + length (one_less C X)
length-one_less C [] m = elim m [ ]
length-one_less C (E ∷ X) m = go (clause_eq E C) refl m (length-one_less C X)
  where
    go : (b : Bool) → clause_eq E C ≡ b → (C ≡ E) ⊎ IsIn C X → (IsIn C X → length X ≡ 1 + length (one_less C X)) → length (E ∷ X) ≡ 1 + length (cond b X (E ∷ one_less C X))
    go true q n ih = grind arith
    go false q (inl e) ih = let z : clause_eq E C ≡ true = subst (λ y. clause_eq y C ≡ true) e (clause_eq-itself C) in grind arith
    go false q (inr n) ih = let i : length X ≡ 1 + length (one_less C X) = ih n in grind arith

pub literals-one_less : (C : Clause) (X : Matrix) → IsIn C X → literals_in X ≡ length C + literals_in (one_less C X)
literals-one_less C [] m = elim m [ ]
literals-one_less C (E ∷ X) m = go (clause_eq E C) refl m (literals-one_less C X)
  where
    go : (b : Bool) → clause_eq E C ≡ b → (C ≡ E) ⊎ IsIn C X → (IsIn C X → literals_in X ≡ length C + literals_in (one_less C X)) → length E + literals_in X ≡ length C + literals_in (cond b X (E ∷ one_less C X))
    go true q n ih = let e : E ≡ C = clause_eq-sound E C q in subst (λ y. length E + literals_in X ≡ length y + literals_in X) e refl
    go false q (inl e) ih = let z : clause_eq E C ≡ true = subst (λ y. clause_eq y C ≡ true) e (clause_eq-itself C) in grind arith
    go false q (inr n) ih = let i : literals_in X ≡ length C + literals_in (one_less C X) = ih n in grind arith

-- Justified steps that add no more than the checker takes are valid.
within : (F : PrenexFormula) (C : Clause) → IsFormula F → IsIn C F.matrix → Within F.prefix C
within F C f m k i = f.closed C m k i

sooner : (c x s m : ℕ) → x + (c + s) ≤ m → c + x + s ≤ m
sooner c x s m z = omega arith

part : (x s m : ℕ) → x + s ≤ m → x ≤ m
part x s m z = omega arith

fewer : (c x y s m : ℕ) → y ≡ c + x → y + (s - c) ≤ m → x + s ≤ m
fewer c x y s m e z = omega arith

shorter : (c d x y s m : ℕ) → y ≡ c + x → d ≤ c → y + s ≤ m → d + x + s ≤ m
shorter c d x y s m e g z = omega arith

longer : (C : Clause) (X : Matrix) (s m : ℕ) → length X + (1 + s) ≤ m → length (C ∷ X) + s ≤ m
longer C X s m z = let e : 1 + length X + s ≤ m = sooner 1 (length X) s m z in grind arith

as_long : (C D : Clause) (X : Matrix) (s m : ℕ) → IsIn C X → length X + s ≤ m → length (D ∷ one_less C X) + s ≤ m
as_long C D X s m i z = let e : length X ≡ 1 + length (one_less C X) = length-one_less C X i in grind arith

pub reaches-valid : (F : PrenexFormula) (ss : List ProofStep) (G : PrenexFormula) → IsFormula F → Reaches F ss G
    → length F.matrix + rise one ss ≤ 4 * standard.clauses → literals_in F.matrix + rise length ss ≤ 4 * standard.lits → FreshUpTo standard.vars ss
    → (E : PrenexFormula) × ValidSteps standard F ss E × Alike E G
reaches-valid F [] G f r a b v = (F, refl, r)
reaches-valid F (add p C ∷ ss) G f (h, r) a b v =
    let k : length (C ∷ F.matrix) + rise one ss ≤ 4 * standard.clauses = longer C F.matrix (rise one ss) (4 * standard.clauses) a in
    let l : length C + literals_in F.matrix + rise length ss ≤ 4 * standard.lits = sooner (length C) (literals_in F.matrix) (rise length ss) (4 * standard.lits) b in
    let i : (E : PrenexFormula) × ValidSteps standard (after F (add p C)) ss E × Alike E G = reaches-valid (after F (add p C)) ss G (after-formula F (add p C) f h) r k l v in
    (i.0, ((h.0, h.1, record { clauses = part (length (C ∷ F.matrix)) (rise one ss) (4 * standard.clauses) k; lits = part (length C + literals_in F.matrix) (rise length ss) (4 * standard.lits) l }), i.1), i.2)
reaches-valid F (delete p C ∷ ss) G f (h, r) a b v =
    let i : (E : PrenexFormula) × ValidSteps standard (after F (delete p C)) ss E × Alike E G = reaches-valid (after F (delete p C)) ss G (after-formula F (delete p C) f h) r
    (fewer 1 (length (one_less C F.matrix)) (length F.matrix) (rise one ss) (4 * standard.clauses) (length-one_less C F.matrix h.0) a)
    (fewer (length C) (literals_in (one_less C F.matrix)) (literals_in F.matrix) (rise length ss) (4 * standard.lits) (literals-one_less C F.matrix h.0) b) v in
    (i.0, ((within F C f h.0, h.0, h.1), i.1), i.2)
reaches-valid F (drop_literal l C ∷ ss) G f (h, r) a b v =
    let i : (E : PrenexFormula) × ValidSteps standard (after F (drop_literal l C)) ss E × Alike E G = reaches-valid (after F (drop_literal l C)) ss G (after-formula F (drop_literal l C) f h) r
    (as_long C (without l C) F.matrix (rise one ss) (4 * standard.clauses) h.0 a)
    (shorter (length C) (length (without l C)) (literals_in (one_less C F.matrix)) (literals_in F.matrix) (rise length ss) (4 * standard.lits) (literals-one_less C F.matrix h.0) (without-shorter l C) b) v in
    (i.0, ((within F C f h.0, h.0, h.1), i.1), i.2)
reaches-valid F (fresh x w ∷ ss) G f (h, r) a b v =
    let i : (E : PrenexFormula) × ValidSteps standard (after F (fresh x w)) ss E × Alike E G = reaches-valid (after F (fresh x w)) ss G (after-formula F (fresh x w) f h) r a b v.2 in
    (i.0, (record { absent = h.0; positive = v.0; within = v.1; behind = h.1 }, i.1), i.2)
reaches-valid F (remove_variable x ∷ ss) G f (h, r) a b v =
    let i : (E : PrenexFormula) × ValidSteps standard (after F (remove_variable x)) ss E × Alike E G = reaches-valid (after F (remove_variable x)) ss G (after-formula F (remove_variable x) f h) r a b v in
    (i.0, (h, i.1), i.2)

-- From a formula within the limits, steps that add at most three times the limits are a run.
pub way-run : (F G : PrenexFormula) → IsFormula F → length F.matrix ≤ standard.clauses → literals_in F.matrix ≤ standard.lits → Way (3 * standard.clauses) (3 * standard.lits) F G → (ss : List ProofStep) × Run F ss G
way-run F G f c l (ss, r, m) = (ss, record { last = i.0; steps = i.1; same = record { same_blocks = subst (λ Q. SameBlocks (blocks i.0.prefix) (blocks Q)) i.2.0 (SameBlocks-refl (blocks i.0.prefix)); same_clauses = i.2.1 } })
  where
    four : (x s n : ℕ) → x ≤ n → s ≤ 3 * n → x + s ≤ 4 * n
    four x s n a b = omega arith

    i : (E : PrenexFormula) × ValidSteps standard F ss E × Alike E G
    i = reaches-valid F ss G f r (four (length F.matrix) (rise one ss) standard.clauses c m.clauses) (four (literals_in F.matrix) (rise length ss) standard.lits l m.lits) m.variables
