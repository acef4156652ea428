-- A derivation of the empty line under its own circuits: the end holds.
use Rattle.std.proofs.Common.{◌≡◌, ℕ, zero, suc, ◌<◌, Bool, true, false, cond, eqb, not, List, [], ◌∷◌, ◌⊎◌, ◌||◌, inl, inr, arith, refl, sym, ap, ◌∙◌, subst, slice_get, Some, None}
use Rattle.q_logic.specs.Prelude.{Literal, negation, Prefix, Matrix, IsIn, is_existential, is_universal, is_bound, universal_before, Distinct, Assignment, LiteralTrue, literal_true, signed, has, PrenexFormula, IsFormula, Holds, SkolemOf, value_of, Reads, Strategy, Lawful, circuit_of, or_input, given, outcome}
use Rattle.q_logic.specs.Prefixes.{place}
use Rattle.q_logic.specs.Truth.{MatrixTrue, ClauseTrue}
use Rattle.q_logic.specs.Sets.{IsTautology}
use Rattle.q_logic.proofs.ClauseLemmas.{value_of-literal_circuit, circuit_of-none, IsIn-append, has-IsIn, IsIn-has}
use Rattle.q_logic.proofs.PrefixOrder.{existential-is_bound, is_bound-universal}
use Rattle.q_logic.proofs.Lists.{IsIn-slice_get}
use Rattle.q_logic.proofs.Truth.{skolem_makes-true}
use Rattle.q_derive.specs.Derivations.{TermTrue, Line, Reason, leaf, resolve, reduce, IsBefore, IsRest, IsTaken, Follows, IsDerivation, IsAnyDerivation, HasEmpty, IsHitting, IsTermProof}
use Rattle.q_derive.specs.Extracted.{Drop, literals_of, drops_to, drops_by, drops_in, drops, decision, circuits_by, circuits_of, IsBehind, AreBehind}
use Rattle.q_derive.proofs.Deciding.{term_true-sound, term_true-complete, SomeTrue, first-says, AllRight, decided-value, ReadBy, Reads-decided}
use Rattle.q_derive.proofs.Layers.{place-bound, place-before, before-further, all-given, StandsAt, all-at}

-- Which lines may stand by themselves does not matter to the circuits.
any-follows : (P : Prefix) (L : List Literal → Type 0) (lines : List Line) (n : ℕ) (T : List Literal) (r : Reason) →
    Follows P L lines n T r → Follows P (λ S. Unit {0}) lines n T r
any-follows P L lines n T leaf f = tt
any-follows P L lines n T (resolve i j k) f = f
any-follows P L lines n T (reduce i) f = f

pub any-derivation : (P : Prefix) (L : List Literal → Type 0) (lines : List Line) → IsDerivation P L lines →
    IsAnyDerivation P lines
any-derivation P L lines d n line i = any-follows P L lines n line.literals line.reason (d n line i)

-- What is kept stands before what is taken away.
to-behind : (P : Prefix) (S T : List Literal) (d : Drop) → IsIn d (drops_to S T) →
    ((g : Literal) → IsIn g S → has g T ≡ false → (k : Literal) → IsIn k T → place P k.var < place P g.var) → IsBehind P d
to-behind P [] T d m f = elim m [ ]
to-behind P (j ∷ S) T d m f = go (has j T) refl m (λ i. to-behind P S T d i (λ g n. f g (inr n)))
  where
    go : (b : Bool) → has j T ≡ b → IsIn d (cond b (drops_to S T) (record { literal = j; kept = T } ∷ drops_to S T)) →
        (IsIn d (drops_to S T) → IsBehind P d) → IsBehind P d
    go true p i ih = ih i
    go false p (inl e) ih = subst (IsBehind P) (sym e) (f j (inl refl) p)
    go false p (inr i) ih = ih i

by-behind : (P : Prefix) (lines : List Line) (n : ℕ) (T : List Literal) (r : Reason) →
    Follows P (λ S. Unit {0}) lines n T r → (d : Drop) → IsIn d (drops_by lines T r) → IsBehind P d
by-behind P lines n T leaf f d m = elim m [ ]
by-behind P lines n T (resolve i j l) f d m = elim m [ ]
by-behind P lines n T (reduce i) (S, b, red) d m = to-behind P (literals_of (slice_get lines i)) T d m all
  where
    same : literals_of (slice_get lines i) ≡ S
    same = ap literals_of b.2 ∙ b.3

    all : (g : Literal) → IsIn g (literals_of (slice_get lines i)) → has g T ≡ false → (k : Literal) → IsIn k T →
        place P k.var < place P g.var
    all g i h k j = go (red g (subst (IsIn g) same i))
      where
        go : IsIn g T ⊎ IsTaken P S T g → place P k.var < place P g.var
        go (inl q) = absurd (let z : has g T ≡ true = IsIn-has g T q in cc)
        go (inr t) = t.behind k j

in-behind : (P : Prefix) (lines last : List Line) →
    ((line : Line) → IsIn line last → (d : Drop) → IsIn d (drops_by lines line.literals line.reason) → IsBehind P d) →
    (d : Drop) → IsIn d (drops_in lines last) → IsBehind P d
in-behind P lines [] f d m = elim m [ ]
in-behind P lines (l ∷ last) f d m =
    elim (IsIn-append d (drops_by lines l.literals l.reason) (drops_in lines last) m) [
      | inl i ↦ f l (inl refl) d i
      | inr i ↦ in-behind P lines last (λ x n. f x (inr n)) d i
    ]

pub drops-behind : (P : Prefix) (lines : List Line) → IsAnyDerivation P lines → (d : Drop) → IsIn d (drops lines) → IsBehind P d
drops-behind P lines a = in-behind P lines lines each
  where
    each : (line : Line) → IsIn line lines → (d : Drop) → IsIn d (drops_by lines line.literals line.reason) → IsBehind P d
    each line m =
        let r = IsIn-slice_get lines line m in
        by-behind P lines r.0 line.literals line.reason (a r.0 line r.2)

kept-before : (P : Prefix) (ds : List Drop) → ((d : Drop) → IsIn d ds → IsBehind P d) → (d : Drop) → IsIn d ds →
    (x : ℕ) → eqb d.literal.var x ≡ true → (k : Literal) → IsIn k d.kept → place P k.var < place P x
kept-before P ds f d m x e k i =
    let s : d.literal.var ≡ x = grind arith in subst (λ v. place P k.var < place P v) s (f d m k i)

-- The circuits are lawful.
reads-before : (P : Prefix) (ds : List Drop) → Distinct P → AreBehind P ds → (n x : ℕ) → place P x < n →
    is_existential P x ≡ true → (u : ℕ) → Reads (circuit_of (circuits_by P ds) x) u →
    universal_before P u x ≡ true
reads-before P ds di a zero x l h u r = absurd (omega arith)
reads-before P ds di a (suc n) x l h u r =
    go (all-at ds P (λ y. None) x di h) (reads-before P ds di a n)
  where
    c : Strategy
    c = circuits_by P ds

    bound : is_bound P x ≡ true
    bound = existential-is_bound P x h

    through : (k : Literal) → place P k.var < place P x → Reads (circuit_of c k.var) u →
        ((y : ℕ) → place P y < n → is_existential P y ≡ true → (w : ℕ) → Reads (circuit_of c y) w →
        universal_before P w y ≡ true) → (b : Bool) → is_existential P k.var ≡ b → universal_before P u x ≡ true
    through k p q ih true e = before-further P u k.var x (ih k.var (omega arith) e u q) p bound
    through k p q ih false e =
        let g : given (c k.var) ≡ false = all-given ds P (λ y. None) k.var di ∙ (rw e refl) in
        let i : k.var ≡ u = subst (λ t. Reads t u) (circuit_of-none c k.var g) q in
        let b : is_universal P k.var ≡ true = is_bound-universal P k.var (place-bound P k.var x p) e in
        subst (λ v. universal_before P v x ≡ true) i (place-before P k.var x p bound b)

    go : (f : Strategy) × StandsAt ds P (λ y. None) x f → ((y : ℕ) → place P y < n → is_existential P y ≡ true →
        (w : ℕ) → Reads (circuit_of c y) w → universal_before P w y ≡ true) → universal_before P u x ≡ true
    go (f, s) ih = from (Reads-decided f x ds u (subst (λ o. Reads (or_input x o) u) s.0 r))
      where
        from : ReadBy f x ds u → universal_before P u x ≡ true
        from (d, m, e, (k, i, w)) =
            let p : place P k.var < place P x = kept-before P ds a d m x e k i in
            through k p (subst (λ o. Reads (or_input k.var o) u) (sym (s.1 k.var (inl p))) w) ih (is_existential P k.var) refl

pub lawful-by : (P : Prefix) (ds : List Drop) → Distinct P → AreBehind P ds → Lawful P (circuits_by P ds)
lawful-by P ds di a = record {
  trees = λ x. all-given ds P (λ y. None) x di ∙ right (is_existential P x);
  reads = λ x h u r. reads-before P ds di a (suc (place P x)) x (omega arith) h u r;
}
  where
    right : (b : Bool) → b || false ≡ b
    right true = refl
    right false = refl

pub derived-lawful : (P : Prefix) (lines : List Line) → Distinct P → IsAnyDerivation P lines →
    Lawful P (circuits_of P lines)
derived-lawful P lines di d = lawful-by P (drops lines) di (drops-behind P lines d)

-- Their values.
pub values-by : (P : Prefix) (ds : List Drop) (A : Assignment) (x : ℕ) → Distinct P → AreBehind P ds →
    is_existential P x ≡ true → outcome (circuits_by P ds) A x ≡ decision (outcome (circuits_by P ds) A) x ds
values-by P ds A x di a h = go (all-at ds P (λ y. None) x di h)
  where
    c : Strategy
    c = circuits_by P ds

    go : (f : Strategy) × StandsAt ds P (λ y. None) x f → outcome c A x ≡ decision (outcome c A) x ds
    go (f, s) = ap (λ o. value_of (or_input x o) A) s.0 ∙ decided-value f x A (outcome c A) ds values
      where
        values : AllRight f x A (outcome c A) ds
        values d m e k i =
            let p : place P k.var < place P x = kept-before P ds a d m x e k i in
            value_of-literal_circuit f A k ∙
            ap (λ o. signed k.negative (value_of (or_input k.var o) A)) (sym (s.1 k.var (inl p)))

pub derived-values : (P : Prefix) (lines : List Line) (A : Assignment) (x : ℕ) → Distinct P → IsAnyDerivation P lines →
    is_existential P x ≡ true →
    outcome (circuits_of P lines) A x ≡ decision (outcome (circuits_of P lines) A) x (drops lines)
derived-values P lines A x di d = values-by P (drops lines) A x di (drops-behind P lines d)

-- The first true line.
abbrev Earlier : List Line → Assignment → Type 0 → ℕ → Type 0
Earlier lines B W n = (i : ℕ) → i < n → (line : Line) → slice_get lines i ≡ Some line → TermTrue B line.literals → W

all-or : (B : Assignment) (W : Type 0) (S : List Literal) → ((g : Literal) → IsIn g S → LiteralTrue B g ⊎ W) →
    TermTrue B S ⊎ W
all-or B W [] f = inl (λ k m. elim m [ ])
all-or B W (j ∷ S) f = go (f j (inl refl)) (all-or B W S (λ g m. f g (inr m)))
  where
    first : LiteralTrue B j → TermTrue B S → TermTrue B (j ∷ S)
    first a t k (inl e) = subst (LiteralTrue B) (sym e) a
    first a t k (inr m) = t k m

    go : LiteralTrue B j ⊎ W → TermTrue B S ⊎ W → TermTrue B (j ∷ S) ⊎ W
    go (inr w) r = inr w
    go (inl a) (inr w) = inr w
    go (inl a) (inl t) = inl (first a t)

signed-other : (n b : Bool) → signed n b ≡ false → signed (not n) b ≡ true
signed-other true true h = refl
signed-other true false h = absurd (cc)
signed-other false true h = absurd (cc)
signed-other false false h = refl

signed-own : (n : Bool) → signed n (not n) ≡ true
signed-own true = refl
signed-own false = refl

line-true : (P : Prefix) (L : List Literal → Type 0) (lines : List Line) (B : Assignment) (W : Type 0) →
    ((T : List Literal) → L T → TermTrue B T → W) →
    ((x : ℕ) → is_existential P x ≡ true → B x ≡ decision B x (drops lines)) →
    (n : ℕ) → Earlier lines B W n → (line : Line) → slice_get lines n ≡ Some line → (r : Reason) → line.reason ≡ r →
    Follows P L lines n line.literals r → TermTrue B line.literals → W
line-true P L lines B W sound says n ih line at leaf e f t = sound line.literals f t
line-true P L lines B W sound says n ih line at (resolve i j k) e (S, U, b, d, rs, ru) t = go (literal_true B k) refl
  where
    parent : (m : ℕ) (V : List Literal) → IsBefore lines n m V → TermTrue B V → W
    parent m V (l, h, q, s) v = ih m h l q (subst (TermTrue B) (sym s) v)

    all : (V : List Literal) (q : Literal) → IsRest V q line.literals → LiteralTrue B q → TermTrue B V
    all V q r a x m = elim (r x m) [ inl s ↦ subst (LiteralTrue B) (sym s) a | inr o ↦ t x o ]

    go : (z : Bool) → literal_true B k ≡ z → W
    go true h = parent i S b (all S k rs h)
    go false h = parent j U d (all U (negation k) ru (signed-other k.negative (B k.var) h))
line-true P L lines B W sound says n ih line at (reduce i) e (S, (l, h, q, s), red) t =
    elim (all-or B W S one) [ inl v ↦ ih i h l q (subst (TermTrue B) (sym s) v) | inr w ↦ w ]
  where
    T : List Literal
    T = line.literals

    same : literals_of (slice_get lines i) ≡ S
    same = ap literals_of q ∙ s

    absent : (g : Literal) → IsTaken P S T g → has g T ≡ false
    absent g k = go (has g T) refl
      where
        go : (b : Bool) → has g T ≡ b → has g T ≡ false
        go true p = absurd (let z : place P g.var < place P g.var = k.behind g (has-IsIn g T p) in omega arith)
        go false p = p

    one : (g : Literal) → IsIn g S → LiteralTrue B g ⊎ W
    one g m = elim (red g m) [ inl o ↦ inl (t g o) | inr k ↦ taken k ]
      where
        decides : IsTaken P S T g → SomeTrue B lines n ⊎ (decision B g.var (drops lines) ≡ not g.negative) → LiteralTrue B g ⊎ W
        decides tk (inl (m, lt, x, y, z)) = inr (ih m lt x y (term_true-sound B x.literals z))
        decides tk (inr z) = inl (ap (signed g.negative) (says g.var tk.owned ∙ z) ∙ signed-own g.negative)

        taken : IsTaken P S T g → LiteralTrue B g ⊎ W
        taken tk =
            decides tk (first-says lines B lines n line i g at e (term_true-complete B T t)
            (subst (IsIn g) (sym same) m) (absent g tk) (λ x. tk.alone (subst (IsIn (negation g)) same x)))

true-lines : (P : Prefix) (L : List Literal → Type 0) (lines : List Line) (B : Assignment) (W : Type 0) →
    ((T : List Literal) → L T → TermTrue B T → W) →
    ((x : ℕ) → is_existential P x ≡ true → B x ≡ decision B x (drops lines)) → IsDerivation P L lines →
    (n : ℕ) → Earlier lines B W n
true-lines P L lines B W sound says d zero i h line at t = absurd (omega arith)
true-lines P L lines B W sound says d (suc n) i h line at t =
    line-true P L lines B W sound says i
    (λ j lt. true-lines P L lines B W sound says d n j (omega arith)) line at line.reason refl (d i line at) t

-- An empty line is true whatever the values are, so the end holds under the circuits of its derivation.
pub derivation-wins : (P : Prefix) (L : List Literal → Type 0) (lines : List Line) (A : Assignment) (W : Type 0) →
    Distinct P → IsDerivation P L lines → HasEmpty lines →
    ((T : List Literal) → L T → TermTrue (outcome (circuits_of P lines) A) T → W) → W
derivation-wins P L lines A W ds d (n, line, at, e) sound =
    true-lines P L lines (outcome (circuits_of P lines) A) W sound
    (λ x. derived-values P lines A x ds (any-derivation P L lines d)) d (suc n) n (omega arith) line at
    (subst (TermTrue (outcome (circuits_of P lines) A)) (sym e) (λ k m. elim m [ ]))

pub hitting-true : (X : Matrix) (B : Assignment) (T : List Literal) → IsHitting X T → TermTrue B T → MatrixTrue B X
hitting-true X B T h t D m = elim (h D m) [ inl w ↦ always w | inr r ↦ (r.0, r.1, t r.0 r.2) ]
  where
    always : IsTautology D → ClauseTrue B D
    always (k, i, j) = go (literal_true B k) refl
      where
        go : (b : Bool) → literal_true B k ≡ b → ClauseTrue B D
        go true e = (k, i, e)
        go false e = (negation k, j, signed-other k.negative (B k.var) e)

pub proof-skolem : (F : PrenexFormula) (lines : List Line) → IsFormula F → IsTermProof F lines →
    SkolemOf F (circuits_of F.prefix lines)
proof-skolem F lines f p = record {
  lawful = derived-lawful F.prefix lines f.distinct (any-derivation F.prefix (IsHitting F.matrix) lines p.follows);
  wins = λ A. derivation-wins F.prefix (IsHitting F.matrix) lines A (MatrixTrue (outcome (circuits_of F.prefix lines) A) F.matrix)
      f.distinct p.follows p.ends (hitting-true F.matrix (outcome (circuits_of F.prefix lines) A));
}

pub proof-holds : (F : PrenexFormula) (lines : List Line) → IsFormula F → IsTermProof F lines → Holds F
proof-holds F lines f p =
    skolem_makes-true F.prefix f.distinct F.matrix (circuits_of F.prefix lines) (proof-skolem F lines f p)
