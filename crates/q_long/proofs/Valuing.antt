-- What the lines of a long-distance derivation say of the owner's variables.
use Rattle.std.proofs.Common.{◌≡◌, ℕ, zero, suc, ◌<◌, Bool, true, false, cond, not, ◌&&◌, ◌||◌, List, ◌⊎◌, inl, inr, arith, refl, sym, ap, ap₂, ◌∙◌, subst, slice_get, Option, Some, None}
use Rattle.q_logic.specs.Prelude.{Literal, negation, Prefix, IsIn, is_existential, is_universal, universal_before, has, Circuit, constant, choice, Reads}
use Rattle.q_logic.specs.Prefixes.{place}
use Rattle.q_logic.proofs.ClauseLemmas.{literal_eq-sound, has-IsIn, IsIn-has}
use Rattle.q_logic.proofs.PrefixOrder.{existential-is_bound, universal-not_existential}
use Rattle.q_derive.specs.Derivations.{Line, Reason, leaf, resolve, reduce, IsBefore, IsRest}
use Rattle.q_derive.specs.Extracted.{literals_of}
use Rattle.q_derive.proofs.Layers.{place-before}
use Rattle.q_derive.proofs.Deciding.{same-or_turned}
use Rattle.q_long.specs.Valued.{picked}
use Rattle.q_derive.specs.Traces.{MayMerge}
use Rattle.q_long.specs.Distant.{IsReduced, Follows, IsLongDerivation, positive, negative, holds, clash, plain, merged, said_by, said_at, said_within, said}

-- literals by their variables
pub as-positive : (k : Literal) → k.negative ≡ false → k ≡ positive k.var
as-positive k e = literal_eq-sound k (positive k.var) (grind arith)

pub as-negative : (k : Literal) → k.negative ≡ true → k ≡ negative k.var
as-negative k e = literal_eq-sound k (negative k.var) (grind arith)

pub in-holds : (k : Literal) (T : List Literal) → IsIn k T → holds k.var T ≡ true
in-holds k T m = go k.negative refl
  where
    go : (n : Bool) → k.negative ≡ n → holds k.var T ≡ true
    go false e = let z : has (positive k.var) T ≡ true = IsIn-has (positive k.var) T (subst (λ (x : Literal). IsIn x T) (as-positive k e) m) in rw z refl
    go true e = let z : has (negative k.var) T ≡ true = IsIn-has (negative k.var) T (subst (λ (x : Literal). IsIn x T) (as-negative k e) m) in right (has (positive k.var) T) z
      where
        right : (b : Bool) → has (negative k.var) T ≡ true → b || has (negative k.var) T ≡ true
        right true z = refl
        right false z = z

pub holds-in : (x : ℕ) (T : List Literal) → holds x T ≡ true → (k : Literal) × IsIn k T × (k.var ≡ x)
holds-in x T h = go (has (positive x) T) refl (has (negative x) T) refl h
  where
    go : (a : Bool) → has (positive x) T ≡ a → (b : Bool) → has (negative x) T ≡ b → a || b ≡ true → (k : Literal) × IsIn k T × (k.var ≡ x)
    go true p b q h = (positive x, has-IsIn (positive x) T p, refl)
    go false p true q h = (negative x, has-IsIn (negative x) T q, refl)
    go false p false q h = absurd (cc)

pub clash-in : (x : ℕ) (S U : List Literal) → clash x S U ≡ true → (g : Literal) × IsIn g S × IsIn (negation g) U × (g.var ≡ x)
clash-in x S U h = go (has (positive x) S) refl (has (negative x) U) refl (has (negative x) S) refl (has (positive x) U) refl h
  where
    one : has (positive x) S ≡ true → has (negative x) U ≡ true → (g : Literal) × IsIn g S × IsIn (negation g) U × (g.var ≡ x)
    one p q = (positive x, has-IsIn (positive x) S p, has-IsIn (negative x) U q, refl)

    two : has (negative x) S ≡ true → has (positive x) U ≡ true → (g : Literal) × IsIn g S × IsIn (negation g) U × (g.var ≡ x)
    two p q = (negative x, has-IsIn (negative x) S p, has-IsIn (positive x) U q, refl)

    go : (a : Bool) → has (positive x) S ≡ a → (b : Bool) → has (negative x) U ≡ b → (c : Bool) → has (negative x) S ≡ c → (d : Bool) → has (positive x) U ≡ d →
        a && b || c && d ≡ true → (g : Literal) × IsIn g S × IsIn (negation g) U × (g.var ≡ x)
    go true p true q c r d s h = one p q
    go true p false q true r true s h = two r s
    go true p false q true r false s h = absurd (cc)
    go true p false q false r d s h = absurd (cc)
    go false p b q true r true s h = two r s
    go false p b q true r false s h = absurd (cc)
    go false p b q false r d s h = absurd (cc)

pub in-clash : (g : Literal) (S U : List Literal) → IsIn g S → IsIn (negation g) U → clash g.var S U ≡ true
in-clash g S U m w = go g.negative refl
  where
    right : (b : Bool) → b || true ≡ true
    right true = refl
    right false = refl

    go : (n : Bool) → g.negative ≡ n → clash g.var S U ≡ true
    go false e =
        let a : has (positive g.var) S ≡ true = IsIn-has (positive g.var) S (subst (λ (x : Literal). IsIn x S) (as-positive g e) m) in
        let b : has (negative g.var) U ≡ true = IsIn-has (negative g.var) U (subst (λ (x : Literal). IsIn x U) (as-negative (negation g) (ap not e)) w) in
        rw (a, b) refl
    go true e =
        let a : has (negative g.var) S ≡ true = IsIn-has (negative g.var) S (subst (λ (x : Literal). IsIn x S) (as-negative g e) m) in
        let b : has (positive g.var) U ≡ true = IsIn-has (positive g.var) U (subst (λ (x : Literal). IsIn x U) (as-positive (negation g) (ap not e)) w) in
        rw (a, b) (right (has (positive g.var) S && has (negative g.var) U))

-- No more lines stand above one another than there are before.
said-same : (P : Prefix) (L : List Literal → Type 0) (lines : List Line) → IsLongDerivation P L lines → (a b n x : ℕ) → n < a → n < b →
    said_within lines a n x ≡ said_within lines b n x
said-same P L lines d zero b n x h l = absurd (omega arith)
said-same P L lines d (suc a) zero n x h l = absurd (omega arith)
said-same P L lines d (suc a) (suc b) n x h l =
    at (λ i lt. said-same P L lines d a b i x (omega arith) (omega arith)) (slice_get lines n) refl
  where
    by : ((i : ℕ) → i < n → said_within lines a i x ≡ said_within lines b i x) → (T : List Literal) (r : Reason) → Follows P L lines n T r →
        said_by lines (said_within lines a) x T r ≡ said_by lines (said_within lines b) x T r
    by both T leaf f = refl
    by both T (resolve i j k) (S, U, p, q, ku, rs, ru, mm) =
        ap₂ (λ (s t : Circuit). merged k x (literals_of (slice_get lines i)) (literals_of (slice_get lines j)) T s t) (both i p.1) (both j q.1)
    by both T (reduce i) (S, p, f) = ap (λ (s : Circuit). cond (holds x (literals_of (slice_get lines i))) s (plain x T)) (both i p.1)

    at : ((i : ℕ) → i < n → said_within lines a i x ≡ said_within lines b i x) → (o : Option Line) → slice_get lines n ≡ o →
        said_at lines (said_within lines a) x o ≡ said_at lines (said_within lines b) x o
    at both None e = refl
    at both (Some line) e = by both line.literals line.reason (d n line e)

-- what a line says, by its reason
pub said-is : (P : Prefix) (L : List Literal → Type 0) (lines : List Line) → IsLongDerivation P L lines → (n : ℕ) (line : Line) (x : ℕ) →
    slice_get lines n ≡ Some line → (r : Reason) → line.reason ≡ r → said lines n x ≡ said_by lines (said lines) x line.literals r
said-is P L lines d n line x at r e =
    ap (said_at lines (said_within lines n) x) at ∙ ap (said_by lines (said_within lines n) x line.literals) e ∙ by r (subst (Follows P L lines n line.literals) e (d n line at))
  where
    both : (i : ℕ) → i < n → said_within lines n i x ≡ said lines i x
    both i lt = said-same P L lines d n (suc i) i x lt (omega arith)

    by : (r : Reason) → Follows P L lines n line.literals r → said_by lines (said_within lines n) x line.literals r ≡ said_by lines (said lines) x line.literals r
    by leaf f = refl
    by (resolve i j k) (S, U, p, q, ku, rs, ru, mm) =
        ap₂ (λ (s t : Circuit). merged k x (literals_of (slice_get lines i)) (literals_of (slice_get lines j)) line.literals s t) (both i p.1) (both j q.1)
    by (reduce i) (S, p, f) = ap (λ (s : Circuit). cond (holds x (literals_of (slice_get lines i))) s (plain x line.literals)) (both i p.1)

-- the same with the literals of the parents
pub said-two : (P : Prefix) (L : List Literal → Type 0) (lines : List Line) → IsLongDerivation P L lines → (n : ℕ) (line : Line) (x : ℕ) →
    slice_get lines n ≡ Some line → (i j : ℕ) (k : Literal) → line.reason ≡ resolve i j k → (S U : List Literal) → IsBefore lines n i S → IsBefore lines n j U →
    said lines n x ≡ merged k x S U line.literals (said lines i x) (said lines j x)
said-two P L lines d n line x at i j k e S U p q =
    said-is P L lines d n line x at (resolve i j k) e ∙
    ap₂ (λ (A B : List Literal). merged k x A B line.literals (said lines i x) (said lines j x)) (ap literals_of p.2 ∙ p.3) (ap literals_of q.2 ∙ q.3)

pub said-one : (P : Prefix) (L : List Literal → Type 0) (lines : List Line) → IsLongDerivation P L lines → (n : ℕ) (line : Line) (x : ℕ) →
    slice_get lines n ≡ Some line → (i : ℕ) → line.reason ≡ reduce i → (S : List Literal) → IsBefore lines n i S →
    said lines n x ≡ cond (holds x S) (said lines i x) (plain x line.literals)
said-one P L lines d n line x at i e S p =
    said-is P L lines d n line x at (reduce i) e ∙
    ap (λ (A : List Literal). cond (holds x A) (said lines i x) (plain x line.literals)) (ap literals_of p.2 ∙ p.3)

-- the owner's literals of a parent are no pivot
pub other-pivot : (P : Prefix) (g k : Literal) → is_existential P g.var ≡ true → is_universal P k.var ≡ true → g ≡ k → ⊥
other-pivot P g k e u s =
    let z : is_existential P k.var ≡ false = universal-not_existential P k.var u in
    let y : is_existential P k.var ≡ true = subst (λ (x : Literal). is_existential P x.var ≡ true) s e in cc

pub stays : (P : Prefix) (S T : List Literal) (k g : Literal) → IsRest S k T → is_universal P k.var ≡ true → is_existential P g.var ≡ true → IsIn g S → IsIn g T
stays P S T k g r u e m = elim (r g m) [ inl s ↦ absurd (other-pivot P g k e u s) | inr o ↦ o ]

-- Of a variable of which a line holds one sign it says what makes the literal true.
abbrev pub IsSingle : List Literal → Literal → Type 0
IsSingle T g = IsIn g T × (IsIn (negation g) T → ⊥)

plain-single : (T : List Literal) (g : Literal) → IsSingle T g → plain g.var T ≡ constant (not g.negative)
plain-single T g (m, n) = ap constant (go g.negative refl)
  where
    go : (b : Bool) → g.negative ≡ b → has (positive g.var) T ≡ not g.negative
    go false e = IsIn-has (positive g.var) T (subst (λ (x : Literal). IsIn x T) (as-positive g e) m) ∙ sym (ap not e)
    go true e = no (has (positive g.var) T) refl ∙ sym (ap not e)
      where
        no : (b : Bool) → has (positive g.var) T ≡ b → b ≡ false
        no false q = refl
        no true q = absurd (n (subst (λ (x : Literal). IsIn x T) (sym (as-positive (negation g) (ap not e))) (has-IsIn (positive g.var) T q)))

-- the sign that a part of the line holds is the line's
single-of : (S T : List Literal) (g : Literal) → IsSingle T g → ((h : Literal) → IsIn h S → h.var ≡ g.var → IsIn h T) → holds g.var S ≡ true → IsSingle S g
single-of S T g (m, n) w h = go (holds-in g.var S h)
  where
    other : IsIn (negation g) S → ⊥
    other i = n (w (negation g) i refl)

    go : (k : Literal) × IsIn k S × (k.var ≡ g.var) → IsSingle S g
    go (k, i, e) = elim (same-or_turned k g e) [
      | inl s ↦ (subst (λ (x : Literal). IsIn x S) s i, other)
      | inr s ↦ absurd (other (subst (λ (x : Literal). IsIn x S) s i))
    ]

no-clash : (S U T : List Literal) (g : Literal) → IsSingle T g → ((h : Literal) → IsIn h S → h.var ≡ g.var → IsIn h T) →
    ((h : Literal) → IsIn h U → h.var ≡ g.var → IsIn h T) → clash g.var S U ≡ false
no-clash S U T g (m, n) s u = go (clash g.var S U) refl
  where
    go : (b : Bool) → clash g.var S U ≡ b → b ≡ false
    go false e = refl
    go true e =
        let r = clash-in g.var S U e in
        elim (same-or_turned r.0 g r.3) [
          | inl q ↦ absurd (n (u (negation g) (subst (λ (x : Literal). IsIn (negation x) U) q r.2) refl))
          | inr q ↦ absurd (n (s (negation g) (subst (λ (x : Literal). IsIn x S) q r.1) refl))
        ]

abbrev SingleBefore : List Line → ℕ → Literal → Type 0
SingleBefore lines n g =
    (i : ℕ) → (x : Line) → i < n → slice_get lines i ≡ Some x → IsSingle x.literals g → said lines i g.var ≡ constant (not g.negative)

pub said-single : (P : Prefix) (L : List Literal → Type 0) (lines : List Line) → IsLongDerivation P L lines → (m n : ℕ) (line : Line) (g : Literal) → n < m →
    slice_get lines n ≡ Some line → is_existential P g.var ≡ true → IsSingle line.literals g → said lines n g.var ≡ constant (not g.negative)
said-single P L lines d zero n line g l at e s = absurd (omega arith)
said-single P L lines d (suc m) n line g l at e s =
    by (λ i x lt p w. said-single P L lines d m i x g (omega arith) p e w) line.reason refl (d n line at)
  where
    T : List Literal
    T = line.literals

    before : SingleBefore lines n g → (i : ℕ) (S : List Literal) → IsBefore lines n i S → IsSingle S g → said lines i g.var ≡ constant (not g.negative)
    before ih i S (x, lt, p, q) w = ih i x lt p (subst (λ (A : List Literal). IsSingle A g) (sym q) w)

    two : SingleBefore lines n g → (i j : ℕ) (k : Literal) (S U : List Literal) → IsBefore lines n i S → IsBefore lines n j U → ((h : Literal) → IsIn h S → h.var ≡ g.var → IsIn h T) →
        ((h : Literal) → IsIn h U → h.var ≡ g.var → IsIn h T) → (a b : Bool) → holds g.var S ≡ a → holds g.var U ≡ b →
        cond a (cond (clash g.var S U) (picked k (said lines i g.var) (said lines j g.var)) (said lines i g.var)) (cond b (said lines j g.var) (plain g.var T)) ≡ constant (not g.negative)
    two ih i j k S U p q ws wu true b ea eb = let c = no-clash S U T g s ws wu in rw c (before ih i S p (single-of S T g s ws ea))
    two ih i j k S U p q ws wu false true ea eb = before ih j U q (single-of U T g s wu eb)
    two ih i j k S U p q ws wu false false ea eb = plain-single T g s

    one : SingleBefore lines n g → (i : ℕ) (S : List Literal) → IsBefore lines n i S → IsReduced P S T → (a : Bool) → holds g.var S ≡ a →
        cond a (said lines i g.var) (plain g.var T) ≡ constant (not g.negative)
    one ih i S p red true ea = before ih i S p (single-of S T g s here ea)
      where
        here : (h : Literal) → IsIn h S → h.var ≡ g.var → IsIn h T
        here h w q = elim (red h w) [
          | inl o ↦ o
          | inr t ↦ absurd (let z : place P g.var < place P h.var = t.behind g s.0 in let y : place P h.var ≡ place P g.var = ap (place P) q in omega arith)
        ]
    one ih i S p red false ea = plain-single T g s

    by : SingleBefore lines n g → (r : Reason) → line.reason ≡ r → Follows P L lines n T r → said lines n g.var ≡ constant (not g.negative)
    by ih leaf q f = said-is P L lines d n line g.var at leaf q ∙ plain-single T g s
    by ih (resolve i j k) q (S, U, p, w, u, rs, ru, mm) =
        said-two P L lines d n line g.var at i j k q S U p w ∙
        two ih i j k S U p w
        (λ h i v. stays P S T k h rs u (subst (λ y. is_existential P y ≡ true) (sym v) e) i)
        (λ h i v. stays P U T (negation k) h ru u (subst (λ y. is_existential P y ≡ true) (sym v) e) i)
        (holds g.var S) (holds g.var U) refl refl
    by ih (reduce i) q (S, p, red) = said-one P L lines d n line g.var at i q S p ∙ one ih i S p red (holds g.var S) refl

-- What a line says of a variable reads only pivots before it.
Reads-choice : (v : ℕ) (s t : Circuit) (u : ℕ) → Reads (choice v s t) u → (v ≡ u) ⊎ (Reads s u ⊎ Reads t u)
Reads-choice v s t u (inl (inl r)) = inl r
Reads-choice v s t u (inl (inr r)) = inr (inl r)
Reads-choice v s t u (inr (inl r)) = inl r
Reads-choice v s t u (inr (inr r)) = inr (inr r)

pub Reads-picked : (k : Literal) (s t : Circuit) (u : ℕ) → Reads (picked k s t) u → (k.var ≡ u) ⊎ (Reads s u ⊎ Reads t u)
Reads-picked k s t u r = go k.negative r
  where
    turn : Reads t u ⊎ Reads s u → Reads s u ⊎ Reads t u
    turn (inl a) = inr a
    turn (inr a) = inl a

    go : (n : Bool) → Reads (cond n (choice k.var t s) (choice k.var s t)) u → (k.var ≡ u) ⊎ (Reads s u ⊎ Reads t u)
    go true h = elim (Reads-choice k.var t s u h) [ inl a ↦ inl a | inr a ↦ inr (turn a) ]
    go false h = Reads-choice k.var s t u h

abbrev LocalBefore : Prefix → List Line → ℕ → ℕ → ℕ → Type 0
LocalBefore P lines n x u =
    (i : ℕ) → (y : Line) → i < n → slice_get lines i ≡ Some y → Reads (said lines i x) u → universal_before P u x ≡ true

pub said-local : (P : Prefix) (L : List Literal → Type 0) (lines : List Line) → IsLongDerivation P L lines → (m n : ℕ) (line : Line) (x : ℕ) → n < m →
    slice_get lines n ≡ Some line → is_existential P x ≡ true → (u : ℕ) → Reads (said lines n x) u → universal_before P u x ≡ true
said-local P L lines d zero n line x l at e u h = absurd (omega arith)
said-local P L lines d (suc m) n line x l at e u h =
    by (λ i y lt p w. said-local P L lines d m i y x (omega arith) p e u w) line.reason refl (d n line at)
  where
    T : List Literal
    T = line.literals

    before : LocalBefore P lines n x u → (i : ℕ) (S : List Literal) → IsBefore lines n i S → Reads (said lines i x) u → universal_before P u x ≡ true
    before ih i S (y, lt, p, q) w = ih i y lt p w

    two : LocalBefore P lines n x u → (i j : ℕ) (k : Literal) (S U : List Literal) → IsBefore lines n i S → IsBefore lines n j U → is_universal P k.var ≡ true → MayMerge P S U k →
        (a b c : Bool) → clash x S U ≡ c →
        Reads (cond a (cond c (picked k (said lines i x) (said lines j x)) (said lines i x)) (cond b (said lines j x) (plain x T))) u → universal_before P u x ≡ true
    two ih i j k S U p q ku mm true b true ec r =
        let w = clash-in x S U ec in
        let y : place P k.var < place P x = subst (λ z. place P k.var < place P z) w.3 (mm w.0 w.1 w.2 (subst (λ z. is_existential P z ≡ true) (sym w.3) e)) in
        elim (Reads-picked k (said lines i x) (said lines j x) u r) [
          | inl s ↦ subst (λ z. universal_before P z x ≡ true) s (place-before P k.var x y (existential-is_bound P x e) ku)
          | inr s ↦ elim s [ inl t ↦ before ih i S p t | inr t ↦ before ih j U q t ]
        ]
    two ih i j k S U p q ku mm true b false ec r = before ih i S p r
    two ih i j k S U p q ku mm false true c ec r = before ih j U q r
    two ih i j k S U p q ku mm false false c ec r = absurd r

    one : LocalBefore P lines n x u → (i : ℕ) (S : List Literal) → IsBefore lines n i S → (a : Bool) → Reads (cond a (said lines i x) (plain x T)) u → universal_before P u x ≡ true
    one ih i S p true r = before ih i S p r
    one ih i S p false r = absurd r

    by : LocalBefore P lines n x u → (r : Reason) → line.reason ≡ r → Follows P L lines n T r → universal_before P u x ≡ true
    by ih leaf q f = absurd (subst (λ (t : Circuit). Reads t u) (said-is P L lines d n line x at leaf q) h)
    by ih (resolve i j k) q (S, U, p, w, ku, rs, ru, mm) =
        two ih i j k S U p w ku mm (holds x S) (holds x U) (clash x S U) refl
        (subst (λ (t : Circuit). Reads t u) (said-two P L lines d n line x at i j k q S U p w) h)
    by ih (reduce i) q (S, p, red) = one ih i S p (holds x S) (subst (λ (t : Circuit). Reads t u) (said-one P L lines d n line x at i q S p) h)
