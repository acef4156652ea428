-- A derivation, some lines further.
use Rattle.std.proofs.Common.{◌≡◌, ℕ, zero, suc, ◌+◌, ◌<◌, Bool, true, false, cond, not, ◌&&◌, ◌||◌, eqb, List, [], ◌∷◌, ◌++◌, length, map, ◌⊎◌, inl, inr, arith, refl, sym, ap, ap₂, ◌∙◌, subst, slice_get, Option, Some, None}
use Rattle.std.proofs.lemmas.List.{append_assoc, append-nil, length_push}
use Rattle.std.specs.Option.{option_map}
use Rattle.std.proofs.lemmas.Option.{slice_get_within, slice_get-map}
use Rattle.q_logic.specs.Prelude.{Literal, negation, literal_eq, bool_eq, Prefix, IsIn, is_existential, has}
use Rattle.q_logic.specs.Pivots.{without}
use Rattle.q_logic.specs.Prefixes.{place}
use Rattle.q_logic.proofs.Common.{slice_get-append, IsIn-append, IsIn-append_left, IsIn-append_right, has-IsIn, IsIn-has, literal_eq-sound, IsIn-without}
use Rattle.q_logic.proofs.Lists.{IsIn-slice_get}
use Rattle.q_derive.specs.Derivations.{Line, Reason, leaf, resolve, reduce, IsBefore, IsRest, IsReduced, Follows, IsDerivation}
use Rattle.q_derive.specs.Extracted.{Drop, literals_of, drops_to, drops_by, drops_in, drops, drops_of, turned_all, turned_reason, turned_line, turned, turned_drop}
use Rattle.q_derive.specs.Traces.{Parents, nothing, missing, single, double, IsParent, IsPivot, resolvent}

-- some line has these literals
abbrev pub HasLine : List Line → List Literal → Type 0
HasLine lines T = (i : ℕ) × (line : Line) × (slice_get lines i ≡ Some line) × (line.literals ≡ T)

-- a derivation, with what its lines take away
pub record IsDerived (P : Prefix) (L : List Literal → Type 0) (lines : List Line) (ds : List Drop) : Type 0 where
  pub derivation : IsDerivation P L lines
  pub same : drops lines ≡ ds

before-append : (lines xs : List Line) (n i : ℕ) (S : List Literal) → IsBefore lines n i S → IsBefore (lines ++ xs) n i S
before-append lines xs n i S (line, h, p, q) = (line, h, slice_get-append lines xs i line p, q)

follows-append : (P : Prefix) (L : List Literal → Type 0) (lines xs : List Line) (n : ℕ) (T : List Literal) (r : Reason) →
    Follows P L lines n T r → Follows P L (lines ++ xs) n T r
follows-append P L lines xs n T leaf f = f
follows-append P L lines xs n T (resolve i j k) (S, U, b, d, rs, ru) =
    (S, U, before-append lines xs n i S b, before-append lines xs n j U d, rs, ru)
follows-append P L lines xs n T (reduce i) (S, b, red) = (S, before-append lines xs n i S b, red)

by-append : (P : Prefix) (L : List Literal → Type 0) (lines xs : List Line) (n : ℕ) (T : List Literal) (r : Reason) →
    Follows P L lines n T r → drops_by (lines ++ xs) T r ≡ drops_by lines T r
by-append P L lines xs n T leaf f = refl
by-append P L lines xs n T (resolve i j k) f = refl
by-append P L lines xs n T (reduce i) (S, (line, h, p, q), red) =
    ap (λ o. drops_to (literals_of o) T) (slice_get-append lines xs i line p ∙ sym p)

in-append : (P : Prefix) (L : List Literal → Type 0) (lines xs last : List Line) →
    ((line : Line) → IsIn line last → (n : ℕ) × Follows P L lines n line.literals line.reason) →
    drops_in (lines ++ xs) last ≡ drops_in lines last
in-append P L lines xs [] f = refl
in-append P L lines xs (x ∷ last) f =
    ap₂ (λ (ds es : List Drop). ds ++ es)
    (let r = f x (inl refl) in by-append P L lines xs r.0 x.literals x.reason r.1)
    (in-append P L lines xs last (λ line m. f line (inr m)))

drops_in-last : (lines last : List Line) (l : Line) →
    drops_in lines (last ++ l ∷ []) ≡ drops_in lines last ++ drops_by lines l.literals l.reason
drops_in-last lines [] l = append-nil (drops_by lines l.literals l.reason)
drops_in-last lines (x ∷ last) l =
    ap (λ (ds : List Drop). drops_by lines x.literals x.reason ++ ds) (drops_in-last lines last l) ∙
    sym (append_assoc (drops_by lines x.literals x.reason) (drops_in lines last) (drops_by lines l.literals l.reason))

pub slice-last : {X : Type 0} (xs : List X) (x : X) (i : ℕ) (y : X) → slice_get (xs ++ x ∷ []) i ≡ Some y →
    (slice_get xs i ≡ Some y) ⊎ ((i ≡ length xs) × (x ≡ y))
slice-last [] x zero y e = inr (refl, cc)
slice-last [] x (suc i) y e = absurd (cc)
slice-last (z ∷ xs) x zero y e = inl e
slice-last (z ∷ xs) x (suc i) y e = elim (slice-last xs x i y e) [
  | inl r ↦ inl r
  | inr r ↦ inr (let h = r.0 in omega arith, r.1)
]

pub slice-at : {X : Type 0} (xs : List X) (x : X) → slice_get (xs ++ x ∷ []) (length xs) ≡ Some x
slice-at [] x = refl
slice-at (y ∷ xs) x = slice-at xs x

pub derived-more : (P : Prefix) (L : List Literal → Type 0) (lines : List Line) (ds : List Drop) (line : Line) →
    IsDerived P L lines ds → Follows P L lines (length lines) line.literals line.reason →
    IsDerived P L (lines ++ line ∷ []) (ds ++ drops_by lines line.literals line.reason)
derived-more P L lines ds line d f = record { derivation = all; same = taken }
  where
    all : IsDerivation P L (lines ++ line ∷ [])
    all n x e = elim (slice-last lines line n x e) [
      | inl p ↦ follows-append P L lines (line ∷ []) n x.literals x.reason (d.derivation n x p)
      | inr q ↦
          subst (λ (y : Line). Follows P L (lines ++ line ∷ []) n y.literals y.reason) q.1
          (subst (λ m. Follows P L (lines ++ line ∷ []) m line.literals line.reason) (sym q.0)
          (follows-append P L lines (line ∷ []) (length lines) line.literals line.reason f))
    ]

    each : (x : Line) → IsIn x lines → (n : ℕ) × Follows P L lines n x.literals x.reason
    each x m = let r = IsIn-slice_get lines x m in (r.0, d.derivation r.0 x r.2)

    taken : drops (lines ++ line ∷ []) ≡ ds ++ drops_by lines line.literals line.reason
    taken =
        drops_in-last (lines ++ line ∷ []) lines line ∙
        ap₂ (λ (xs ys : List Drop). xs ++ ys) (in-append P L lines (line ∷ []) lines each ∙ d.same)
        (by-append P L lines (line ∷ []) (length lines) line.literals line.reason f)

-- what one line of a trace gives
pub record IsFurther (P : Prefix) (L : List Literal → Type 0) (lines more : List Line) (T : List Literal) (ds : List Drop) : Type 0 where
  pub derived : IsDerived P L more ds
  pub kept : (S : List Literal) → HasLine lines S → HasLine more S
  pub there : HasLine more T

kept-append : (lines xs : List Line) (S : List Literal) → HasLine lines S → HasLine (lines ++ xs) S
kept-append lines xs S (i, line, p, q) = (i, line, slice_get-append lines xs i line p, q)

there-last : (lines : List Line) (line : Line) → HasLine (lines ++ line ∷ []) line.literals
there-last lines line = (length lines, line, slice-at lines line, refl)

before-of : (lines : List Line) (S : List Literal) → (h : HasLine lines S) → IsBefore lines (length lines) h.0 S
before-of lines S (i, line, p, q) = (line, slice_get_within lines i line p, p, q)

further-by : (P : Prefix) (L : List Literal → Type 0) (lines : List Line) (ds es : List Drop) (line : Line) →
    IsDerived P L lines ds → Follows P L lines (length lines) line.literals line.reason → drops_by lines line.literals line.reason ≡ es →
    IsFurther P L lines (lines ++ line ∷ []) line.literals (ds ++ es)
further-by P L lines ds es line d f e = record {
  derived = subst (λ xs. IsDerived P L (lines ++ line ∷ []) (ds ++ xs)) e (derived-more P L lines ds line d f);
  kept = kept-append lines (line ∷ []);
  there = there-last lines line;
}

further-then : (P : Prefix) (L : List Literal → Type 0) (a b c : List Line) (S T : List Literal) (ds es : List Drop) →
    IsFurther P L a b S ds → IsFurther P L b c T es → IsFurther P L a c T es
further-then P L a b c S T ds es f g = record { derived = g.derived; kept = λ U h. g.kept U (f.kept U h); there = g.there }

further-same : (P : Prefix) (L : List Literal → Type 0) (a b : List Line) (T : List Literal) (ds es : List Drop) → ds ≡ es →
    IsFurther P L a b T ds → IsFurther P L a b T es
further-same P L a b T ds es e f = subst (IsFurther P L a b T) e f

-- A leaf.
pub leaf-further : (P : Prefix) (L : List Literal → Type 0) (lines : List Line) (ds : List Drop) (T : List Literal) →
    IsDerived P L lines ds → L T → (more : List Line) × IsFurther P L lines more T ds
leaf-further P L lines ds T d l = (
  lines ++ record { literals = T; reason = leaf } ∷ [],
  further-same P L lines (lines ++ record { literals = T; reason = leaf } ∷ []) T (ds ++ []) ds (append-nil ds)
      (further-by P L lines ds [] (record { literals = T; reason = leaf }) d l refl),
)

-- More literals.
drops-none : (S T : List Literal) → ((k : Literal) → IsIn k S → IsIn k T) → drops_to S T ≡ []
drops-none [] T h = refl
drops-none (k ∷ S) T h =
    let e : has k T ≡ true = IsIn-has k T (h k (inl refl)) in
    let r : drops_to S T ≡ [] = drops-none S T (λ j m. h j (inr m)) in rw (e, r) refl

pub weaker-further : (P : Prefix) (L : List Literal → Type 0) (lines : List Line) (ds : List Drop) (S T : List Literal) →
    IsDerived P L lines ds → HasLine lines S → ((k : Literal) → IsIn k S → IsIn k T) →
    (more : List Line) × IsFurther P L lines more T ds
weaker-further P L lines ds S T d h w =
    let b : IsBefore lines (length lines) h.0 S = before-of lines S h in
    let same : literals_of (slice_get lines h.0) ≡ S = ap literals_of b.2 ∙ b.3 in (
      lines ++ record { literals = T; reason = reduce h.0 } ∷ [],
      further-same P L lines (lines ++ record { literals = T; reason = reduce h.0 } ∷ []) T (ds ++ []) ds (append-nil ds)
          (further-by P L lines ds [] (record { literals = T; reason = reduce h.0 }) d
          (S, b, λ g m. inl (w g m)) (ap (λ X. drops_to X T) same ∙ drops-none S T w)),
    )

-- A resolvent, or the one line, and maybe more literals.
abbrev pub AreThere : List Line → Parents → Type 0
AreThere lines nothing = Unit {0}
AreThere lines missing = Unit {0}
AreThere lines (single S) = HasLine lines S
AreThere lines (double S U) = HasLine lines S × HasLine lines U

rest-of : (S : List Literal) (k : Literal) (T : List Literal) → ((j : Literal) → IsIn j (without k S) → IsIn j T) → IsRest S k T
rest-of S k T w j m = go (literal_eq j k) refl
  where
    go : (b : Bool) → literal_eq j k ≡ b → (j ≡ k) ⊎ IsIn j T
    go true e = inl (literal_eq-sound j k e)
    go false e = inr (w j (IsIn-without k S j m e))

pub parent-further : (P : Prefix) (L : List Literal → Type 0) (lines : List Line) (ds : List Drop) (from : Parents) (R T : List Literal) →
    IsDerived P L lines ds → AreThere lines from → IsParent P from R → ((k : Literal) → IsIn k R → IsIn k T) →
    (more : List Line) × IsFurther P L lines more T ds
parent-further P L lines ds nothing R T d h p w = absurd p
parent-further P L lines ds missing R T d h p w = absurd p
parent-further P L lines ds (single S) R T d h p w =
    weaker-further P L lines ds S T d h (λ k m. w k (subst (IsIn k) (sym p) m))
parent-further P L lines ds (double S U) R T d h (k, v, e) w = (
  lines ++ record { literals = T; reason = resolve h.0.0 h.1.0 k } ∷ [],
  further-same P L lines (lines ++ record { literals = T; reason = resolve h.0.0 h.1.0 k } ∷ []) T (ds ++ []) ds (append-nil ds)
      (further-by P L lines ds [] (record { literals = T; reason = resolve h.0.0 h.1.0 k }) d (
        S,
        U,
        before-of lines S h.0,
        before-of lines U h.1,
        rest-of S k T (λ j m. w j (subst (IsIn j) (sym e) (IsIn-append_left j (without k S) (without (negation k) U) m))),
        rest-of U (negation k) T (λ j m. w j (subst (IsIn j) (sym e) (IsIn-append_right j (without k S) (without (negation k) U) m))),
      ) refl),
)

-- A reduction: what goes stands behind what stays.
drops-all : (G S Ts : List Literal) → ((k : Literal) → IsIn k S → IsIn k G) → ((k : Literal) → IsIn k Ts → has k G ≡ false) →
    drops_to (S ++ Ts) G ≡ drops_of Ts G
drops-all G [] [] a b = refl
drops-all G [] (k ∷ Ts) a b =
    let e : has k G ≡ false = b k (inl refl) in
    let r : drops_to Ts G ≡ drops_of Ts G = drops-all G [] Ts a (λ j m. b j (inr m)) in rw (e, r) refl
drops-all G (k ∷ S) Ts a b =
    let e : has k G ≡ true = IsIn-has k G (a k (inl refl)) in
    rw e (drops-all G S Ts (λ j m. a j (inr m)) b)

-- what is taken away of G and Ts together
pub record IsAway (P : Prefix) (G Ts : List Literal) : Type 0 where
  pub owned : (g : Literal) → IsIn g Ts → is_existential P g.var ≡ true
  pub alone : (g : Literal) → IsIn g Ts → IsIn (negation g) (G ++ Ts) → ⊥
  pub behind : (g : Literal) → IsIn g Ts → (k : Literal) → IsIn k G → place P k.var < place P g.var

shed-further : (P : Prefix) (L : List Literal → Type 0) (lines : List Line) (ds : List Drop) (G Ts : List Literal) →
    IsDerived P L lines ds → HasLine lines (G ++ Ts) → IsAway P G Ts →
    (more : List Line) × IsFurther P L lines more G (ds ++ drops_of Ts G)
shed-further P L lines ds G Ts d h a =
    let b : IsBefore lines (length lines) h.0 (G ++ Ts) = before-of lines (G ++ Ts) h in
    let same : literals_of (slice_get lines h.0) ≡ G ++ Ts = ap literals_of b.2 ∙ b.3 in (
      lines ++ record { literals = G; reason = reduce h.0 } ∷ [],
      further-by P L lines ds (drops_of Ts G) (record { literals = G; reason = reduce h.0 }) d
          (G ++ Ts, b, red) (ap (λ X. drops_to X G) same ∙ drops-all G G Ts (λ k m. m) absent),
    )
  where
    red : IsReduced P (G ++ Ts) G
    red g m = elim (IsIn-append g G Ts m) [
      | inl i ↦ inl i
      | inr i ↦ inr (record { owned = a.owned g i; alone = a.alone g i; behind = a.behind g i })
    ]

    absent : (k : Literal) → IsIn k Ts → has k G ≡ false
    absent k m = go (has k G) refl
      where
        go : (b : Bool) → has k G ≡ b → has k G ≡ false
        go true e = absurd (let z = a.behind k m k (has-IsIn k G e) in omega arith)
        go false e = e

pub inner-further : (P : Prefix) (L : List Literal → Type 0) (lines : List Line) (ds : List Drop) (from : Parents) (R T G Ts : List Literal) →
    IsDerived P L lines ds → AreThere lines from → IsParent P from R →
    ((k : Literal) → IsIn k R → IsIn k (G ++ Ts)) → ((k : Literal) → IsIn k G → IsIn k T) → IsAway P G Ts →
    (more : List Line) × IsFurther P L lines more T (ds ++ drops_of Ts G)
inner-further P L lines ds from R T G Ts d h p w v a =
    let x = parent-further P L lines ds from R (G ++ Ts) d h p w in
    let y = shed-further P L x.0 ds G Ts x.1.derived x.1.there a in
    let z = weaker-further P L y.0 (ds ++ drops_of Ts G) G T y.1.derived y.1.there v in (
      z.0,
      further-then P L lines y.0 z.0 G T (ds ++ drops_of Ts G) (ds ++ drops_of Ts G)
          (further-then P L lines x.0 y.0 (G ++ Ts) G ds (ds ++ drops_of Ts G) x.1 y.1) z.1,
    )

-- The drops of lines that are turned round.
has-turned : (k : Literal) (T : List Literal) → has (negation k) (turned_all T) ≡ has k T
has-turned k [] = refl
has-turned k (j ∷ T) = ap₂ ◌||◌ (ap (λ b. eqb j.var k.var && b) (sign j.negative k.negative)) (has-turned k T)
  where
    sign : (a b : Bool) → bool_eq (not a) (not b) ≡ bool_eq a b
    sign true true = refl
    sign true false = refl
    sign false true = refl
    sign false false = refl

to-turned : (S T : List Literal) → drops_to (turned_all S) (turned_all T) ≡ map turned_drop (drops_to S T)
to-turned [] T = refl
to-turned (k ∷ S) T = rw (has-turned k T) (go (has k T) (to-turned S T))
  where
    go : (b : Bool) → drops_to (turned_all S) (turned_all T) ≡ map turned_drop (drops_to S T) →
        cond b (drops_to (turned_all S) (turned_all T)) (record { literal = negation k; kept = turned_all T } ∷ drops_to (turned_all S) (turned_all T)) ≡
        map turned_drop (cond b (drops_to S T) (record { literal = k; kept = T } ∷ drops_to S T))
    go true i = i
    go false i = ap (λ (ds : List Drop). record { literal = negation k; kept = turned_all T } ∷ ds) i

literals-turned : (lines : List Line) (i : ℕ) → literals_of (slice_get (turned lines) i) ≡ turned_all (literals_of (slice_get lines i))
literals-turned lines i = ap literals_of (slice_get-map turned_line lines i) ∙ go (slice_get lines i)
  where
    go : (o : Option Line) → literals_of (option_map turned_line o) ≡ turned_all (literals_of o)
    go None = refl
    go (Some line) = refl

by-turned : (lines : List Line) (T : List Literal) (r : Reason) →
    drops_by (turned lines) (turned_all T) (turned_reason r) ≡ map turned_drop (drops_by lines T r)
by-turned lines T leaf = refl
by-turned lines T (resolve i j k) = refl
by-turned lines T (reduce i) =
    ap (λ X. drops_to X (turned_all T)) (literals-turned lines i) ∙ to-turned (literals_of (slice_get lines i)) T

map-both : (ds es : List Drop) → map turned_drop (ds ++ es) ≡ map turned_drop ds ++ map turned_drop es
map-both [] es = refl
map-both (d ∷ ds) es = ap (λ (xs : List Drop). turned_drop d ∷ xs) (map-both ds es)

in-turned : (lines last : List Line) → drops_in (turned lines) (turned last) ≡ map turned_drop (drops_in lines last)
in-turned lines [] = refl
in-turned lines (x ∷ last) =
    ap₂ (λ (ds es : List Drop). ds ++ es) (by-turned lines x.literals x.reason) (in-turned lines last) ∙
    sym (map-both (drops_by lines x.literals x.reason) (drops_in lines last))

pub drops-turned : (lines : List Line) → drops (turned lines) ≡ map turned_drop (drops lines)
drops-turned lines = in-turned lines lines

pub drops_of-turned : (Ts G : List Literal) → drops_of (turned_all Ts) (turned_all G) ≡ map turned_drop (drops_of Ts G)
drops_of-turned [] G = refl
drops_of-turned (k ∷ Ts) G =
    ap (λ (ds : List Drop). record { literal = negation k; kept = turned_all G } ∷ ds) (drops_of-turned Ts G)

pub turned-more : (ds es : List Drop) → map turned_drop (ds ++ es) ≡ map turned_drop ds ++ map turned_drop es
turned-more = map-both
