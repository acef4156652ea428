-- A derivation whose lines give values, some lines further.
use Rattle.std.proofs.Common.{◌≡◌, ℕ, ◌<◌, Bool, true, false, ◌||◌, eqb, List, [], ◌∷◌, ◌++◌, length, inl, inr, arith, refl, sym, ap, ap₂, ◌∙◌, subst, slice_get, Some}
use Rattle.std.proofs.lemmas.List.{append_assoc, append-nil}
use Rattle.std.proofs.lemmas.Option.{slice_get_within}
use Rattle.q_logic.specs.Prelude.{Literal, negation, Prefix, IsIn, is_existential}
use Rattle.q_logic.specs.Prefixes.{place}
use Rattle.q_logic.proofs.Common.{slice_get-append, IsIn-append, IsIn-append_left}
use Rattle.q_logic.proofs.Lists.{IsIn-slice_get}
use Rattle.q_derive.specs.Derivations.{Reason, leaf, resolve, reduce}
use Rattle.q_derive.proofs.Following.{slice-last, slice-at}
use Rattle.q_long.specs.Valued.{Value, Line, IsBefore, IsRest, IsReduced, Follows, AreLocal, IsDerivation}
use Rattle.q_long.specs.Decided.{Drop, values_of, gives, drops_to, drops_by, drops_in, drops, drops_of}
use Rattle.q_long.proofs.Winning.{in-gives}

-- some line gives these values
abbrev pub HasLine : List Line → List Value → Type 0
HasLine lines T = (i : ℕ) × (line : Line) × (slice_get lines i ≡ Some line) × (line.values ≡ T)

-- a derivation, with what its lines take away
pub record IsDerived (P : Prefix) (L : List Value → Type 0) (lines : List Line) (ds : List Drop) : Type 0 where
  pub derivation : IsDerivation P L lines
  pub same : drops lines ≡ ds

before-append : (lines xs : List Line) (n i : ℕ) (S : List Value) → IsBefore lines n i S → IsBefore (lines ++ xs) n i S
before-append lines xs n i S (line, h, p, q) = (line, h, slice_get-append lines xs i line p, q)

follows-append : (P : Prefix) (L : List Value → Type 0) (lines xs : List Line) (n : ℕ) (T : List Value) (r : Reason) →
    Follows P L lines n T r → Follows P L (lines ++ xs) n T r
follows-append P L lines xs n T leaf f = f
follows-append P L lines xs n T (resolve i j k) (S, U, b, d, rs, ru) =
    (S, U, before-append lines xs n i S b, before-append lines xs n j U d, rs, ru)
follows-append P L lines xs n T (reduce i) (S, b, red) = (S, before-append lines xs n i S b, red)

by-append : (P : Prefix) (L : List Value → Type 0) (lines xs : List Line) (n : ℕ) (T : List Value) (r : Reason) →
    Follows P L lines n T r → drops_by (lines ++ xs) T r ≡ drops_by lines T r
by-append P L lines xs n T leaf f = refl
by-append P L lines xs n T (resolve i j k) f = refl
by-append P L lines xs n T (reduce i) (S, (line, h, p, q), red) =
    ap (λ o. drops_to (values_of o) T) (slice_get-append lines xs i line p ∙ sym p)

in-append : (P : Prefix) (L : List Value → Type 0) (lines xs last : List Line) →
    ((line : Line) → IsIn line last → (n : ℕ) × Follows P L lines n line.values line.reason) →
    drops_in (lines ++ xs) last ≡ drops_in lines last
in-append P L lines xs [] f = refl
in-append P L lines xs (x ∷ last) f =
    ap₂ (λ (ds es : List Drop). ds ++ es)
    (let r = f x (inl refl) in by-append P L lines xs r.0 x.values x.reason r.1)
    (in-append P L lines xs last (λ line m. f line (inr m)))

drops_in-last : (lines last : List Line) (l : Line) →
    drops_in lines (last ++ l ∷ []) ≡ drops_in lines last ++ drops_by lines l.values l.reason
drops_in-last lines [] l = append-nil (drops_by lines l.values l.reason)
drops_in-last lines (x ∷ last) l =
    ap (λ (ds : List Drop). drops_by lines x.values x.reason ++ ds) (drops_in-last lines last l) ∙
    sym (append_assoc (drops_by lines x.values x.reason) (drops_in lines last) (drops_by lines l.values l.reason))

derived-more : (P : Prefix) (L : List Value → Type 0) (lines : List Line) (ds : List Drop) (line : Line) →
    IsDerived P L lines ds → AreLocal P line.values → Follows P L lines (length lines) line.values line.reason →
    IsDerived P L (lines ++ line ∷ []) (ds ++ drops_by lines line.values line.reason)
derived-more P L lines ds line d a f = record { derivation = record { local = local; follows = all }; same = taken }
  where
    local : (n : ℕ) (x : Line) → slice_get (lines ++ line ∷ []) n ≡ Some x → AreLocal P x.values
    local n x e = elim (slice-last lines line n x e) [
      | inl p ↦ d.derivation.local n x p
      | inr q ↦ subst (λ (y : Line). AreLocal P y.values) q.1 a
    ]

    all : (n : ℕ) (x : Line) → slice_get (lines ++ line ∷ []) n ≡ Some x → Follows P L (lines ++ line ∷ []) n x.values x.reason
    all n x e = elim (slice-last lines line n x e) [
      | inl p ↦ follows-append P L lines (line ∷ []) n x.values x.reason (d.derivation.follows n x p)
      | inr q ↦
          subst (λ (y : Line). Follows P L (lines ++ line ∷ []) n y.values y.reason) q.1
          (subst (λ m. Follows P L (lines ++ line ∷ []) m line.values line.reason) (sym q.0)
          (follows-append P L lines (line ∷ []) (length lines) line.values line.reason f))
    ]

    each : (x : Line) → IsIn x lines → (n : ℕ) × Follows P L lines n x.values x.reason
    each x m = let r = IsIn-slice_get lines x m in (r.0, d.derivation.follows r.0 x r.2)

    taken : drops (lines ++ line ∷ []) ≡ ds ++ drops_by lines line.values line.reason
    taken =
        drops_in-last (lines ++ line ∷ []) lines line ∙
        ap₂ (λ (xs ys : List Drop). xs ++ ys) (in-append P L lines (line ∷ []) lines each ∙ d.same)
        (by-append P L lines (line ∷ []) (length lines) line.values line.reason f)

-- what one line of a trace gives
pub record IsFurther (P : Prefix) (L : List Value → Type 0) (lines more : List Line) (T : List Value) (ds : List Drop) : Type 0 where
  pub derived : IsDerived P L more ds
  pub kept : (S : List Value) → HasLine lines S → HasLine more S
  pub there : HasLine more T

kept-append : (lines xs : List Line) (S : List Value) → HasLine lines S → HasLine (lines ++ xs) S
kept-append lines xs S (i, line, p, q) = (i, line, slice_get-append lines xs i line p, q)

there-last : (lines : List Line) (line : Line) → HasLine (lines ++ line ∷ []) line.values
there-last lines line = (length lines, line, slice-at lines line, refl)

before-of : (lines : List Line) (S : List Value) → (h : HasLine lines S) → IsBefore lines (length lines) h.0 S
before-of lines S (i, line, p, q) = (line, slice_get_within lines i line p, p, q)

further-by : (P : Prefix) (L : List Value → Type 0) (lines : List Line) (ds es : List Drop) (line : Line) →
    IsDerived P L lines ds → AreLocal P line.values → Follows P L lines (length lines) line.values line.reason →
    drops_by lines line.values line.reason ≡ es → IsFurther P L lines (lines ++ line ∷ []) line.values (ds ++ es)
further-by P L lines ds es line d a f e = record {
  derived = subst (λ xs. IsDerived P L (lines ++ line ∷ []) (ds ++ xs)) e (derived-more P L lines ds line d a f);
  kept = kept-append lines (line ∷ []);
  there = there-last lines line;
}

further-none : (P : Prefix) (L : List Value → Type 0) (lines : List Line) (ds : List Drop) (line : Line) →
    IsDerived P L lines ds → AreLocal P line.values → Follows P L lines (length lines) line.values line.reason →
    drops_by lines line.values line.reason ≡ [] → IsFurther P L lines (lines ++ line ∷ []) line.values ds
further-none P L lines ds line d a f e =
    subst (IsFurther P L lines (lines ++ line ∷ []) line.values) (append-nil ds) (further-by P L lines ds [] line d a f e)

further-then : (P : Prefix) (L : List Value → Type 0) (a b c : List Line) (S T : List Value) (ds es : List Drop) →
    IsFurther P L a b S ds → IsFurther P L b c T es → IsFurther P L a c T es
further-then P L a b c S T ds es f g = record { derived = g.derived; kept = λ U h. g.kept U (f.kept U h); there = g.there }

-- A leaf.
pub leaf-further : (P : Prefix) (L : List Value → Type 0) (lines : List Line) (ds : List Drop) (T : List Value) →
    IsDerived P L lines ds → AreLocal P T → L T → (more : List Line) × IsFurther P L lines more T ds
leaf-further P L lines ds T d a l = (
  lines ++ record { values = T; reason = leaf } ∷ [],
  further-none P L lines ds (record { values = T; reason = leaf }) d a l refl,
)

-- More values.
drops-none : (S T : List Value) → ((v : Value) → IsIn v S → IsIn v T) → drops_to S T ≡ []
drops-none [] T h = refl
drops-none (v ∷ S) T h =
    let e : gives v.var T ≡ true = in-gives v T (h v (inl refl)) in
    let r : drops_to S T ≡ [] = drops-none S T (λ w m. h w (inr m)) in rw (e, r) refl

pub weaker-further : (P : Prefix) (L : List Value → Type 0) (lines : List Line) (ds : List Drop) (S T : List Value) →
    IsDerived P L lines ds → HasLine lines S → AreLocal P T → ((v : Value) → IsIn v S → IsIn v T) →
    (more : List Line) × IsFurther P L lines more T ds
weaker-further P L lines ds S T d h a w =
    let b : IsBefore lines (length lines) h.0 S = before-of lines S h in
    let same : values_of (slice_get lines h.0) ≡ S = ap values_of b.2 ∙ b.3 in (
      lines ++ record { values = T; reason = reduce h.0 } ∷ [],
      further-none P L lines ds (record { values = T; reason = reduce h.0 }) d a
          (S, b, λ g m. inl (w g m)) (ap (λ X. drops_to X T) same ∙ drops-none S T w),
    )

-- A resolvent.
pub resolved-further : (P : Prefix) (L : List Value → Type 0) (lines : List Line) (ds : List Drop) (S U T : List Value) (k : Literal) →
    IsDerived P L lines ds → HasLine lines S → HasLine lines U → AreLocal P T → IsRest S k T → IsRest U (negation k) T →
    (more : List Line) × IsFurther P L lines more T ds
resolved-further P L lines ds S U T k d h g a rs ru = (
  lines ++ record { values = T; reason = resolve h.0 g.0 k } ∷ [],
  further-none P L lines ds (record { values = T; reason = resolve h.0 g.0 k }) d a
      (S, U, before-of lines S h, before-of lines U g, rs, ru) refl,
)

-- A reduction: what goes stands behind what stays.
drops-all : (G S Ts : List Value) → ((v : Value) → IsIn v S → IsIn v G) → ((v : Value) → IsIn v Ts → gives v.var G ≡ false) →
    drops_to (S ++ Ts) G ≡ drops_of Ts G
drops-all G [] [] a b = refl
drops-all G [] (v ∷ Ts) a b =
    let e : gives v.var G ≡ false = b v (inl refl) in
    let r : drops_to Ts G ≡ drops_of Ts G = drops-all G [] Ts a (λ w m. b w (inr m)) in rw (e, r) refl
drops-all G (v ∷ S) Ts a b =
    let e : gives v.var G ≡ true = in-gives v G (a v (inl refl)) in
    rw e (drops-all G S Ts (λ w m. a w (inr m)) b)

-- what is taken away of G and Ts together
pub record IsAway (P : Prefix) (G Ts : List Value) : Type 0 where
  pub owned : (g : Value) → IsIn g Ts → is_existential P g.var ≡ true
  pub alone : (g : Value) → IsIn g Ts → (v : Value) → IsIn v (G ++ Ts) → v.var ≡ g.var → v ≡ g
  pub behind : (g : Value) → IsIn g Ts → (v : Value) → IsIn v G → place P v.var < place P g.var

gives-in : (x : ℕ) (T : List Value) → gives x T ≡ true → (v : Value) × IsIn v T × (v.var ≡ x)
gives-in x [] h = absurd (cc)
gives-in x (v ∷ T) h = go (eqb v.var x) refl h (gives-in x T)
  where
    go : (b : Bool) → eqb v.var x ≡ b → b || gives x T ≡ true → (gives x T ≡ true → (w : Value) × IsIn w T × (w.var ≡ x)) →
        (w : Value) × IsIn w (v ∷ T) × (w.var ≡ x)
    go true p q ih = (v, inl refl, grind arith)
    go false p q ih = let r = ih q in (r.0, inr r.1, r.2)

pub shed-further : (P : Prefix) (L : List Value → Type 0) (lines : List Line) (ds : List Drop) (G Ts : List Value) →
    IsDerived P L lines ds → HasLine lines (G ++ Ts) → AreLocal P G → IsAway P G Ts →
    (more : List Line) × IsFurther P L lines more G (ds ++ drops_of Ts G)
shed-further P L lines ds G Ts d h l a =
    let b : IsBefore lines (length lines) h.0 (G ++ Ts) = before-of lines (G ++ Ts) h in
    let same : values_of (slice_get lines h.0) ≡ G ++ Ts = ap values_of b.2 ∙ b.3 in (
      lines ++ record { values = G; reason = reduce h.0 } ∷ [],
      further-by P L lines ds (drops_of Ts G) (record { values = G; reason = reduce h.0 }) d l
          (G ++ Ts, b, red) (ap (λ X. drops_to X G) same ∙ drops-all G G Ts (λ v m. m) absent),
    )
  where
    red : IsReduced P (G ++ Ts) G
    red g m = elim (IsIn-append g G Ts m) [
      | inl i ↦ inl i
      | inr i ↦ inr (record { owned = a.owned g i; alone = a.alone g i; behind = a.behind g i })
    ]

    absent : (v : Value) → IsIn v Ts → gives v.var G ≡ false
    absent v m = go (gives v.var G) refl
      where
        go : (b : Bool) → gives v.var G ≡ b → gives v.var G ≡ false
        go true e =
            let r = gives-in v.var G e in
            absurd (let z : place P r.0.var < place P v.var = a.behind v m r.0 r.1 in let s : place P r.0.var ≡ place P v.var = ap (place P) r.2 in omega arith)
        go false e = e

local-left : (P : Prefix) (G Ts : List Value) → AreLocal P (G ++ Ts) → AreLocal P G
local-left P G Ts a v m = a v (IsIn-append_left v G Ts m)

-- All that one line gives: its parent with what is kept and what is taken away, then what is kept, then what the line says.
pub taken-further : (P : Prefix) (L : List Value → Type 0) (lines mid : List Line) (ds : List Drop) (T G Ts : List Value) →
    IsFurther P L lines mid (G ++ Ts) ds → AreLocal P (G ++ Ts) → AreLocal P T → IsAway P G Ts →
    ((v : Value) → IsIn v G → IsIn v T) →
    (more : List Line) × IsFurther P L lines more T (ds ++ drops_of Ts G)
taken-further P L lines mid ds T G Ts f a b w k =
    let y = shed-further P L mid ds G Ts f.derived f.there (local-left P G Ts a) w in
    let z = weaker-further P L y.0 (ds ++ drops_of Ts G) G T y.1.derived y.1.there b k in (
      z.0,
      further-then P L lines y.0 z.0 G T (ds ++ drops_of Ts G) (ds ++ drops_of Ts G)
          (further-then P L lines mid y.0 (G ++ Ts) G ds (ds ++ drops_of Ts G) f y.1) z.1,
    )
