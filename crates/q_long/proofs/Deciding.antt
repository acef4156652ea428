-- What the first line says that is so and takes a variable away.
use Rattle.std.proofs.Common.{◌≡◌, ℕ, zero, suc, ◌<◌, Bool, true, false, cond, not, ◌&&◌, eqb, List, [], ◌∷◌, ◌++◌, ◌⊎◌, inl, inr, arith, refl, sym, ap, ap₂, ◌∙◌, subst, slice_get, Some}
use Rattle.q_logic.specs.Prelude.{IsIn, Assignment, bool_eq, Circuit, value_of, Reads, Strategy, circuit_of}
use Rattle.q_derive.specs.Derivations.{Reason, leaf, resolve, reduce}
use Rattle.q_long.specs.Valued.{Value, has_value, have_all, HaveAll, Line}
use Rattle.q_long.specs.Decided.{Drop, values_of, gives, drops_to, drops_by, drops_in, alike, every_circuit, either, decided, decision}

pub have_all-sound : (A : Assignment) (T : List Value) → have_all A T ≡ true → HaveAll A T
have_all-sound A [] h v m = elim m [ ]
have_all-sound A (w ∷ T) h v (inl e) =
    let z : has_value A w ≡ true = grind arith in subst (λ (x : Value). has_value A x ≡ true) (sym e) z
have_all-sound A (w ∷ T) h v (inr m) = have_all-sound A T (grind arith) v m

pub have_all-complete : (A : Assignment) (T : List Value) → HaveAll A T → have_all A T ≡ true
have_all-complete A [] t = refl
have_all-complete A (w ∷ T) t =
    let a : has_value A w ≡ true = t w (inl refl) in
    let b : have_all A T ≡ true = have_all-complete A T (λ v m. t v (inr m)) in rw (a, b) refl

-- A line that is not so decides nothing.
quiet-to : (B : Assignment) (e : ℕ) (S T : List Value) (ds : List Drop) → have_all B T ≡ false →
    decision B e (drops_to S T ++ ds) ≡ decision B e ds
quiet-to B e [] T ds h = refl
quiet-to B e (v ∷ S) T ds h = go (gives v.var T) (quiet-to B e S T ds h)
  where
    other : (a b : Bool) → b ≡ false → cond (a && b) (value_of v.circuit B) (decision B e (drops_to S T ++ ds)) ≡
        decision B e (drops_to S T ++ ds)
    other true b p = rw p refl
    other false b p = refl

    go : (b : Bool) → decision B e (drops_to S T ++ ds) ≡ decision B e ds →
        decision B e (cond b (drops_to S T) (record { value = v; kept = T } ∷ drops_to S T) ++ ds) ≡ decision B e ds
    go true i = i
    go false i = other (eqb v.var e) (have_all B T) h ∙ i

quiet-by : (lines : List Line) (B : Assignment) (e : ℕ) (T : List Value) (r : Reason) (ds : List Drop) →
    have_all B T ≡ false → decision B e (drops_by lines T r ++ ds) ≡ decision B e ds
quiet-by lines B e T leaf ds h = refl
quiet-by lines B e T (resolve i j k) ds h = refl
quiet-by lines B e T (reduce i) ds h = quiet-to B e (values_of (slice_get lines i)) T ds h

-- A line that is so decides what it takes away.
loud-to : (B : Assignment) (S T : List Value) (g : Value) (ds : List Drop) → have_all B T ≡ true → IsIn g S →
    gives g.var T ≡ false → ((v : Value) → IsIn v S → v.var ≡ g.var → v ≡ g) →
    decision B g.var (drops_to S T ++ ds) ≡ value_of g.circuit B
loud-to B [] T g ds h m n a = elim m [ ]
loud-to B (v ∷ S) T g ds h m n a =
    go (gives v.var T) refl (eqb v.var g.var) refl m (λ i. loud-to B S T g ds h i n (λ w j. a w (inr j)))
  where
    here : eqb v.var g.var ≡ true → v ≡ g
    here p = a v (inl refl) (grind arith)

    go : (b : Bool) → gives v.var T ≡ b → (s : Bool) → eqb v.var g.var ≡ s → (g ≡ v) ⊎ IsIn g S →
        (IsIn g S → decision B g.var (drops_to S T ++ ds) ≡ value_of g.circuit B) →
        decision B g.var (cond b (drops_to S T) (record { value = v; kept = T } ∷ drops_to S T) ++ ds) ≡ value_of g.circuit B
    go true p s q (inl e) ih = absurd (let z : gives v.var T ≡ false = subst (λ (x : Value). gives x.var T ≡ false) e n in cc)
    go true p s q (inr i) ih = ih i
    go false p true q i ih = rw (q, h) (ap (λ (x : Value). value_of x.circuit B) (here q))
    go false p false q (inl e) ih =
        absurd (let z : v.var ≡ g.var = ap (λ (x : Value). x.var) (sym e) in grind arith)
    go false p false q (inr i) ih = rw q (ih i)

-- It does so, or an earlier line is so.
abbrev pub SomeSo : Assignment → List Line → ℕ → Type 0
SomeSo B lines n =
    (m : ℕ) × (m < n) × (line : Line) × (slice_get lines m ≡ Some line) × (have_all B line.values ≡ true)

pub first-says : (lines : List Line) (B : Assignment) (last : List Line) (n : ℕ) (line : Line) (i : ℕ) (g : Value) →
    slice_get last n ≡ Some line → line.reason ≡ reduce i → have_all B line.values ≡ true →
    IsIn g (values_of (slice_get lines i)) → gives g.var line.values ≡ false →
    ((v : Value) → IsIn v (values_of (slice_get lines i)) → v.var ≡ g.var → v ≡ g) →
    SomeSo B last n ⊎ (decision B g.var (drops_in lines last) ≡ value_of g.circuit B)
first-says lines B [] n line i g at r t m h a = absurd (cc)
first-says lines B (l ∷ last) zero line i g at r t m h a =
    inr (subst (λ (x : Line). decision B g.var (drops_by lines x.values x.reason ++ drops_in lines last) ≡ value_of g.circuit B) (sym s) there)
  where
    s : l ≡ line
    s = cc

    there : decision B g.var (drops_by lines line.values line.reason ++ drops_in lines last) ≡ value_of g.circuit B
    there =
        subst (λ x. decision B g.var (drops_by lines line.values x ++ drops_in lines last) ≡ value_of g.circuit B) (sym r)
        (loud-to B (values_of (slice_get lines i)) line.values g (drops_in lines last) t m h a)
first-says lines B (l ∷ last) (suc n) line i g at r t m h a =
    go (have_all B l.values) refl (first-says lines B last n line i g at r t m h a)
  where
    go : (b : Bool) → have_all B l.values ≡ b →
        SomeSo B last n ⊎ (decision B g.var (drops_in lines last) ≡ value_of g.circuit B) →
        SomeSo B (l ∷ last) (suc n) ⊎
        (decision B g.var (drops_by lines l.values l.reason ++ drops_in lines last) ≡ value_of g.circuit B)
    go true p s = inl (0, omega arith, l, refl, p)
    go false p (inl (m, h, x, j, q)) = inl (suc m, omega arith, x, j, q)
    go false p (inr q) = inr (quiet-by lines B g.var l.values l.reason (drops_in lines last) p ∙ q)

-- The circuits compute it.
pub mux : (a b d : Bool) → not (not (a && b) && not (not a && d)) ≡ cond a b d
mux true true true = refl
mux true true false = refl
mux true false true = refl
mux true false false = refl
mux false true true = refl
mux false true false = refl
mux false false true = refl
mux false false false = refl

both-or_none : (a b : Bool) → not (not (a && b) && not (not a && not b)) ≡ bool_eq a b
both-or_none true true = refl
both-or_none true false = refl
both-or_none false true = refl
both-or_none false false = refl

either-value : (h s t : Circuit) (A : Assignment) →
    value_of (either h s t) A ≡ cond (value_of h A) (value_of s A) (value_of t A)
either-value h s t A = mux (value_of h A) (value_of s A) (value_of t A)

alike-value : (s t : Circuit) (A : Assignment) → value_of (alike s t) A ≡ bool_eq (value_of s A) (value_of t A)
alike-value s t A = both-or_none (value_of s A) (value_of t A)

-- the circuit of each variable has its value under B, and those of the values are the same under A and B
abbrev pub AreSeen : Strategy → Assignment → Assignment → List Value → Type 0
AreSeen c A B T = (v : Value) → IsIn v T → (value_of (circuit_of c v.var) A ≡ B v.var) × (value_of v.circuit A ≡ value_of v.circuit B)

every-value : (c : Strategy) (A B : Assignment) (T : List Value) → AreSeen c A B T → value_of (every_circuit c T) A ≡ have_all B T
every-value c A B [] h = refl
every-value c A B (v ∷ T) h =
    let r = h v (inl refl) in
    ap₂ ◌&&◌ (alike-value (circuit_of c v.var) v.circuit A ∙ ap₂ bool_eq r.0 r.1) (every-value c A B T (λ w m. h w (inr m)))

pub record IsSeen (c : Strategy) (A B : Assignment) (d : Drop) : Type 0 where
  pub kept : AreSeen c A B d.kept
  pub itself : value_of d.value.circuit A ≡ value_of d.value.circuit B

abbrev pub AllSeen : Strategy → ℕ → Assignment → Assignment → List Drop → Type 0
AllSeen c e A B ds = (d : Drop) → IsIn d ds → eqb d.value.var e ≡ true → IsSeen c A B d

pub decided-value : (c : Strategy) (e : ℕ) (A B : Assignment) (ds : List Drop) → AllSeen c e A B ds →
    value_of (decided ds c e) A ≡ decision B e ds
decided-value c e A B [] h = refl
decided-value c e A B (d ∷ ds) h = go (eqb d.value.var e) refl (decided-value c e A B ds (λ x m. h x (inr m)))
  where
    go : (b : Bool) → eqb d.value.var e ≡ b → value_of (decided ds c e) A ≡ decision B e ds →
        value_of (cond b (either (every_circuit c d.kept) d.value.circuit (decided ds c e)) (decided ds c e)) A ≡
        cond (b && have_all B d.kept) (value_of d.value.circuit B) (decision B e ds)
    go true p i =
        let r = h d (inl refl) p in
        either-value (every_circuit c d.kept) d.value.circuit (decided ds c e) A ∙
        ap (λ x. cond x (value_of d.value.circuit A) (value_of (decided ds c e) A)) (every-value c A B d.kept r.kept) ∙
        ap₂ (λ y z. cond (have_all B d.kept) y z) r.itself i
    go false p i = i

-- What they read.
abbrev pub ReadsOf : Strategy → List Value → ℕ → Type 0
ReadsOf c T u = (v : Value) × IsIn v T × (Reads (circuit_of c v.var) u ⊎ Reads v.circuit u)

Reads-alike : (s t : Circuit) (u : ℕ) → Reads (alike s t) u → Reads s u ⊎ Reads t u
Reads-alike s t u (inl h) = h
Reads-alike s t u (inr h) = h

Reads-every : (c : Strategy) (T : List Value) (u : ℕ) → Reads (every_circuit c T) u → ReadsOf c T u
Reads-every c [] u h = elim h [ ]
Reads-every c (v ∷ T) u (inl r) = (v, inl refl, Reads-alike (circuit_of c v.var) v.circuit u r)
Reads-every c (v ∷ T) u (inr r) = let s : ReadsOf c T u = Reads-every c T u r in (s.0, inr s.1, s.2)

Reads-either : (h s t : Circuit) (u : ℕ) → Reads (either h s t) u → Reads h u ⊎ (Reads s u ⊎ Reads t u)
Reads-either h s t u (inl (inl r)) = inl r
Reads-either h s t u (inl (inr r)) = inr (inl r)
Reads-either h s t u (inr (inl r)) = inl r
Reads-either h s t u (inr (inr r)) = inr (inr r)

abbrev pub ReadBy : Strategy → ℕ → List Drop → ℕ → Type 0
ReadBy c e ds u = (d : Drop) × IsIn d ds × (eqb d.value.var e ≡ true) × (Reads d.value.circuit u ⊎ ReadsOf c d.kept u)

pub Reads-decided : (c : Strategy) (e : ℕ) (ds : List Drop) (u : ℕ) → Reads (decided ds c e) u → ReadBy c e ds u
Reads-decided c e [] u r = elim r [ ]
Reads-decided c e (d ∷ ds) u r = go (eqb d.value.var e) refl r (Reads-decided c e ds u)
  where
    more : ReadBy c e ds u → ReadBy c e (d ∷ ds) u
    more s = (s.0, inr s.1, s.2, s.3)

    go : (b : Bool) → eqb d.value.var e ≡ b →
        Reads (cond b (either (every_circuit c d.kept) d.value.circuit (decided ds c e)) (decided ds c e)) u →
        (Reads (decided ds c e) u → ReadBy c e ds u) → ReadBy c e (d ∷ ds) u
    go true p r ih =
        elim (Reads-either (every_circuit c d.kept) d.value.circuit (decided ds c e) u r) [
          | inl s ↦ (d, inl refl, p, inr (Reads-every c d.kept u s))
          | inr s ↦ elim s [
            | inl t ↦ (d, inl refl, p, inl t)
            | inr t ↦ more (ih t)
          ]
        ]
    go false p r ih = more (ih r)
