-- The lines of a cone as a derivation.
use Rattle.std.proofs.Common.{◌≡◌, ℕ, zero, suc, ◌+◌, ◌<◌, Bool, true, false, cond, not, ◌&&◌, eqb, List, [], ◌∷◌, ◌++◌, ◌⊎◌, inl, inr, length, map, take, arith, refl, sym, ap, ◌∙◌, subst, slice_get, Option, Some, None}
use Rattle.std.specs.Option.{option_map}
use Rattle.std.proofs.lemmas.List.{append-nil, length-append}
use Rattle.q_logic.specs.Prelude.{Literal, Prefix, Matrix, IsIn, is_bound, is_existential, is_universal, is_exists, Circuit, Reads}
use Rattle.q_long.specs.Valued.{Value, Line, AreLocal, AreOf}
use Rattle.q_long.specs.Decided.{Drop, drops, drops_of}
use Rattle.q_long.specs.Distant.{positive}
use Rattle.q_derive.specs.Traces.{Entry, Sources, none, one, two, Parents, parents, single_of, double_of, earlier, place_of, literals_in, resolvent, MergesOnly, IsKept, IsShed, IsMerged, AreBound, Stands, IsRight, InCone, further, IsNamed}
use Rattle.q_long.proofs.Following.{HasLine, IsFurther, leaf-further, weaker-further, resolved-further, taken-further}
use Rattle.q_extract.specs.Saying.{said_in}
use Rattle.q_extract.specs.Merges.{merge_circuits, value_at, HavePivotsIn}
use Rattle.q_extract.specs.Rows.{drops_in, said_next, AreSound}
use Rattle.q_extract.specs.declared.drops.Drops.{Drops}
use Rattle.q_extract.specs.declared.said.Merge.{Merge}
use Rattle.q_extract.specs.declared.said.Sayings.{Sayings}
use Rattle.q_resolve.specs.declared.leaves.Owner.{Owner}
use Rattle.q_resolve.specs.declared.finding.Found.{Found}
use Rattle.q_resolve.specs.declared.finding.Found.TheVariants.{Nothing, Gone, Single, Double}
use Rattle.q_resolve.specs.Leaves.{MayStand}
use Rattle.q_resolve.specs.Sides.{sided, side_values, line_values}
use Rattle.q_resolve.specs.Merging.{mentions, is_merged, IsSayingOf, IsReady}
use Rattle.q_resolve.specs.Judged.{AreParentsBound, IsDone, IsSingleStep, IsDoubleStep, IsLineJudged, parents_at, found_parents, found_one, found_two, found_of, found_at, line_at, sources_in, AreRight}
use Rattle.q_resolve.specs.Derived.{IsSided, IsCovered, IsDerivedFrom, IsStood}
use Rattle.q_resolve.proofs.Sided.{side-same, line-out, line-plain, line-same, grown-value}
use Rattle.q_resolve.proofs.LineFaults.{kept-same, shed-same, turn-same, merges-same, resolved-bound}
use Rattle.q_resolve.proofs.Merging.{both-of, false-of, resolvent-saying, resolvent-local, first-rest, second-rest}
use Rattle.q_resolve.proofs.Passing.{front-values, back-values, whole-values, whole-local, taken-away, kept-values, line-saying, line-local}

-- earlier lines
place-there : (es : List Entry) (n a i : ℕ) → place_of (take n es) a ≡ Some i → (i < n) × (e : Entry) × (slice_get es i ≡ Some e) × (e.number ≡ a)
place-there [] n a i h = absurd (nothing-there n h)
  where
    nothing-there : (n : ℕ) → place_of (take n []) a ≡ Some i → ⊥
    nothing-there zero h = cc
    nothing-there (suc n) h = cc
place-there (e ∷ es) zero a i h = absurd (cc)
place-there (e ∷ es) (suc n) a i h = go (eqb e.number a) refl h (place-there es n a)
  where
    Deeper : Type 0
    Deeper = (j : ℕ) → place_of (take n es) a ≡ Some j → (j < n) × (x : Entry) × (slice_get es j ≡ Some x) × (x.number ≡ a)

    deeper : Deeper → (o : Option ℕ) → place_of (take n es) a ≡ o → option_map suc o ≡ Some i →
        (i < suc n) × (x : Entry) × (slice_get (e ∷ es) i ≡ Some x) × (x.number ≡ a)
    deeper ih None p k = absurd (cc)
    deeper ih (Some j) p k =
        let r = ih j p in
        let z : i ≡ suc j = cc in
        (let l = r.0 in omega arith, r.1, subst (λ m. slice_get (e ∷ es) m ≡ Some r.1) (sym z) r.2, r.3)

    go : (b : Bool) → eqb e.number a ≡ b → cond b (Some 0) (option_map suc (place_of (take n es) a)) ≡ Some i → Deeper →
        (i < suc n) × (x : Entry) × (slice_get (e ∷ es) i ≡ Some x) × (x.number ≡ a)
    go true q k ih = let z : i ≡ 0 = cc in (omega arith, e, subst (λ j. slice_get (e ∷ es) j ≡ Some e) (sym z) refl, grind arith)
    go false q k ih = deeper ih (place_of (take n es) a) refl k

pub earlier-there : (es : List Entry) (n a i : ℕ) → earlier es n a ≡ Some i → (i < n) × (e : Entry) × (slice_get es i ≡ Some e) × (e.number ≡ a)
earlier-there = place-there

-- the places of lines by which a line stands
pub found-parents : (es : List Entry) (n : ℕ) (s : Sources) → found_parents es (found_of es n s) ≡ parents es n s
found-parents es n none = refl
found-parents es n (one a) = go (earlier es n a)
  where
    go : (x : Option ℕ) → found_parents es (found_one x) ≡ single_of es x
    go None = refl
    go (Some i) = refl
found-parents es n (two a b) = go (earlier es n a) (earlier es n b)
  where
    go : (x y : Option ℕ) → found_parents es (found_two x y) ≡ double_of es x y
    go None y = refl
    go (Some i) None = refl
    go (Some i) (Some j) = refl

-- what is known of the parents: each is a line of the cone before
abbrev IsKnown : Owner → Prefix → List Line → Drops → Sayings → List Entry → ℕ → Type 0
IsKnown o P lines d s es i = AreBound P (line_at es i) × IsCovered o P lines d (said_in s i) (line_at es i)

abbrev AreKnown : Owner → Prefix → List Line → Drops → Sayings → List Entry → Found → Type 0
AreKnown o P lines d s es Nothing = Unit {0}
AreKnown o P lines d s es Gone = Unit {0}
AreKnown o P lines d s es (Single i) = IsKnown o P lines d s es i
AreKnown o P lines d s es (Double i j) = IsKnown o P lines d s es i × IsKnown o P lines d s es j

abbrev AllCovered : Owner → Prefix → List Entry → ℕ → List Line → Drops → Sayings → Type 0
AllCovered o P es n lines d s = (m : ℕ) → m < n → InCone es m → (x : Entry) → slice_get es m ≡ Some x → IsCovered o P lines d (said_in s m) x.literals

of-one : (o : Owner) (P : Prefix) (X : Matrix) (es : List Entry) (n : ℕ) (e : Entry) (lines : List Line) (d : Drops) (s : Sayings) (a i : ℕ) → AreRight o P X es n →
    AllCovered o P es n lines d s → InCone es n → slice_get es n ≡ Some e → IsNamed e.sources a → earlier es n a ≡ Some i → IsKnown o P lines d s es i
of-one o P X es n e lines d s a i right has c q m h =
    let r = earlier-there es n a i h in
    let z : InCone es i = further i e a c q m h in
    let w = right i r.0 z r.1 r.2 in
    let t : line_at es i ≡ r.1.literals = ap literals_in r.2 in (
      subst (AreBound P) (sym t) w.bound,
      subst (IsCovered o P lines d (said_in s i)) (sym t) (has i r.0 z r.1 r.2),
    )

of-parents : (o : Owner) (P : Prefix) (X : Matrix) (es : List Entry) (n : ℕ) (e : Entry) (lines : List Line) (d : Drops) (s : Sayings) → AreRight o P X es n →
    AllCovered o P es n lines d s → InCone es n → slice_get es n ≡ Some e → (x : Sources) → e.sources ≡ x → AreKnown o P lines d s es (found_of es n x)
of-parents o P X es n e lines d s right has c q none t = tt
of-parents o P X es n e lines d s right has c q (one a) t = go (earlier es n a) refl
  where
    go : (x : Option ℕ) → earlier es n a ≡ x → AreKnown o P lines d s es (found_one x)
    go None h = tt
    go (Some i) h = of-one o P X es n e lines d s a i right has c q (subst (λ (z : Sources). IsNamed z a) (sym t) refl) h
of-parents o P X es n e lines d s right has c q (two a b) t = go (earlier es n a) refl (earlier es n b) refl
  where
    go : (x : Option ℕ) → earlier es n a ≡ x → (y : Option ℕ) → earlier es n b ≡ y → AreKnown o P lines d s es (found_two x y)
    go None h y k = tt
    go (Some i) h None k = tt
    go (Some i) h (Some j) k = (
      of-one o P X es n e lines d s a i right has c q (subst (λ (z : Sources). IsNamed z a) (sym t) (inl refl)) h,
      of-one o P X es n e lines d s b j right has c q (subst (λ (z : Sources). IsNamed z b) (sym t) (inr refl)) k,
    )

bound-of-them : (o : Owner) (P : Prefix) (lines : List Line) (d : Drops) (s : Sayings) (es : List Entry) (f : Found) → AreKnown o P lines d s es f → AreParentsBound P (found_parents es f)
bound-of-them o P lines d s es Nothing h = tt
bound-of-them o P lines d s es Gone h = tt
bound-of-them o P lines d s es (Single i) h = h.0
bound-of-them o P lines d s es (Double i j) h = (h.0.0, h.1.0)

-- the start
pub derived-start : (o : Owner) (P : Prefix) (X : Matrix) (es : List Entry) (d : Drops) (s : Sayings) → drops_in d ≡ [] → IsDerivedFrom o P X es 0 d s
derived-start o P X es d s e = record {
  lines = [];
  derivation = record { local = λ n line h. absurd (cc); follows = λ n line h. absurd (cc) };
  same = e;
  covers = λ m l c x h. absurd (omega arith);
}

pub right-start : (o : Owner) (P : Prefix) (X : Matrix) (es : List Entry) → AreRight o P X es 0
right-start o P X es m l c e h = absurd (omega arith)

split-last : (m n : ℕ) → m < n + 1 → (m < n) ⊎ (m ≡ n)
split-last m n l = go (eqb m n) refl
  where
    go : (b : Bool) → eqb m n ≡ b → (m < n) ⊎ (m ≡ n)
    go true e = inr (grind arith)
    go false e = inl (grind arith)

-- a line outside the cone
pub derived-skip : (o : Owner) (P : Prefix) (X : Matrix) (es : List Entry) (n : ℕ) (d : Drops) (s : Sayings) → (InCone es n → ⊥) →
    IsDerivedFrom o P X es n d s → IsDerivedFrom o P X es (n + 1) d s
derived-skip o P X es n d s out h = record {
  lines = h.lines;
  derivation = h.derivation;
  same = h.same;
  covers = λ m l c e q. elim (split-last m n l) [ inl k ↦ h.covers m k c e q | inr k ↦ absurd (out (subst (InCone es) k c)) ];
}

pub right-skip : (o : Owner) (P : Prefix) (X : Matrix) (es : List Entry) (n : ℕ) → (InCone es n → ⊥) → AreRight o P X es n → AreRight o P X es (n + 1)
right-skip o P X es n out h m l c e s = elim (split-last m n l) [ inl k ↦ h m k c e s | inr k ↦ absurd (out (subst (InCone es) k c)) ]

pub ready-skip : (n : ℕ) (d : Drops) (s : Sayings) → IsReady n d s → IsReady (n + 1) d s
ready-skip n d s h = record { sound = h.sound; fresh = h.fresh; below = h.below; later = λ m x l. h.later m x (omega arith) }

-- a line of the cone
pub parents-bound : (o : Owner) (P : Prefix) (X : Matrix) (es : List Entry) (n : ℕ) (d : Drops) (s : Sayings) (e : Entry) → AreRight o P X es n →
    IsDerivedFrom o P X es n d s → InCone es n → slice_get es n ≡ Some e → AreParentsBound P (parents_at es n)
parents-bound o P X es n d s e right h c q =
    subst (λ (x : Option Entry). AreParentsBound P (parents es n (sources_in x))) (sym q)
    (subst (AreParentsBound P) (found-parents es n e.sources)
    (bound-of-them o P h.lines d s es (found_of es n e.sources) (of-parents o P X es n e h.lines d s right h.covers c q e.sources refl)))

pub right-step : (o : Owner) (P : Prefix) (X : Matrix) (es : List Entry) (n : ℕ) (e : Entry) → AreRight o P X es n → slice_get es n ≡ Some e →
    AreBound P e.literals → Stands P (MayStand o X) (parents es n e.sources) e.literals → AreRight o P X es (n + 1)
right-step o P X es n e h s b t m l c x q = elim (split-last m n l) [
  | inl k ↦ h m k c x q
  | inr k ↦
      let y : x ≡ e = (let z : Some x ≡ Some e = sym q ∙ ap (slice_get es) k ∙ s in cc) in
      subst (λ i. IsRight P (MayStand o X) es i x) (sym k)
      (subst (λ (w : Entry). IsRight P (MayStand o X) es n w) (sym y) (record { bound = b; stands = t }))
]

-- the same is said
same-saying : (P : Prefix) (f g : ℕ → Option ℕ) (T : List Literal) → ((x : ℕ) → g x ≡ f x) → IsSayingOf P f T → IsSayingOf P g T
same-saying P f g T e h = record {
  whole = λ x m. let r = h.whole x m in (r.0, e x ∙ r.1);
  only = λ x m. e x ∙ h.only x m;
}

-- a line that stands in a derivation stands in a longer one, over more merges
pub covered-more : (o : Owner) (P : Prefix) (lines more : List Line) (old new : Drops) (ms : List Merge) (f g : ℕ → Option ℕ) (T : List Literal) →
    ((S : List Value) → HasLine lines S → HasLine more S) → new.merges.items ≡ old.merges.items ++ ms → ((x : ℕ) → g x ≡ f x) →
    ((x i : ℕ) → f x ≡ Some i → i < length old.merges.items) → IsCovered o P lines old f T → IsCovered o P more new g T
covered-more o P lines more old new ms f g T k e w b h = record {
  saying = same-saying P f g T w h.saying;
  there = let r = k _ h.there in (r.0, r.1, r.2, r.3 ∙ sym same);
}
  where
    same : line_values (merge_circuits new.merges.items) g o T ≡ line_values (merge_circuits old.merges.items) f o T
    same = line-same (merge_circuits old.merges.items) (merge_circuits new.merges.items) f g o T (λ j.
        ap (λ (xs : List Merge). value_at (merge_circuits xs) g (sided o j)) e ∙
        side-same (merge_circuits (old.merges.items ++ ms)) g f o j (w j.var) ∙
        grown-value old.merges.items ms f o j (λ i q. b j.var i q))

-- values of literals read nothing
local-side : (o : Owner) (P : Prefix) (T : List Literal) → AreLocal P (side_values o T)
local-side o P [] v m u r = absurd m
local-side o P (k ∷ T) v (inl e) u r = absurd (subst (λ (w : Value). Reads w.circuit u) e r)
local-side o P (k ∷ T) v (inr m) u r = local-side o P T v m u r

leaf-step : (o : Owner) (P : Prefix) (X : Matrix) (es : List Entry) (n : ℕ) (e : Entry) (d : Drops) (s : Sayings) → IsReady n d s → IsDerivedFrom o P X es n d s →
    slice_get es n ≡ Some e → MayStand o X e.literals → (IsMerged P e.literals → ⊥) → IsDerivedFrom o P X es (n + 1) d s
leaf-step o P X es n e d s ready h q l apart =
    let r = leaf-further P (AreOf (IsSided o X)) h.lines (drops h.lines) (side_values o e.literals) (record { derivation = h.derivation; same = refl })
    (local-side o P e.literals) (map (sided o) e.literals, (e.literals, l, refl), refl) in
    record {
      lines = r.0;
      derivation = r.1.derived.derivation;
      same = h.same ∙ sym r.1.derived.same;
      covers = λ m lt c x w. elim (split-last m n lt) [
        | inl k ↦ covered-more o P h.lines r.0 d d [] (said_in s m) (said_in s m) x.literals r.1.kept (sym (append-nil d.merges.items)) (λ y. refl) (ready.below m) (h.covers m k c x w)
        | inr k ↦
            let y : e ≡ x = (let z : Some e ≡ Some x = sym q ∙ ap (slice_get es) (sym k) ∙ w in cc) in
            let none : (z : ℕ) → said_in s m z ≡ None = λ z. ready.later m z (omega arith) in
            subst (λ (z : Entry). IsCovered o P r.0 d (said_in s m) z.literals) y (record {
              saying = record { whole = λ z b. absurd (let w = both-of P e.literals z b in apart (positive z, w.owned, w.yes, w.no)); only = λ z b. none z };
              there = (r.1.there.0, r.1.there.1, r.1.there.2, r.1.there.3 ∙ sym (line-plain (merge_circuits d.merges.items) (said_in s m) o e.literals none));
            })
      ];
    }

-- A line that follows from others, when what its parent R says is said.
module _ (o : Owner) (P : Prefix) (X : Matrix) (es : List Entry) (n : ℕ) (e : Entry) (old mid new : Drops) (s t : Sayings) (ms : List Merge) (R : List Literal)
    (ready : IsReady n old s) (at : slice_get es n ≡ Some e) (more : mid.merges.items ≡ old.merges.items ++ ms) (keeps : drops_in mid ≡ drops_in old)
    (sound : AreSound mid) (bound : AreBound P R) (kept : IsKept P R e.literals) (shed : IsShed P R e.literals) (merges : MergesOnly P R e.literals)
    (saying : IsSayingOf P (said_next mid) R) (done : IsDone o P R e.literals n mid new s t) where
  abbrev pub T : List Literal
  T = e.literals

  abbrev pub cs : List Circuit
  cs = merge_circuits mid.merges.items

  same : (x : ℕ) → said_in t n x ≡ cond (is_merged P T x) (said_next mid x) None
  same x = done.kept n x ∙ here (eqb n n) (grind arith) ∙ ap (λ (r : Option ℕ). cond (is_merged P T x) (said_next mid x) r) (ready.later n x (omega arith))
    where
      here : (b : Bool) → b ≡ true → cond (b && is_merged P T x) (said_next mid x) (said_in s n x) ≡ cond (is_merged P T x) (said_next mid x) (said_in s n x)
      here true q = refl
      here false q = absurd (cc)

  before : (m x : ℕ) → eqb m n ≡ false → said_in t m x ≡ said_in s m x
  before m x q = done.kept m x ∙ ap (λ (b : Bool). cond (b && is_merged P T x) (said_next mid x) (said_in s m x)) q

  whole : new.merges.items ≡ old.merges.items ++ ms
  whole = ap (λ xs. xs.items) done.taken.merges ∙ more

  pub pass-ready : IsReady (n + 1) new t
  pass-ready = record {
    sound = done.taken.sound;
    fresh = done.taken.next;
    below = λ m x i q. below m x i q;
    later = λ m x l. before m x (let z : eqb m n ≡ false = grind arith in z) ∙ ready.later m x (omega arith);
  }
    where
      below : (m x i : ℕ) → said_in t m x ≡ Some i → i < length new.merges.items
      below m x i q = go (eqb m n && is_merged P T x) (sym (done.kept m x) ∙ q)
        where
          go : (b : Bool) → cond b (said_next mid x) (said_in s m x) ≡ Some i → i < length new.merges.items
          go true p = subst (λ (xs : List Merge). i < length xs) (sym (ap (λ xs. xs.items) done.taken.merges)) (sound.said (length mid.guards) x i p)
          go false p =
              let l = ready.below m x i p in
              let z = length-append old.merges.items ms in
              subst (λ (xs : List Merge). i < length xs) (sym whole) (omega arith)

  pub pass-derived : (h : IsDerivedFrom o P X es n old s) → AreLocal P (line_values cs (said_next mid) o R) →
      ((V : List Value) → ((j : Literal) → IsIn j R → IsIn (value_at cs (said_next mid) (sided o j)) V) → AreLocal P V →
      (lines : List Line) × IsFurther P (AreOf (IsSided o X)) h.lines lines V (drops h.lines)) → IsDerivedFrom o P X es (n + 1) new t
  pass-derived h local parent =
      let G = front-values o P cs (said_next mid) (said_in t n) R T bound kept shed merges saying same in
      let B = back-values o P cs (said_next mid) (said_in t n) R T bound kept shed merges saying same in
      let lg = whole-local o P cs (said_next mid) (said_in t n) R T bound kept shed merges saying same local in
      let lt = line-local o P cs (said_next mid) (said_in t n) R T bound kept shed merges saying same local in
      let f = parent (G ++ B) (whole-values o P cs (said_next mid) (said_in t n) R T bound kept shed merges saying same) lg in
      let r = taken-further P (AreOf (IsSided o X)) h.lines f.0 (drops h.lines) (line_values cs (said_in t n) o T) G B f.1 lg lt
      (taken-away o P cs (said_next mid) (said_in t n) R T bound kept shed merges saying same)
      (kept-values o P cs (said_next mid) (said_in t n) R T bound kept shed merges saying same) in
      record {
        lines = r.0;
        derivation = r.1.derived.derivation;
        same = done.taken.drops ∙ ap (λ (ds : List Drop). ds ++ drops_of B G) (keeps ∙ h.same) ∙ sym r.1.derived.same;
        covers = λ m l c x w. elim (split-last m n l) [
          | inl k ↦ covered-more o P h.lines r.0 old new ms (said_in s m) (said_in t m) x.literals r.1.kept whole
              (λ y. before m y (let z : eqb m n ≡ false = grind arith in z)) (ready.below m) (h.covers m k c x w)
          | inr k ↦
              let y : e ≡ x = (let z : Some e ≡ Some x = sym at ∙ ap (slice_get es) (sym k) ∙ w in cc) in
              subst (λ (i : ℕ). IsCovered o P r.0 new (said_in t i) x.literals) (sym k)
              (subst (λ (z : Entry). IsCovered o P r.0 new (said_in t n) z.literals) y (record {
                saying = line-saying o P cs (said_next mid) (said_in t n) R T bound kept shed merges saying same;
                there = (r.1.there.0, r.1.there.1, r.1.there.2, r.1.there.3 ∙ ap (λ xs. line_values (merge_circuits xs.items) (said_in t n) o T) (sym done.taken.merges));
              }))
        ];
      }

-- what is said of the variables of a line alone
mentions-in : (x : ℕ) (T : List Literal) (k : Literal) → IsIn k T → k.var ≡ x → mentions x T ≡ true
mentions-in x [] k m e = absurd m
mentions-in x (j ∷ T) k (inl q) e = let z : eqb j.var x ≡ true = (let w : j.var ≡ x = sym (ap (λ (y : Literal). y.var) q) ∙ e in grind arith) in rw z refl
mentions-in x (j ∷ T) k (inr m) e = go (eqb j.var x) (mentions-in x T k m e)
  where
    go : (b : Bool) → mentions x T ≡ true → cond b true (mentions x T) ≡ true
    go true h = refl
    go false h = h

single-next : (P : Prefix) (f : ℕ → Option ℕ) (S : List Literal) (x : ℕ) → IsSayingOf P f S → cond (mentions x S) (f x) None ≡ f x
single-next P f S x h = go (mentions x S) refl
  where
    go : (b : Bool) → mentions x S ≡ b → cond b (f x) None ≡ f x
    go true e = refl
    go false e = sym (h.only x (false-of (is_merged P S x) (λ m. let z : mentions x S ≡ true = mentions-in x S (positive x) (both-of P S x m).yes refl in cc)))

-- the lines of a derivation are local
line-is-local : (o : Owner) (P : Prefix) (X : Matrix) (es : List Entry) (n : ℕ) (d : Drops) (s : Sayings) (f : ℕ → Option ℕ) (T : List Literal) →
    (h : IsDerivedFrom o P X es n d s) → IsCovered o P h.lines d f T → AreLocal P (line_values (merge_circuits d.merges.items) f o T)
line-is-local o P X es n d s f T h c = let r = c.there in subst (AreLocal P) r.3 (h.derivation.local r.0 r.1 r.2)

bound-universal : (P : Prefix) (x : ℕ) → is_bound P x ≡ true → is_existential P x ≡ false → is_universal P x ≡ true
bound-universal [] x h e = absurd (cc)
bound-universal (b ∷ P) x h e = go (eqb b.var x) h e (bound-universal P x)
  where
    go : (c : Bool) → cond c true (is_bound P x) ≡ true → cond c (is_exists b.quant) (is_existential P x) ≡ false →
        (is_bound P x ≡ true → is_existential P x ≡ false → is_universal P x ≡ true) → cond c (not (is_exists b.quant)) (is_universal P x) ≡ true
    go true h e ih = ap not e
    go false h e ih = ih h e

-- a line more
pub record IsStep (o : Owner) (P : Prefix) (X : Matrix) (es : List Entry) (n : ℕ) (new : Drops) (t : Sayings) : Type 0 where
  pub ready : IsReady n new t
  pub pivots : HavePivotsIn (is_universal P) new.merges.items
  pub derived : IsDerivedFrom o P X es n new t

single-step : (o : Owner) (P : Prefix) (X : Matrix) (es : List Entry) (n i : ℕ) (e : Entry) (old new : Drops) (s t : Sayings) → IsReady n old s →
    HavePivotsIn (is_universal P) old.merges.items → (h : IsDerivedFrom o P X es n old s) → slice_get es n ≡ Some e → IsKnown o P h.lines old s es i →
    IsSingleStep o P (line_at es i) e.literals (said_in s i) n old new s t → IsStep o P X es (n + 1) new t
single-step o P X es n i e old new s t ready pivots h at (b, c) (mo, ke, sh, mid, sa, done) = record {
  ready = pass-ready o P X es n e old mid new s t [] S ready at more sa.drops sa.sound b ke sh mo saying done;
  pivots = subst (λ (xs : List Merge). HavePivotsIn (is_universal P) xs) (sym (ap (λ xs. xs.items) done.taken.merges ∙ same)) pivots;
  derived = pass-derived o P X es n e old mid new s t [] S ready at more sa.drops sa.sound b ke sh mo saying done h local parent;
}
  where
    S : List Literal
    S = line_at es i

    same : mid.merges.items ≡ old.merges.items
    same = ap (λ xs. xs.items) sa.merges

    more : mid.merges.items ≡ old.merges.items ++ []
    more = same ∙ sym (append-nil old.merges.items)

    next : (x : ℕ) → said_next mid x ≡ said_in s i x
    next x = sa.next x ∙ single-next P (said_in s i) S x c.saying

    saying : IsSayingOf P (said_next mid) S
    saying = same-saying P (said_in s i) (said_next mid) S next c.saying

    values : (j : Literal) → value_at (merge_circuits mid.merges.items) (said_next mid) (sided o j) ≡ value_at (merge_circuits old.merges.items) (said_in s i) (sided o j)
    values j = ap (λ (xs : List Merge). value_at (merge_circuits xs) (said_next mid) (sided o j)) same ∙ side-same (merge_circuits old.merges.items) (said_next mid) (said_in s i) o j (next j.var)

    lines-same : line_values (merge_circuits mid.merges.items) (said_next mid) o S ≡ line_values (merge_circuits old.merges.items) (said_in s i) o S
    lines-same = line-same (merge_circuits old.merges.items) (merge_circuits mid.merges.items) (said_in s i) (said_next mid) o S values

    local : AreLocal P (line_values (merge_circuits mid.merges.items) (said_next mid) o S)
    local = subst (AreLocal P) (sym lines-same) (line-is-local o P X es n old s (said_in s i) S h c)

    parent : (V : List Value) → ((j : Literal) → IsIn j S → IsIn (value_at (merge_circuits mid.merges.items) (said_next mid) (sided o j)) V) → AreLocal P V →
        (lines : List Line) × IsFurther P (AreOf (IsSided o X)) h.lines lines V (drops h.lines)
    parent V w l =
        weaker-further P (AreOf (IsSided o X)) h.lines (drops h.lines) (line_values (merge_circuits old.merges.items) (said_in s i) o S) V
        (record { derivation = h.derivation; same = refl }) c.there l
        (λ v m. let r = line-out (merge_circuits old.merges.items) (said_in s i) o S v m in subst (λ (x : Value). IsIn x V) (values r.0 ∙ sym r.2) (w r.0 r.1))

double-step : (o : Owner) (P : Prefix) (X : Matrix) (es : List Entry) (n i j : ℕ) (e : Entry) (old new : Drops) (s t : Sayings) → IsReady n old s →
    HavePivotsIn (is_universal P) old.merges.items → (h : IsDerivedFrom o P X es n old s) → slice_get es n ≡ Some e → IsKnown o P h.lines old s es i → IsKnown o P h.lines old s es j →
    IsDoubleStep o P (line_at es i) (line_at es j) e.literals (said_in s i) (said_in s j) n old new s t → IsStep o P X es (n + 1) new t
double-step o P X es n i j e old new s t ready pivots h at (bs, c) (bu, d) (k, R, ((pv, mm, mo), ke, sh, rs), mid, sa, done) = record {
  ready = pass-ready o P X es n e old mid new s t ms R ready at sa.further.merges.1 sa.further.drops sa.further.sound bound kept shed merges saying done;
  pivots = subst (λ (xs : List Merge). HavePivotsIn (is_universal P) xs) (sym (ap (λ xs. xs.items) done.taken.merges)) (sa.further.pivots (is_universal P) uk pivots);
  derived = pass-derived o P X es n e old mid new s t ms R ready at sa.further.merges.1 sa.further.drops sa.further.sound bound kept shed merges saying done h local parent;
}
  where
    S : List Literal
    S = line_at es i

    U : List Literal
    U = line_at es j

    ms : List Merge
    ms = sa.further.merges.0

    f : ℕ → Option ℕ
    f = said_in s i

    g : ℕ → Option ℕ
    g = said_in s j

    uk : is_universal P k.var ≡ true
    uk = bound-universal P k.var (bs k pv.1) pv.0

    bound : AreBound P R
    bound = resolved-bound P S U R k bs bu rs

    kept : IsKept P R e.literals
    kept = kept-same P (resolvent S U k) R e.literals (λ x. (rs x).0) ke

    shed : IsShed P R e.literals
    shed = shed-same P R (resolvent S U k) e.literals (turn-same (resolvent S U k) R rs) sh

    merges : MergesOnly P R e.literals
    merges = merges-same P R (resolvent S U k) e.literals (λ x. (rs x).1) mo

    all : List Merge
    all = mid.merges.items

    saying : IsSayingOf P (said_next mid) R
    saying = resolvent-saying o P k f g (said_next mid) S U R all sa.further.sound.merges pv.0 rs c.saying d.saying (λ x q. (sa.next x).0 q) (λ x q. (sa.next x).1 q)

    first : IsCovered o P h.lines mid f S
    first = covered-more o P h.lines h.lines old mid ms f f S (λ V w. w) sa.further.merges.1 (λ x. refl) (ready.below i) c

    second : IsCovered o P h.lines mid g U
    second = covered-more o P h.lines h.lines old mid ms g g U (λ V w. w) sa.further.merges.1 (λ x. refl) (ready.below j) d

    one-local : (f : ℕ → Option ℕ) (S : List Literal) → IsCovered o P h.lines mid f S → AreLocal P (line_values (merge_circuits all) f o S)
    one-local f S c = let r = c.there in subst (AreLocal P) r.3 (h.derivation.local r.0 r.1 r.2)

    local : AreLocal P (line_values (merge_circuits all) (said_next mid) o R)
    local = resolvent-local o P k f g (said_next mid) S U R all sa.further.sound.merges pv.0 rs c.saying d.saying (λ x q. (sa.next x).0 q) (λ x q. (sa.next x).1 q)
        uk mm (one-local f S first) (one-local g U second)

    parent : (V : List Value) → ((q : Literal) → IsIn q R → IsIn (value_at (merge_circuits all) (said_next mid) (sided o q)) V) → AreLocal P V →
        (lines : List Line) × IsFurther P (AreOf (IsSided o X)) h.lines lines V (drops h.lines)
    parent V w l =
        resolved-further P (AreOf (IsSided o X)) h.lines (drops h.lines) (line_values (merge_circuits all) f o S) (line_values (merge_circuits all) g o U) V (sided o k)
        (record { derivation = h.derivation; same = refl }) first.there second.there l
        (first-rest o P k f g (said_next mid) S U R all sa.further.sound.merges pv.0 rs c.saying d.saying (λ x q. (sa.next x).0 q) (λ x q. (sa.next x).1 q) V w)
        (second-rest o P k f g (said_next mid) S U R all sa.further.sound.merges pv.0 rs c.saying d.saying (λ x q. (sa.next x).0 q) (λ x q. (sa.next x).1 q) V w)

pub stood-step : (o : Owner) (P : Prefix) (X : Matrix) (es : List Entry) (n : ℕ) (e : Entry) (old new : Drops) (s t : Sayings) → IsStood o P X es n old s → InCone es n →
    slice_get es n ≡ Some e → IsLineJudged o P X es n (found_at es n) (line_at es n) old new s t None → IsStood o P X es (n + 1) new t
stood-step o P X es n e old new s t h c q j =
    by (found_of es n e.sources) refl (of-parents o P X es n e h.derived.lines old s h.right h.derived.covers c q e.sources refl)
    (subst (λ (x : Option Entry). IsLineJudged o P X es n (found_of es n (sources_in x)) (literals_in x) old new s t None) q j)
  where
    right : (f : Found) → found_of es n e.sources ≡ f → AreBound P e.literals → Stands P (MayStand o X) (found_parents es f) e.literals → AreRight o P X es (n + 1)
    right f p b w = right-step o P X es n e h.right q b
        (subst (λ (x : Parents). Stands P (MayStand o X) x e.literals) (sym (ap (found_parents es) p) ∙ found-parents es n e.sources) w)

    same : AreRight o P X es (n + 1) → IsDerivedFrom o P X es (n + 1) old s → (new ≡ old) × (t ≡ s) → IsStood o P X es (n + 1) new t
    same r d (a, b) =
        subst (λ (x : Drops). IsStood o P X es (n + 1) x t) (sym a) (subst (λ (x : Sayings). IsStood o P X es (n + 1) old x) (sym b)
        (record { right = r; ready = ready-skip n old s h.ready; pivots = h.pivots; derived = d }))

    step : AreRight o P X es (n + 1) → IsStep o P X es (n + 1) new t → IsStood o P X es (n + 1) new t
    step r d = record { right = r; ready = d.ready; pivots = d.pivots; derived = d.derived }

    by : (f : Found) → found_of es n e.sources ≡ f → AreKnown o P h.derived.lines old s es (found_of es n e.sources) →
        IsLineJudged o P X es n (found_of es n e.sources) e.literals old new s t None → IsStood o P X es (n + 1) new t
    by f p a l = kind f p (subst (AreKnown o P h.derived.lines old s es) p a) (subst (λ (x : Found). IsLineJudged o P X es n x e.literals old new s t None) p l)
      where
        kind : (f : Found) → found_of es n e.sources ≡ f → AreKnown o P h.derived.lines old s es f → IsLineJudged o P X es n f e.literals old new s t None →
            IsStood o P X es (n + 1) new t
        kind Nothing p a (b, w, x) = same (right Nothing p b w) (leaf-step o P X es n e old s h.ready h.derived q w.0 w.1) x
        kind Gone p a (b, w, x) = same (right Gone p b w) (leaf-step o P X es n e old s h.ready h.derived q w.0 w.1) x
        kind (Single i) p a (b, w, x) = step (right (Single i) p b w) (single-step o P X es n i e old new s t h.ready h.pivots h.derived q a x)
        kind (Double i j) p a (b, w, x) = step (right (Double i j) p b w) (double-step o P X es n i j e old new s t h.ready h.pivots h.derived q a.0 a.1 x)
