-- A derivation of the empty line under its own circuits: the end holds.
use Rattle.std.proofs.Common.{◌≡◌, ℕ, zero, suc, ◌<◌, Bool, true, false, cond, eqb, not, List, [], ◌∷◌, ◌⊎◌, ◌||◌, inl, inr, arith, refl, sym, ap, ◌∙◌, subst, slice_get, Some, None}
use Rattle.q_logic.specs.Prelude.{Literal, negation, Prefix, IsIn, is_existential, is_universal, is_bound, universal_before, Distinct, Assignment, literal_true, signed, bool_eq, Circuit, choice, value_of, Reads, Strategy, Lawful, circuit_of, or_input, given, outcome}
use Rattle.q_logic.specs.Prefixes.{place}
use Rattle.q_logic.proofs.ClauseLemmas.{circuit_of-none, IsIn-append}
use Rattle.q_logic.proofs.PrefixOrder.{existential-is_bound, is_bound-universal, universal-not_existential}
use Rattle.q_logic.proofs.Lists.{IsIn-slice_get}
use Rattle.q_logic.proofs.TreeValues.{value_of-agree}
use Rattle.q_derive.specs.Derivations.{Reason, leaf, resolve, reduce}
use Rattle.q_derive.proofs.Layers.{place-bound, place-before, before-further}
use Rattle.q_long.specs.Valued.{Value, value_for, has_value, HaveAll, Line, IsBefore, picked, Stays, IsRest, IsTaken, Follows, AreLocal, IsDerivation, IsAnyDerivation, IsLeafOf, HasEmpty}
use Rattle.q_long.specs.Decided.{Drop, values_of, gives, drops_to, drops_by, drops_in, drops, decided, decision, circuits_by, circuits_of, IsBehind, AreBehind}
use Rattle.q_long.proofs.Deciding.{mux, have_all-sound, have_all-complete, SomeSo, first-says, AllSeen, decided-value, ReadBy, Reads-decided}
use Rattle.q_long.proofs.Layers.{all-given, StandsAt, all-at}

-- What is kept stands before what is taken away.
gives-in : (x : ℕ) (T : List Value) → gives x T ≡ true → (v : Value) × IsIn v T × (v.var ≡ x)
gives-in x [] h = absurd (cc)
gives-in x (v ∷ T) h = go (eqb v.var x) refl h (gives-in x T)
  where
    go : (b : Bool) → eqb v.var x ≡ b → b || gives x T ≡ true → (gives x T ≡ true → (w : Value) × IsIn w T × (w.var ≡ x)) →
        (w : Value) × IsIn w (v ∷ T) × (w.var ≡ x)
    go true p q ih = (v, inl refl, grind arith)
    go false p q ih = let r = ih q in (r.0, inr r.1, r.2)

pub in-gives : (v : Value) (T : List Value) → IsIn v T → gives v.var T ≡ true
in-gives v [] m = elim m [ ]
in-gives v (w ∷ T) (inl e) =
    let q : eqb w.var v.var ≡ true = let z : w.var ≡ v.var = ap (λ (x : Value). x.var) (sym e) in grind arith in rw q refl
in-gives v (w ∷ T) (inr m) = let r = in-gives v T m in go (eqb w.var v.var) r
  where
    go : (b : Bool) → gives v.var T ≡ true → b || gives v.var T ≡ true
    go true r = refl
    go false r = r

absent : (P : Prefix) (S T : List Value) (g : Value) → IsTaken P S T g → gives g.var T ≡ false
absent P S T g k = go (gives g.var T) refl
  where
    go : (b : Bool) → gives g.var T ≡ b → gives g.var T ≡ false
    go true p =
        let r = gives-in g.var T p in
        absurd (let z : place P r.0.var < place P g.var = k.behind r.0 r.1 in let s : place P r.0.var ≡ place P g.var = ap (place P) r.2 in omega arith)
    go false p = p

to-behind : (P : Prefix) (S T : List Value) (d : Drop) → IsIn d (drops_to S T) → AreLocal P T → AreLocal P S →
    ((g : Value) → IsIn g S → gives g.var T ≡ false → (v : Value) → IsIn v T → place P v.var < place P g.var) → IsBehind P d
to-behind P [] T d m lt ls f = elim m [ ]
to-behind P (w ∷ S) T d m lt ls f = go (gives w.var T) refl m (λ i. to-behind P S T d i lt (λ v n. ls v (inr n)) (λ g n. f g (inr n)))
  where
    go : (b : Bool) → gives w.var T ≡ b → IsIn d (cond b (drops_to S T) (record { value = w; kept = T } ∷ drops_to S T)) →
        (IsIn d (drops_to S T) → IsBehind P d) → IsBehind P d
    go true p i ih = ih i
    go false p (inl e) ih = subst (IsBehind P) (sym e) (record {
      behind = f w (inl refl) p;
      local = lt;
      itself = λ v n. elim n [
        | inl q ↦ subst (λ (x : Value). (u : ℕ) → Reads x.circuit u → universal_before P u x.var ≡ true) (sym q) (ls w (inl refl))
        | inr q ↦ absurd q
      ];
    })
    go false p (inr i) ih = ih i

by-behind : (P : Prefix) (L : List Value → Type 0) (lines : List Line) → IsDerivation P L lines → (n : ℕ) (line : Line) → slice_get lines n ≡ Some line →
    (r : Reason) → Follows P L lines n line.values r → (d : Drop) → IsIn d (drops_by lines line.values r) → IsBehind P d
by-behind P L lines a n line at leaf f d m = elim m [ ]
by-behind P L lines a n line at (resolve i j l) f d m = elim m [ ]
by-behind P L lines a n line at (reduce i) (S, (x, h, p, q), red) d m =
    to-behind P (values_of (slice_get lines i)) line.values d m (a.local n line at) (subst (AreLocal P) (sym same) local) all
  where
    same : values_of (slice_get lines i) ≡ S
    same = ap values_of p ∙ q

    local : AreLocal P S
    local = subst (AreLocal P) q (a.local i x p)

    all : (g : Value) → IsIn g (values_of (slice_get lines i)) → gives g.var line.values ≡ false → (v : Value) → IsIn v line.values →
        place P v.var < place P g.var
    all g i h v j = go (red g (subst (IsIn g) same i))
      where
        go : IsIn g line.values ⊎ IsTaken P S line.values g → place P v.var < place P g.var
        go (inl k) = absurd (let z : gives g.var line.values ≡ true = in-gives g line.values k in cc)
        go (inr t) = t.behind v j

in-behind : (P : Prefix) (lines last : List Line) →
    ((line : Line) → IsIn line last → (d : Drop) → IsIn d (drops_by lines line.values line.reason) → IsBehind P d) →
    (d : Drop) → IsIn d (drops_in lines last) → IsBehind P d
in-behind P lines [] f d m = elim m [ ]
in-behind P lines (l ∷ last) f d m =
    elim (IsIn-append d (drops_by lines l.values l.reason) (drops_in lines last) m) [
      | inl i ↦ f l (inl refl) d i
      | inr i ↦ in-behind P lines last (λ x n. f x (inr n)) d i
    ]

pub drops-behind : (P : Prefix) (L : List Value → Type 0) (lines : List Line) → IsDerivation P L lines → AreBehind P (drops lines)
drops-behind P L lines a = in-behind P lines lines each
  where
    each : (line : Line) → IsIn line lines → (d : Drop) → IsIn d (drops_by lines line.values line.reason) → IsBehind P d
    each line m =
        let r = IsIn-slice_get lines line m in
        by-behind P L lines a r.0 line r.2 line.reason (a.follows r.0 line r.2)

-- The circuits are lawful.
before-universal : (P : Prefix) (u x : ℕ) → universal_before P u x ≡ true → is_universal P u ≡ true
before-universal [] u x h = absurd (cc)
before-universal (b ∷ P) u x h = grind (arith, before-universal P u x)

reads-before : (P : Prefix) (ds : List Drop) → Distinct P → AreBehind P ds → (n x : ℕ) → place P x < n →
    is_existential P x ≡ true → (u : ℕ) → Reads (circuit_of (circuits_by P ds) x) u →
    universal_before P u x ≡ true
reads-before P ds di a zero x l h u r = absurd (omega arith)
reads-before P ds di a (suc n) x l h u r =
    go (all-at (decided ds) P (λ y. None) x di h) (reads-before P ds di a n)
  where
    c : Strategy
    c = circuits_by P ds

    bound : is_bound P x ≡ true
    bound = existential-is_bound P x h

    through : (y : ℕ) → place P y < place P x → Reads (circuit_of c y) u →
        ((z : ℕ) → place P z < n → is_existential P z ≡ true → (w : ℕ) → Reads (circuit_of c z) w →
        universal_before P w z ≡ true) → (b : Bool) → is_existential P y ≡ b → universal_before P u x ≡ true
    through y p q ih true e = before-further P u y x (ih y (omega arith) e u q) p bound
    through y p q ih false e =
        let g : given (c y) ≡ false = all-given (decided ds) P (λ z. None) y di ∙ (rw e refl) in
        let i : y ≡ u = subst (λ t. Reads t u) (circuit_of-none c y g) q in
        let b : is_universal P y ≡ true = is_bound-universal P y (place-bound P y x p) e in
        subst (λ v. universal_before P v x ≡ true) i (place-before P y x p bound b)

    go : (f : Strategy) × StandsAt (decided ds) P (λ y. None) x f → ((y : ℕ) → place P y < n → is_existential P y ≡ true →
        (w : ℕ) → Reads (circuit_of c y) w → universal_before P w y ≡ true) → universal_before P u x ≡ true
    go (f, s) ih = from (Reads-decided f x ds u (subst (λ o. Reads (or_input x o) u) s.0 r))
      where
        own : (d : Drop) → eqb d.value.var x ≡ true → d.value.var ≡ x
        own d e = grind arith

        front : (d : Drop) → IsIn d ds → eqb d.value.var x ≡ true → (v : Value) → IsIn v d.kept → place P v.var < place P x
        front d m e v i = subst (λ y. place P v.var < place P y) (own d e) ((a d m).behind v i)

        from : ReadBy f x ds u → universal_before P u x ≡ true
        from (d, m, e, inl w) = subst (λ y. universal_before P u y ≡ true) (own d e) ((a d m).itself d.value (inl refl) u w)
        from (d, m, e, inr (v, i, inl w)) =
            let p = front d m e v i in
            through v.var p (subst (λ o. Reads (or_input v.var o) u) (sym (s.1 v.var (inl p))) w) ih (is_existential P v.var) refl
        from (d, m, e, inr (v, i, inr w)) = before-further P u v.var x ((a d m).local v i u w) (front d m e v i) bound

pub lawful-by : (P : Prefix) (ds : List Drop) → Distinct P → AreBehind P ds → Lawful P (circuits_by P ds)
lawful-by P ds di a = record {
  trees = λ x. all-given (decided ds) P (λ y. None) x di ∙ right (is_existential P x);
  reads = λ x h u r. reads-before P ds di a (suc (place P x)) x (omega arith) h u r;
}
  where
    right : (b : Bool) → b || false ≡ b
    right true = refl
    right false = refl

-- Their values.
pub values-by : (P : Prefix) (ds : List Drop) (A : Assignment) (x : ℕ) → Distinct P → AreBehind P ds →
    is_existential P x ≡ true → outcome (circuits_by P ds) A x ≡ decision (outcome (circuits_by P ds) A) x ds
values-by P ds A x di a h = go (all-at (decided ds) P (λ y. None) x di h)
  where
    c : Strategy
    c = circuits_by P ds

    input : (u : ℕ) → is_universal P u ≡ true → A u ≡ outcome c A u
    input u q =
        let n : is_existential P u ≡ false = universal-not_existential P u q in
        let g : given (c u) ≡ false = all-given (decided ds) P (λ z. None) u di ∙ (rw n refl) in
        sym (ap (λ t. value_of t A) (circuit_of-none c u g))

    same : (v : Value) → ((u : ℕ) → Reads v.circuit u → universal_before P u v.var ≡ true) → value_of v.circuit A ≡ value_of v.circuit (outcome c A)
    same v l = value_of-agree v.circuit A (outcome c A) (λ u r. input u (before-universal P u v.var (l u r)))

    go : (f : Strategy) × StandsAt (decided ds) P (λ y. None) x f → outcome c A x ≡ decision (outcome c A) x ds
    go (f, s) = ap (λ o. value_of (or_input x o) A) s.0 ∙ decided-value f x A (outcome c A) ds values
      where
        values : AllSeen f x A (outcome c A) ds
        values d m e = record {
          kept = λ v i.
              let y : d.value.var ≡ x = grind arith in
              let p : place P v.var < place P x = subst (λ z. place P v.var < place P z) y ((a d m).behind v i) in
              (ap (λ o. value_of (or_input v.var o) A) (sym (s.1 v.var (inl p))), same v ((a d m).local v i));
          itself = same d.value ((a d m).itself d.value (inl refl));
        }

-- The first line that is so.
abbrev Earlier : List Line → Assignment → Type 0 → ℕ → Type 0
Earlier lines B W n = (i : ℕ) → i < n → (line : Line) → slice_get lines i ≡ Some line → HaveAll B line.values → W

all-or : (B : Assignment) (W : Type 0) (S : List Value) → ((g : Value) → IsIn g S → (has_value B g ≡ true) ⊎ W) → HaveAll B S ⊎ W
all-or B W [] f = inl (λ k m. elim m [ ])
all-or B W (v ∷ S) f = go (f v (inl refl)) (all-or B W S (λ g m. f g (inr m)))
  where
    first : has_value B v ≡ true → HaveAll B S → HaveAll B (v ∷ S)
    first a t k (inl e) = subst (λ (x : Value). has_value B x ≡ true) (sym e) a
    first a t k (inr m) = t k m

    go : (has_value B v ≡ true) ⊎ W → HaveAll B S ⊎ W → HaveAll B (v ∷ S) ⊎ W
    go (inr w) r = inr w
    go (inl a) (inr w) = inr w
    go (inl a) (inl t) = inl (first a t)

equal-own : (b : Bool) → bool_eq b b ≡ true
equal-own true = refl
equal-own false = refl

equal-is : (a b : Bool) → bool_eq a b ≡ true → a ≡ b
equal-is true true h = refl
equal-is true false h = absurd (cc)
equal-is false true h = absurd (cc)
equal-is false false h = refl

pub value-for : (B : Assignment) (k : Literal) → has_value B (value_for k) ≡ literal_true B k
value-for B k = go k.negative (B k.var)
  where
    go : (n b : Bool) → bool_eq b (not n) ≡ signed n b
    go true true = refl
    go true false = refl
    go false true = refl
    go false false = refl

signed-other : (n b : Bool) → signed n b ≡ false → signed (not n) b ≡ true
signed-other true true h = refl
signed-other true false h = absurd (cc)
signed-other false true h = absurd (cc)
signed-other false false h = refl

choice-value : (u : ℕ) (s t : Circuit) (B : Assignment) → value_of (choice u s t) B ≡ cond (B u) (value_of s B) (value_of t B)
choice-value u s t B = mux (B u) (value_of s B) (value_of t B)

picked-value : (k : Literal) (s t : Circuit) (B : Assignment) → literal_true B k ≡ true → value_of (picked k s t) B ≡ value_of s B
picked-value k s t B h = go k.negative (B k.var) refl h
  where
    go : (n b : Bool) → B k.var ≡ b → signed n b ≡ true → value_of (cond n (choice k.var t s) (choice k.var s t)) B ≡ value_of s B
    go true true p q = absurd (cc)
    go true false p q = choice-value k.var t s B ∙ ap (λ x. cond x (value_of t B) (value_of s B)) p
    go false true p q = choice-value k.var s t B ∙ ap (λ x. cond x (value_of s B) (value_of t B)) p
    go false false p q = absurd (cc)

stays-so : (B : Assignment) (k : Literal) (T : List Value) (v : Value) → HaveAll B T → literal_true B k ≡ true → Stays k T v → has_value B v ≡ true
stays-so B k T v t h (inl m) = t v m
stays-so B k T v t h (inr (s, m)) =
    let a : bool_eq (B v.var) (value_of (picked k v.circuit s) B) ≡ true = t (record { var = v.var; circuit = picked k v.circuit s }) m in
    ap (bool_eq (B v.var)) (sym (picked-value k v.circuit s B h)) ∙ a

line-so : (P : Prefix) (L : List Value → Type 0) (lines : List Line) (B : Assignment) (W : Type 0) →
    ((T : List Value) → L T → HaveAll B T → W) →
    ((x : ℕ) → is_existential P x ≡ true → B x ≡ decision B x (drops lines)) →
    (n : ℕ) → Earlier lines B W n → (line : Line) → slice_get lines n ≡ Some line → (r : Reason) → line.reason ≡ r →
    Follows P L lines n line.values r → HaveAll B line.values → W
line-so P L lines B W sound says n ih line at leaf e f t = sound line.values f t
line-so P L lines B W sound says n ih line at (resolve i j k) e (S, U, b, d, rs, ru) t = go (literal_true B k) refl
  where
    parent : (m : ℕ) (V : List Value) → IsBefore lines n m V → HaveAll B V → W
    parent m V (l, h, q, s) v = ih m h l q (subst (HaveAll B) (sym s) v)

    all : (V : List Value) (q : Literal) → IsRest V q line.values → literal_true B q ≡ true → HaveAll B V
    all V q r a x m = elim (r x m) [
      | inl s ↦ subst (λ (y : Value). has_value B y ≡ true) (sym s) (value-for B q ∙ a)
      | inr o ↦ stays-so B q line.values x t a o
    ]

    go : (z : Bool) → literal_true B k ≡ z → W
    go true h = parent i S b (all S k rs h)
    go false h = parent j U d (all U (negation k) ru (signed-other k.negative (B k.var) h))
line-so P L lines B W sound says n ih line at (reduce i) e (S, (l, h, q, s), red) t =
    elim (all-or B W S one) [ inl v ↦ ih i h l q (subst (HaveAll B) (sym s) v) | inr w ↦ w ]
  where
    T : List Value
    T = line.values

    same : values_of (slice_get lines i) ≡ S
    same = ap values_of q ∙ s

    one : (g : Value) → IsIn g S → (has_value B g ≡ true) ⊎ W
    one g m = elim (red g m) [ inl o ↦ inl (t g o) | inr k ↦ taken k ]
      where
        decides : IsTaken P S T g → SomeSo B lines n ⊎ (decision B g.var (drops lines) ≡ value_of g.circuit B) → (has_value B g ≡ true) ⊎ W
        decides tk (inl (m, lt, x, y, z)) = inr (ih m lt x y (have_all-sound B x.values z))
        decides tk (inr z) = inl (ap (λ b. bool_eq b (value_of g.circuit B)) (says g.var tk.owned ∙ z) ∙ equal-own (value_of g.circuit B))

        taken : IsTaken P S T g → (has_value B g ≡ true) ⊎ W
        taken tk =
            decides tk (first-says lines B lines n line i g at e (have_all-complete B T t)
            (subst (IsIn g) (sym same) m) (absent P S T g tk) (λ v x. tk.alone v (subst (IsIn v) same x)))

so-lines : (P : Prefix) (L : List Value → Type 0) (lines : List Line) (B : Assignment) (W : Type 0) →
    ((T : List Value) → L T → HaveAll B T → W) →
    ((x : ℕ) → is_existential P x ≡ true → B x ≡ decision B x (drops lines)) → IsDerivation P L lines →
    (n : ℕ) → Earlier lines B W n
so-lines P L lines B W sound says d zero i h line at t = absurd (omega arith)
so-lines P L lines B W sound says d (suc n) i h line at t =
    line-so P L lines B W sound says i
    (λ j lt. so-lines P L lines B W sound says d n j (omega arith)) line at line.reason refl (d.follows i line at) t

pub derived-lawful : (P : Prefix) (L : List Value → Type 0) (lines : List Line) → Distinct P → IsDerivation P L lines →
    Lawful P (circuits_of P lines)
derived-lawful P L lines di d = lawful-by P (drops lines) di (drops-behind P L lines d)

-- A line without values is so whatever the variables are, so the end holds under the circuits of its derivation.
pub derivation-wins : (P : Prefix) (L : List Value → Type 0) (lines : List Line) (A : Assignment) (W : Type 0) →
    Distinct P → IsDerivation P L lines → HasEmpty lines →
    ((T : List Value) → L T → HaveAll (outcome (circuits_of P lines) A) T → W) → W
derivation-wins P L lines A W di d (n, line, at, e) sound =
    so-lines P L lines (outcome (circuits_of P lines) A) W sound
    (λ x h. values-by P (drops lines) A x di (drops-behind P L lines d) h) d (suc n) n (omega arith) line at
    (subst (HaveAll (outcome (circuits_of P lines) A)) (sym e) (λ k m. elim m [ ]))

-- Which lines may stand by themselves does not matter.
leaf-follows : (P : Prefix) (lines : List Line) (n : ℕ) (line : Line) → slice_get lines n ≡ Some line → (r : Reason) → line.reason ≡ r →
    Follows P (λ S. Unit {0}) lines n line.values r → Follows P (IsLeafOf lines) lines n line.values r
leaf-follows P lines n line at leaf e f = (n, line, at, e, refl)
leaf-follows P lines n line at (resolve i j k) e f = f
leaf-follows P lines n line at (reduce i) e f = f

leaf-derivation : (P : Prefix) (lines : List Line) → IsAnyDerivation P lines → IsDerivation P (IsLeafOf lines) lines
leaf-derivation P lines d = record {
  local = d.local;
  follows = λ n line h. leaf-follows P lines n line h line.reason refl (d.follows n line h);
}

pub any-lawful : (P : Prefix) (lines : List Line) → Distinct P → IsAnyDerivation P lines → Lawful P (circuits_of P lines)
any-lawful P lines = derived-lawful P (λ S. Unit {0}) lines

pub some-leaf : (P : Prefix) (lines : List Line) → Distinct P → IsAnyDerivation P lines → HasEmpty lines → (A : Assignment) →
    (T : List Value) × IsLeafOf lines T × HaveAll (outcome (circuits_of P lines) A) T
some-leaf P lines di d e A =
    derivation-wins P (IsLeafOf lines) lines A ((T : List Value) × IsLeafOf lines T × HaveAll (outcome (circuits_of P lines) A) T) di
    (leaf-derivation P lines d) e (λ T l h. (T, l, h))
