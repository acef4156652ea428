-- What a resolvent says of variables of which it holds both signs.
use Rattle.std.proofs.Common.{◌≡◌, ℕ, ◌<◌, Bool, true, false, cond, not, ◌&&◌, List, ◌⊎◌, inl, inr, slice_get, refl, sym, ap, ap₂, ◌∙◌, subst, Option, Some, None}
use Rattle.q_logic.specs.Prelude.{Literal, negation, Prefix, IsIn, is_existential, is_universal, universal_before, has, literal_eq, without, Circuit, constant, choice, Reads}
use Rattle.q_logic.specs.Prefixes.{place}
use Rattle.q_logic.proofs.Common.{has-IsIn, IsIn-has, IsIn-append, IsIn-append_left, IsIn-append_right, IsIn-without, without-IsIn, literal_eq-sound, literal_eq-itself}
use Rattle.q_logic.proofs.ImpliedClauses.{negation-negation}
use Rattle.q_logic.proofs.PrefixOrder.{existential-is_bound}
use Rattle.q_derive.specs.Traces.{resolvent, MayMerge, MergesOnly}
use Rattle.q_derive.proofs.Layers.{place-before}
use Rattle.q_derive.proofs.Deciding.{same-or_turned}
use Rattle.q_long.specs.Valued.{Value, value_for, picked, Stays, IsRest, AreLocal}
use Rattle.q_long.specs.Distant.{positive, negative, holds}
use Rattle.q_long.proofs.Valuing.{as-positive, as-negative, in-holds, holds-in, Reads-picked}
use Rattle.q_extract.specs.declared.said.Merge.{Merge}
use Rattle.q_extract.specs.Merges.{said_circuit, merge_circuits, AreMerges, value_at}
use Rattle.q_resolve.specs.declared.leaves.Owner.{Owner}
use Rattle.q_resolve.specs.declared.leaves.Owner.TheVariants.{Exists, Forall}
use Rattle.q_resolve.specs.Sides.{sided, line_values}
use Rattle.q_resolve.specs.Reduced.{IsSame}
use Rattle.q_resolve.specs.Merging.{is_merged, IsSayingOf, value_sign, said_as, said_for, IsParentSaid}
use Rattle.q_resolve.proofs.Sided.{side-var, side-turned, side-plain, side-merged, side-same, at-var, line-in, line-out, merge-at}

-- both signs
pub merged-of : (P : Prefix) (T : List Literal) (g : Literal) → is_existential P g.var ≡ true → IsIn g T → IsIn (negation g) T → is_merged P T g.var ≡ true
merged-of P T g x m n = go g.negative refl
  where
    done : IsIn (positive g.var) T → IsIn (negative g.var) T → is_merged P T g.var ≡ true
    done p q =
        let a : has (positive g.var) T ≡ true = IsIn-has (positive g.var) T p in
        let b : has (negative g.var) T ≡ true = IsIn-has (negative g.var) T q in rw (a, b, x) refl

    go : (b : Bool) → g.negative ≡ b → is_merged P T g.var ≡ true
    go false e = done (subst (λ (k : Literal). IsIn k T) (as-positive g e) m) (subst (λ (k : Literal). IsIn k T) (as-negative (negation g) (ap not e)) n)
    go true e = done (subst (λ (k : Literal). IsIn k T) (as-positive (negation g) (ap not e)) n) (subst (λ (k : Literal). IsIn k T) (as-negative g e) m)

pub record IsBoth (P : Prefix) (T : List Literal) (x : ℕ) : Type 0 where
  pub owned : is_existential P x ≡ true
  pub yes : IsIn (positive x) T
  pub no : IsIn (negative x) T

pub both-of : (P : Prefix) (T : List Literal) (x : ℕ) → is_merged P T x ≡ true → IsBoth P T x
both-of P T x h = go (has (positive x) T) refl (has (negative x) T) refl (is_existential P x) refl h
  where
    go : (a : Bool) → has (positive x) T ≡ a → (b : Bool) → has (negative x) T ≡ b → (c : Bool) → is_existential P x ≡ c → a && (b && c) ≡ true → IsBoth P T x
    go true p true q true r h = record { owned = r; yes = has-IsIn (positive x) T p; no = has-IsIn (negative x) T q }
    go true p true q false r h = absurd (cc)
    go true p false q c r h = absurd (cc)
    go false p b q c r h = absurd (cc)

pub of-both : (P : Prefix) (T : List Literal) (x : ℕ) → IsBoth P T x → is_merged P T x ≡ true
of-both P T x h = merged-of P T (positive x) h.owned h.yes h.no

pub both-in : (P : Prefix) (T : List Literal) (g : Literal) → is_merged P T g.var ≡ true → IsIn g T × IsIn (negation g) T
both-in P T g h = go (both-of P T g.var h) g.negative refl
  where
    go : IsBoth P T g.var → (b : Bool) → g.negative ≡ b → IsIn g T × IsIn (negation g) T
    go w false e = (subst (λ (k : Literal). IsIn k T) (sym (as-positive g e)) w.yes, subst (λ (k : Literal). IsIn k T) (sym (as-negative (negation g) (ap not e))) w.no)
    go w true e = (subst (λ (k : Literal). IsIn k T) (sym (as-negative g e)) w.no, subst (λ (k : Literal). IsIn k T) (sym (as-positive (negation g) (ap not e))) w.yes)

pub merged-only : (P : Prefix) (R T : List Literal) (x : ℕ) → MergesOnly P R T → is_merged P T x ≡ true → is_merged P R x ≡ true
merged-only P R T x h m =
    let w = both-of P T x m in
    let r = h (positive x) w.owned w.yes w.no in
    of-both P R x (record { owned = w.owned; yes = r.0; no = r.1 })

pub false-of : (b : Bool) → (b ≡ true → ⊥) → b ≡ false
false-of true h = absurd (h refl)
false-of false h = refl

pub other-plain : (P : Prefix) (T : List Literal) (x : ℕ) → is_existential P x ≡ false → is_merged P T x ≡ false
other-plain P T x h = false-of (is_merged P T x) (λ m. let w = (both-of P T x m).owned in cc)

-- what is said of a literal that a line holds
pub said-sign : (cs : List Circuit) (o : Owner) (P : Prefix) (f : ℕ → Option ℕ) (S : List Literal) (g : Literal) → IsSayingOf P f S → IsIn g S →
    is_existential P g.var ≡ true → said_circuit cs (said_for o f S g.var) ≡ (value_at cs f (sided o g)).circuit
said-sign cs o P f S g h m x = go (f g.var) refl
  where
    sign : f g.var ≡ None → has (positive g.var) S ≡ not g.negative
    sign e = by g.negative refl
      where
        by : (b : Bool) → g.negative ≡ b → has (positive g.var) S ≡ not g.negative
        by false q = IsIn-has (positive g.var) S (subst (λ (k : Literal). IsIn k S) (as-positive g q) m) ∙ sym (ap not q)
        by true q =
            false-of (has (positive g.var) S) (λ p.
            let w : is_merged P S g.var ≡ true = of-both P S g.var (record { owned = x; yes = has-IsIn (positive g.var) S p; no = subst (λ (k : Literal). IsIn k S) (as-negative g q) m }) in
            let r = h.whole g.var w in let y = r.1 in cc) ∙
            sym (ap not q)

    plain : (o : Owner) → f g.var ≡ None → constant (value_sign o (has (positive g.var) S)) ≡ constant (not (sided o g).negative)
    plain Exists e = ap constant (sign e)
    plain Forall e = ap (λ (b : Bool). constant (not b)) (sign e)

    go : (r : Option ℕ) → f g.var ≡ r → said_circuit cs (said_for o f S g.var) ≡ (value_at cs f (sided o g)).circuit
    go None e =
        ap (λ (r : Option ℕ). said_circuit cs (said_as r (value_sign o (has (positive g.var) S)))) e ∙
        plain o e ∙ ap (λ (v : Value). v.circuit) (sym (side-plain cs f o g e))
    go (Some i) e =
        ap (λ (r : Option ℕ). said_circuit cs (said_as r (value_sign o (has (positive g.var) S)))) e ∙
        ap (λ (v : Value). v.circuit) (sym (side-merged cs f o g i e))

-- a value that is another one, or picked of it and of a third
abbrev pub IsCarried : Literal → Value → Value → Type 0
IsCarried k v w = (w ≡ v) ⊎ ((t : Circuit) × (w ≡ record { var = v.var; circuit = picked k v.circuit t }))

turn-picked : (k : Literal) (s t : Circuit) → picked k s t ≡ picked (negation k) t s
turn-picked k s t = go k.negative
  where
    go : (b : Bool) → cond b (choice k.var t s) (choice k.var s t) ≡ cond (not b) (choice k.var s t) (choice k.var t s)
    go true = refl
    go false = refl

module _ (o : Owner) (P : Prefix) (k : Literal) (f g h : ℕ → Option ℕ) (S U R : List Literal) (ms : List Merge) (am : AreMerges ms)
    (pivot : is_existential P k.var ≡ false) (same : IsSame (resolvent S U k) R) (sf : IsSayingOf P f S) (sg : IsSayingOf P g U)
    (yes : (x : ℕ) → is_merged P R x ≡ true → IsParentSaid o k f g S U ms x (h x)) (no : (x : ℕ) → is_merged P R x ≡ false → h x ≡ None) where
  abbrev pub cs : List Circuit
  cs = merge_circuits ms

  -- literals of the resolvent
  pub out-of : (j : Literal) → IsIn j R → IsIn j S ⊎ IsIn j U
  out-of j m = elim (IsIn-append j (without k S) (without (negation k) U) ((same j).0 m)) [
    | inl i ↦ inl (without-IsIn k S j i)
    | inr i ↦ inr (without-IsIn (negation k) U j i)
  ]

  pub first-into : (j : Literal) → IsIn j S → (j ≡ k → ⊥) → IsIn j R
  first-into j m n = (same j).1 (IsIn-append_left j (without k S) (without (negation k) U) (IsIn-without k S j m (false-of (literal_eq j k) (λ e. n (literal_eq-sound j k e)))))

  pub second-into : (j : Literal) → IsIn j U → (j ≡ negation k → ⊥) → IsIn j R
  second-into j m n = (same j).1 (IsIn-append_right j (without k S) (without (negation k) U) (IsIn-without (negation k) U j m (false-of (literal_eq j (negation k)) (λ e. n (literal_eq-sound j (negation k) e)))))

  own-first : (j : Literal) → is_existential P j.var ≡ true → j ≡ k → ⊥
  own-first j x e = let z : is_existential P k.var ≡ true = subst (λ (y : Literal). is_existential P y.var ≡ true) e x in cc

  own-second : (j : Literal) → is_existential P j.var ≡ true → j ≡ negation k → ⊥
  own-second j x e = let z : is_existential P k.var ≡ true = subst (λ (y : Literal). is_existential P y.var ≡ true) e x in cc

  -- a variable that the resolvent merges not is merged by no line
  first-plain : (x : ℕ) → is_merged P R x ≡ false → f x ≡ None
  first-plain x e = sf.only x (false-of (is_merged P S x) (λ m.
      let w = both-of P S x m in
      let z : is_merged P R x ≡ true = of-both P R x (record {
        owned = w.owned;
        yes = first-into (positive x) w.yes (own-first (positive x) w.owned);
        no = first-into (negative x) w.no (own-first (negative x) w.owned);
      }) in cc))

  second-plain : (x : ℕ) → is_merged P R x ≡ false → g x ≡ None
  second-plain x e = sg.only x (false-of (is_merged P U x) (λ m.
      let w = both-of P U x m in
      let z : is_merged P R x ≡ true = of-both P R x (record {
        owned = w.owned;
        yes = second-into (positive x) w.yes (own-second (positive x) w.owned);
        no = second-into (negative x) w.no (own-second (negative x) w.owned);
      }) in cc))

  -- the value where the pivot chooses
  chosen : (j a b : Literal) (i : ℕ) → is_existential P j.var ≡ true → IsIn a S → a.var ≡ j.var → IsIn b U → b.var ≡ j.var → h j.var ≡ Some i →
      slice_get ms i ≡ Some (record { pivot = sided o k; first = said_for o f S j.var; second = said_for o g U j.var }) →
      value_at cs h (sided o j) ≡ record { var = j.var; circuit = picked (sided o k) (value_at cs f (sided o a)).circuit (value_at cs g (sided o b)).circuit }
  chosen j a b i x m p n q e d =
      side-merged cs h o j i e ∙
      ap (λ (t : Circuit). record { var = j.var; circuit = t }) (merge-at ms i _ am d ∙ ap₂ (picked (sided o k)) (one a m p) (two b n q))
    where
      one : (a : Literal) → IsIn a S → a.var ≡ j.var → said_circuit cs (said_for o f S j.var) ≡ (value_at cs f (sided o a)).circuit
      one a m p = ap (λ y. said_circuit cs (said_for o f S y)) (sym p) ∙ said-sign cs o P f S a sf m (subst (λ y. is_existential P y ≡ true) (sym p) x)

      two : (b : Literal) → IsIn b U → b.var ≡ j.var → said_circuit cs (said_for o g U j.var) ≡ (value_at cs g (sided o b)).circuit
      two b n q = ap (λ y. said_circuit cs (said_for o g U y)) (sym q) ∙ said-sign cs o P g U b sg n (subst (λ y. is_existential P y ≡ true) (sym q) x)

  pub first-carried : (j : Literal) → IsIn j S → is_existential P j.var ≡ true → IsCarried (sided o k) (value_at cs f (sided o j)) (value_at cs h (sided o j))
  first-carried j m x = go (is_merged P R j.var) refl
    where
      by : IsParentSaid o k f g S U ms j.var (h j.var) → IsCarried (sided o k) (value_at cs f (sided o j)) (value_at cs h (sided o j))
      by (inl (u, e)) = inl (side-same cs h f o j e)
      by (inr (inl (u, s, e))) = absurd (let z : holds j.var S ≡ true = in-holds j S m in cc)
      by (inr (inr (u, s, i, e, d))) =
          let b = holds-in j.var U u in
          inr (
            (value_at cs g (sided o b.0)).circuit,
            chosen j j b.0 i x m refl b.1 b.2 e d ∙
                ap (λ (y : ℕ). record { var = y; circuit = picked (sided o k) (value_at cs f (sided o j)).circuit (value_at cs g (sided o b.0)).circuit }) (sym (at-var cs f o j)),
          )

      go : (b : Bool) → is_merged P R j.var ≡ b → IsCarried (sided o k) (value_at cs f (sided o j)) (value_at cs h (sided o j))
      go true e = by (yes j.var e)
      go false e = inl (side-same cs h f o j (no j.var e ∙ sym (first-plain j.var e)))

  pub second-carried : (j : Literal) → IsIn j U → is_existential P j.var ≡ true → IsCarried (negation (sided o k)) (value_at cs g (sided o j)) (value_at cs h (sided o j))
  second-carried j m x = go (is_merged P R j.var) refl
    where
      by : IsParentSaid o k f g S U ms j.var (h j.var) → IsCarried (negation (sided o k)) (value_at cs g (sided o j)) (value_at cs h (sided o j))
      by (inl (u, e)) = absurd (let z : holds j.var U ≡ true = in-holds j U m in cc)
      by (inr (inl (u, s, e))) = inl (side-same cs h g o j e)
      by (inr (inr (u, s, i, e, d))) =
          let a = holds-in j.var S s in
          inr (
            (value_at cs f (sided o a.0)).circuit,
            chosen j a.0 j i x a.1 a.2 m refl e d ∙
                ap₂ (λ (y : ℕ) (t : Circuit). record { var = y; circuit = t }) (sym (at-var cs g o j))
                (turn-picked (sided o k) (value_at cs f (sided o a.0)).circuit (value_at cs g (sided o j)).circuit),
          )

      go : (b : Bool) → is_merged P R j.var ≡ b → IsCarried (negation (sided o k)) (value_at cs g (sided o j)) (value_at cs h (sided o j))
      go true e = by (yes j.var e)
      go false e = inl (side-same cs h g o j (no j.var e ∙ sym (second-plain j.var e)))

  -- the resolvent says something of all variables of which it holds both signs
  pub resolvent-saying : IsSayingOf P h R
  resolvent-saying = record { whole = λ x e. by x e (yes x e); only = no }
    where
      by : (x : ℕ) → is_merged P R x ≡ true → IsParentSaid o k f g S U ms x (h x) → (i : ℕ) × (h x ≡ Some i)
      by x m (inl (u, e)) =
          let w = both-of P R x m in
          let here : (j : Literal) → j.var ≡ x → IsIn j R → IsIn j S = λ j q n. elim (out-of j n) [
            | inl i ↦ i
            | inr i ↦ absurd (let z : holds x U ≡ true = subst (λ y. holds y U ≡ true) q (in-holds j U i) in cc)
          ] in
          let r = sf.whole x (of-both P S x (record { owned = w.owned; yes = here (positive x) refl w.yes; no = here (negative x) refl w.no })) in (r.0, e ∙ r.1)
      by x m (inr (inl (u, s, e))) =
          let w = both-of P R x m in
          let here : (j : Literal) → j.var ≡ x → IsIn j R → IsIn j U = λ j q n. elim (out-of j n) [
            | inl i ↦ absurd (let z : holds x S ≡ true = subst (λ y. holds y S ≡ true) q (in-holds j S i) in cc)
            | inr i ↦ i
          ] in
          let r = sg.whole x (of-both P U x (record { owned = w.owned; yes = here (positive x) refl w.yes; no = here (negative x) refl w.no })) in (r.0, e ∙ r.1)
      by x m (inr (inr (u, s, i, e, d))) = (i, e)

  -- the lines hold different signs of a variable that both hold, if the resolvent holds both
  clashing : (x : ℕ) → is_merged P R x ≡ true → holds x S ≡ true → holds x U ≡ true → (j : Literal) × IsIn j S × IsIn (negation j) U × (j.var ≡ x)
  clashing x m s u = go (holds-in x S s) (holds-in x U u)
    where
      go : (j : Literal) × IsIn j S × (j.var ≡ x) → (b : Literal) × IsIn b U × (b.var ≡ x) → (j : Literal) × IsIn j S × IsIn (negation j) U × (j.var ≡ x)
      go (j, a, p) (b, c, q) = elim (same-or_turned b j (q ∙ sym p)) [
        | inl e ↦
            let n = (both-in P R j (subst (λ y. is_merged P R y ≡ true) (sym p) m)).1 in
            elim (out-of (negation j) n) [
              | inl i ↦ (negation j, i, subst (λ (y : Literal). IsIn y U) (e ∙ sym (negation-negation j)) c, p)
              | inr i ↦ (j, a, i, p)
            ]
        | inr e ↦ (j, a, subst (λ (y : Literal). IsIn y U) e c, p)
      ]

  -- what it says reads only what stands before
  pub resolvent-local : is_universal P k.var ≡ true → MayMerge P S U k → AreLocal P (line_values cs f o S) → AreLocal P (line_values cs g o U) → AreLocal P (line_values cs h o R)
  resolvent-local uk mm ls lu v m u r = go (line-out cs h o R v m)
    where
      go : (j : Literal) × IsIn j R × (v ≡ value_at cs h (sided o j)) → universal_before P u v.var ≡ true
      go (j, a, e) = subst (λ y. universal_before P u y ≡ true) (sym (ap (λ (w : Value). w.var) e ∙ at-var cs h o j)) (split (is_merged P R j.var) refl)
        where
          reads : Reads (value_at cs h (sided o j)).circuit u
          reads = subst (λ (w : Value). Reads w.circuit u) e r

          first : (b : Literal) → IsIn b S → b.var ≡ j.var → Reads (value_at cs f (sided o b)).circuit u → universal_before P u j.var ≡ true
          first b i q w = subst (λ y. universal_before P u y ≡ true) (at-var cs f o b ∙ q) (ls (value_at cs f (sided o b)) (line-in cs f o S b i) u w)

          second : (b : Literal) → IsIn b U → b.var ≡ j.var → Reads (value_at cs g (sided o b)).circuit u → universal_before P u j.var ≡ true
          second b i q w = subst (λ y. universal_before P u y ≡ true) (at-var cs g o b ∙ q) (lu (value_at cs g (sided o b)) (line-in cs g o U b i) u w)

          by : is_merged P R j.var ≡ true → IsParentSaid o k f g S U ms j.var (h j.var) → universal_before P u j.var ≡ true
          by q (inl (n, s)) = elim (out-of j a) [
            | inl i ↦ first j i refl (subst (λ (w : Value). Reads w.circuit u) (side-same cs h f o j s) reads)
            | inr i ↦ absurd (let z : holds j.var U ≡ true = in-holds j U i in cc)
          ]
          by q (inr (inl (n, t, s))) = elim (out-of j a) [
            | inl i ↦ absurd (let z : holds j.var S ≡ true = in-holds j S i in cc)
            | inr i ↦ second j i refl (subst (λ (w : Value). Reads w.circuit u) (side-same cs h g o j s) reads)
          ]
          by q (inr (inr (n, t, i, s, d))) =
              let x = (both-of P R j.var q).owned in
              let b = holds-in j.var S t in
              let c = holds-in j.var U n in
              let w = chosen j b.0 c.0 i x b.1 b.2 c.1 c.2 s d in
              elim (Reads-picked (sided o k) (value_at cs f (sided o b.0)).circuit (value_at cs g (sided o c.0)).circuit u (subst (λ (y : Value). Reads y.circuit u) w reads)) [
                | inl p ↦
                    let y = clashing j.var q t n in
                    let l : place P k.var < place P j.var = subst (λ z. place P k.var < place P z) y.3 (mm y.0 y.1 y.2 (subst (λ z. is_existential P z ≡ true) (sym y.3) x)) in
                    subst (λ z. universal_before P z j.var ≡ true) (sym (side-var o k) ∙ p) (place-before P k.var j.var l (existential-is_bound P j.var x) uk)
                | inr p ↦ elim p [ inl z ↦ first b.0 b.1 b.2 z | inr z ↦ second c.0 c.1 c.2 z ]
              ]

          split : (b : Bool) → is_merged P R j.var ≡ b → universal_before P u j.var ≡ true
          split true q = by q (yes j.var q)
          split false q = absurd (subst (λ (w : Value). Reads w.circuit u) (side-plain cs h o j (no j.var q)) reads)

  -- the values of both lines stay, or are merged
  carried-stays : (q : Literal) (V : List Value) (v w : Value) → IsCarried q v w → IsIn w V → Stays q V v
  carried-stays q V v w (inl e) m = inl (subst (λ (y : Value). IsIn y V) e m)
  carried-stays q V v w (inr (t, e)) m = inr (t, subst (λ (y : Value). IsIn y V) e m)

  pub first-rest : (V : List Value) → ((j : Literal) → IsIn j R → IsIn (value_at cs h (sided o j)) V) → IsRest (line_values cs f o S) (sided o k) V
  first-rest V w v m = go (line-out cs f o S v m)
    where
      go : (j : Literal) × IsIn j S × (v ≡ value_at cs f (sided o j)) → (v ≡ value_for (sided o k)) ⊎ Stays (sided o k) V v
      go (j, a, e) = eq (literal_eq j k) refl (is_existential P j.var) refl
        where
          eq : (b : Bool) → literal_eq j k ≡ b → (c : Bool) → is_existential P j.var ≡ c → (v ≡ value_for (sided o k)) ⊎ Stays (sided o k) V v
          eq true p c q =
              let s = literal_eq-sound j k p in
              let n : f j.var ≡ None = sf.only j.var (other-plain P S j.var (ap (λ (y : Literal). is_existential P y.var) s ∙ pivot)) in
              inl (e ∙ side-plain cs f o j n ∙ ap (λ (y : Literal). value_for (sided o y)) s)
          eq false p true q =
              inr (subst (Stays (sided o k) V) (sym e) (carried-stays (sided o k) V _ _ (first-carried j a q) (w j (first-into j a (own-first j q)))))
          eq false p false q =
              let n : f j.var ≡ None = sf.only j.var (other-plain P S j.var q) in
              let y : h j.var ≡ None = no j.var (other-plain P R j.var q) in
              inr (inl (subst (λ (z : Value). IsIn z V) (side-same cs h f o j (y ∙ sym n) ∙ sym e) (w j (first-into j a (λ s. different j p s)))))
            where
              different : (j : Literal) → literal_eq j k ≡ false → j ≡ k → ⊥
              different j p s = let z : literal_eq j k ≡ true = subst (λ (y : Literal). literal_eq j y ≡ true) s (literal_eq-itself j) in cc

  pub second-rest : (V : List Value) → ((j : Literal) → IsIn j R → IsIn (value_at cs h (sided o j)) V) → IsRest (line_values cs g o U) (negation (sided o k)) V
  second-rest V w v m = go (line-out cs g o U v m)
    where
      go : (j : Literal) × IsIn j U × (v ≡ value_at cs g (sided o j)) → (v ≡ value_for (negation (sided o k))) ⊎ Stays (negation (sided o k)) V v
      go (j, a, e) = eq (literal_eq j (negation k)) refl (is_existential P j.var) refl
        where
          eq : (b : Bool) → literal_eq j (negation k) ≡ b → (c : Bool) → is_existential P j.var ≡ c → (v ≡ value_for (negation (sided o k))) ⊎ Stays (negation (sided o k)) V v
          eq true p c q =
              let s = literal_eq-sound j (negation k) p in
              let n : g j.var ≡ None = sg.only j.var (other-plain P U j.var (ap (λ (y : Literal). is_existential P y.var) s ∙ pivot)) in
              inl (e ∙ side-plain cs g o j n ∙ ap (λ (y : Literal). value_for (sided o y)) s ∙ ap value_for (side-turned o k))
          eq false p true q =
              inr (subst (Stays (negation (sided o k)) V) (sym e) (carried-stays (negation (sided o k)) V _ _ (second-carried j a q) (w j (second-into j a (own-second j q)))))
          eq false p false q =
              let n : g j.var ≡ None = sg.only j.var (other-plain P U j.var q) in
              let y : h j.var ≡ None = no j.var (other-plain P R j.var q) in
              inr (inl (subst (λ (z : Value). IsIn z V) (side-same cs h g o j (y ∙ sym n) ∙ sym e) (w j (second-into j a (λ s. different j p s)))))
            where
              different : (j : Literal) → literal_eq j (negation k) ≡ false → j ≡ negation k → ⊥
              different j p s = let z : literal_eq j (negation k) ≡ true = subst (λ (y : Literal). literal_eq j y ≡ true) s (literal_eq-itself j) in cc
