-- The bounds of a list of variables.
use Rattle.std.proofs.Common.{◌≡◌, ◌≢◌, ℕ, ◌<◌, Bool, true, false, true≢false, cond, eqb, List, [], ◌∷◌, slice_get, None, Some, refl, sym, ◌∙◌, ap, inl, inr, arith}
use Rattle.std.proofs.lemmas.Bool.{cases_eq, ne_eqb, eq-eqb}
use Rattle.q_logic.specs.declared.formulas.Quant.{Quant}
use Rattle.q_logic.specs.declared.formulas.Bound.{Bound}
use Rattle.q_logic.specs.Prelude.{IsIn, is_bound, removed_from}
use Rattle.q_arena.specs.Prelude.{Has, without, with_next, following}
use Rattle.q_arena.proofs.ListNeighbours.{following-here, following-later}
use Rattle.q_arena.proofs.RingPaths.{without-first, without-later}
use Rattle.q_arena.proofs.RingInsertion.{with_next-here, with_next-later}
use Rattle.q_prefix.specs.declared.marks.Mark.{Mark}
use Rattle.q_prefix.specs.Order.{quant_of, bound_after, with_after, Binds, IsRankedFrom, IsRanked, mark_at, bound_of, bounds_of}

pub cond-same : {X : Type 0} (a b : ℕ) (x y : X) → a ≡ b → cond (eqb a b) x y ≡ x
cond-same a b x y e = ap (λ (t : Bool). cond t x y) (eq-eqb a b e)

pub cond-other : {X : Type 0} (a b : ℕ) (x y : X) → a ≢ b → cond (eqb a b) x y ≡ y
cond-other a b x y n = ap (λ (t : Bool). cond t x y) (ne_eqb a b n)

module _ (marks : List Mark) where
  pub bound-has : (L : List ℕ) (v : ℕ) → Has L v → is_bound (bounds_of marks L) v ≡ true
  bound-has [] v h = absurd h
  bound-has (u ∷ L) v h = elim (cases_eq u v) [
    | inl e ↦ cond-same u v true (is_bound (bounds_of marks L) v) e
    | inr n ↦ cond-other u v true (is_bound (bounds_of marks L) v) n ∙ elim h [
      | inl e ↦ absurd (n (sym e))
      | inr i ↦ bound-has L v i
    ]
  ]

  pub has-bound : (L : List ℕ) (v : ℕ) → is_bound (bounds_of marks L) v ≡ true → Has L v
  has-bound [] v h = absurd (true≢false (sym h))
  has-bound (u ∷ L) v h = elim (cases_eq u v) [
    | inl e ↦ inl (sym e)
    | inr n ↦ inr (has-bound L v (sym (cond-other u v true (is_bound (bounds_of marks L) v) n) ∙ h))
  ]

  pub binds-has : (L : List ℕ) (v : ℕ) → Has L v → Binds (bounds_of marks L) v
  binds-has [] v h = absurd h
  binds-has (u ∷ L) v (inl e) = inl e
  binds-has (u ∷ L) v (inr i) = inr (binds-has L v i)

  pub quant-has : (L : List ℕ) (v : ℕ) → Has L v → quant_of (bounds_of marks L) v ≡ Some (mark_at marks v).quant
  quant-has [] v h = absurd h
  quant-has (u ∷ L) v h = elim (cases_eq u v) [
    | inl e ↦ cond-same u v (Some (mark_at marks u).quant) (quant_of (bounds_of marks L) v) e ∙ ap (λ (k : ℕ). Some (mark_at marks k).quant) e
    | inr n ↦ cond-other u v (Some (mark_at marks u).quant) (quant_of (bounds_of marks L) v) n ∙ elim h [
      | inl e ↦ absurd (n (sym e))
      | inr i ↦ quant-has L v i
    ]
  ]

  pub quant-none : (L : List ℕ) (v : ℕ) → (Has L v → ⊥) → quant_of (bounds_of marks L) v ≡ None
  quant-none [] v f = refl
  quant-none (u ∷ L) v f =
      cond-other u v (Some (mark_at marks u).quant) (quant_of (bounds_of marks L) v) (λ e. f (inl (sym e))) ∙ quant-none L v (λ i. f (inr i))

  pub first-none : (L : List ℕ) → slice_get L 0 ≡ None → slice_get (bounds_of marks L) 0 ≡ None
  first-none [] e = refl
  first-none (u ∷ L) e = let d : Some u ≡ None = e in absurd (cc)

  pub first-some : (L : List ℕ) (u : ℕ) → slice_get L 0 ≡ Some u → slice_get (bounds_of marks L) 0 ≡ Some (bound_of marks u)
  first-some [] u e = let d : None ≡ Some u = e in absurd (cc)
  first-some (x ∷ L) u e = let d : Some x ≡ Some u = e in let q : x ≡ u = cc in ap (λ (k : ℕ). Some (bound_of marks k)) q

  pub after-none : (L : List ℕ) (v : ℕ) → following v L ≡ None → bound_after (bounds_of marks L) v ≡ None
  after-none [] v e = refl
  after-none (u ∷ L) v e = elim (cases_eq u v) [
    | inl q ↦ cond-same u v (slice_get (bounds_of marks L) 0) (bound_after (bounds_of marks L) v) q ∙ first-none L (sym (following-here v u L q) ∙ e)
    | inr n ↦ cond-other u v (slice_get (bounds_of marks L) 0) (bound_after (bounds_of marks L) v) n ∙ after-none L v (sym (following-later v u L n) ∙ e)
  ]

  pub after-some : (L : List ℕ) (v u : ℕ) → following v L ≡ Some u → bound_after (bounds_of marks L) v ≡ Some (bound_of marks u)
  after-some [] v u e = let d : None ≡ Some u = e in absurd (cc)
  after-some (x ∷ L) v u e = elim (cases_eq x v) [
    | inl q ↦ cond-same x v (slice_get (bounds_of marks L) 0) (bound_after (bounds_of marks L) v) q ∙ first-some L u (sym (following-here v x L q) ∙ e)
    | inr n ↦ cond-other x v (slice_get (bounds_of marks L) 0) (bound_after (bounds_of marks L) v) n ∙ after-some L v u (sym (following-later v x L n) ∙ e)
  ]

  pub bounds-without : (L : List ℕ) (v : ℕ) → bounds_of marks (without v L) ≡ removed_from v (bounds_of marks L)
  bounds-without [] v = refl
  bounds-without (u ∷ L) v = elim (cases_eq u v) [
    | inl e ↦ ap (bounds_of marks) (without-first v u L e) ∙ sym (cond-same u v (bounds_of marks L) (bound_of marks u ∷ removed_from v (bounds_of marks L)) e)
    | inr n ↦ ap (bounds_of marks) (without-later v u L n) ∙ ap (λ (p : List Bound). bound_of marks u ∷ p) (bounds-without L v)
        ∙ sym (cond-other u v (bounds_of marks L) (bound_of marks u ∷ removed_from v (bounds_of marks L)) n)
  ]

  pub bounds-with : (L : List ℕ) (w v : ℕ) → bounds_of marks (with_next w v L) ≡ with_after (bound_of marks v) w (bounds_of marks L)
  bounds-with [] w v = refl
  bounds-with (u ∷ L) w v =
      let x : List Bound = bound_of marks u ∷ bound_of marks v ∷ bounds_of marks L in
      let y : List Bound = bound_of marks u ∷ with_after (bound_of marks v) w (bounds_of marks L) in
      elim (cases_eq u w) [
        | inl e ↦ ap (bounds_of marks) (with_next-here w v u L e) ∙ sym (cond-same u w x y e)
        | inr n ↦ ap (bounds_of marks) (with_next-later w v u L n) ∙ ap (λ (p : List Bound). bound_of marks u ∷ p) (bounds-with L w v) ∙ sym (cond-other u w x y n)
      ]

  pub in-bounds : (L : List ℕ) (b : Bound) → IsIn b (bounds_of marks L) → Has L b.var × (b ≡ bound_of marks b.var)
  in-bounds [] b h = absurd h
  in-bounds (u ∷ L) b h = elim h [
    | inl e ↦
        let q : b.var ≡ u = ap (λ (c : Bound). c.var) e in
        (inl q, e ∙ ap (bound_of marks) (sym q))
    | inr i ↦ let r = in-bounds L b i in (inr r.0, r.1)
  ]

-- equal marks, equal bounds and ranks
module _ (marks more : List Mark) where
  pub bounds-same : (L : List ℕ) → ((v : ℕ) → Has L v → (mark_at more v).quant ≡ (mark_at marks v).quant) → bounds_of more L ≡ bounds_of marks L
  bounds-same [] f = refl
  bounds-same (u ∷ L) f =
      let q : bound_of more u ≡ bound_of marks u = ap (λ (q : Quant). record { quant = q; var = u }) (f u (inl refl)) in
      let r = bounds-same L (λ v h. f v (inr h)) in
      rw (q, r) refl

pub ranked-from_same : (r s : ℕ → ℕ) (b : Bound) (p : List Bound) → s b.var ≡ r b.var → ((v : ℕ) → Binds p v → s v ≡ r v) → IsRankedFrom r b p → IsRankedFrom s b p
ranked-from_same r s b [] e f k = tt
ranked-from_same r s b (c ∷ p) e f k =
    let g : s c.var ≡ r c.var = f c.var (inl refl) in (
      elim k.0 [
        | inl x ↦ inl (x.0, e ∙ x.1 ∙ sym g)
        | inr x ↦ let y : r b.var < r c.var = x.1 in inr (x.0, omega arith)
      ],
      ranked-from_same r s c p g (λ v h. f v (inr h)) k.1,
    )

pub ranked-same : (r s : ℕ → ℕ) (p : List Bound) → ((v : ℕ) → Binds p v → s v ≡ r v) → IsRanked r p → IsRanked s p
ranked-same r s [] f k = tt
ranked-same r s (b ∷ p) f k = ranked-from_same r s b p (f b.var (inl refl)) (λ v h. f v (inr h)) k

pub has-binds : (marks : List Mark) (L : List ℕ) (v : ℕ) → Binds (bounds_of marks L) v → Has L v
has-binds marks [] v h = absurd h
has-binds marks (u ∷ L) v (inl e) = inl e
has-binds marks (u ∷ L) v (inr i) = inr (has-binds marks L v i)

pub bound-flag : (marks : List Mark) (L : List ℕ) (v : ℕ) → (Has L v → (mark_at marks v).bound ≡ true) → ((mark_at marks v).bound ≡ true → Has L v) → (mark_at marks v).bound ≡ is_bound (bounds_of marks L) v
bound-flag marks L v f g = go (mark_at marks v).bound refl (is_bound (bounds_of marks L) v) refl
  where
    go : (a : Bool) → (mark_at marks v).bound ≡ a → (b : Bool) → is_bound (bounds_of marks L) v ≡ b → (mark_at marks v).bound ≡ is_bound (bounds_of marks L) v
    go true e b h = e ∙ sym (bound-has marks L v (g e))
    go false e true h = absurd (true≢false (sym (f (has-bound marks L v h)) ∙ e))
    go false e false h = e ∙ sym h
