-- A variable leaves a linked prefix.
use Rattle.std.proofs.Common.{◌≡◌, ◌≢◌, ◌⊎◌, ℕ, ◌+◌, ◌-◌, ◌<◌, Bool, true, false, cond, eqb, List, [], ◌∷◌, ◌++◌, Option, None, Some, get_or, set, length, refl, sym, ◌∙◌, ap, subst, inl, inr, arith, true≢false}
use Rattle.std.proofs.lemmas.Bool.Decides.{nat_tests}
use Rattle.std.proofs.lemmas.List.{get_or-set_same, get_or-set_other}
use Rattle.std.proofs.lemmas.Bool.{cases_eq, ne_eqb}
use Rattle.q_logic.specs.declared.formulas.Bound.{Bound}
use Rattle.q_logic.specs.Prelude.{Prefix, is_bound, same_quant, Distinct}
use Rattle.q_logic.proofs.Common.{removed-distinct, is_bound-first, is_bound-later, same_quant-two}
use Rattle.q_judge.specs.declared.bindings.Binding.{Binding}
use Rattle.q_judge.specs.Scopes.{binding_at, rank_at, rank_in, first_or, last_or, var_of, AreLinked, IsBindingOf, AreRanked, Follows, in_block, AreScoped, with_after, with_before, is_there, first_after}
use Rattle.q_judge.proofs.BoundPieces.{bound-cases, bound-left, bound-right, bound-either, distinct-apart, distinct-left, distinct-right, not-bound, last-bound, removed-split}
use Rattle.q_judge.proofs.LinkedPrefixes.{linked-left, linked-right, linked-join, linked-after, linked-before}
use Rattle.q_judge.proofs.BlockRanks.{ranked-left, ranked-right, ranked-gone, ranked-without_ends, ranked-same, in_block-same, in_block-append, in_block-one, in_block-some, some-in_block}
use Rattle.q_judge.proofs.BlockMerge.{positive-in, IsMeeting}

pub first-not : (C : Prefix) (w : ℕ) → is_bound C w ≡ false → is_there (first_or C None) w ≡ false
first-not [] w h = refl
first-not (c ∷ C) w h = ne_eqb c.var w (λ e. true≢false (sym (is_bound-first c C) ∙ ap (is_bound (c ∷ C)) e ∙ h))

pub last-not : (A : Prefix) (w : ℕ) → is_bound A w ≡ false → is_there (var_of (last_or A None)) w ≡ false
last-not [] w h = refl
last-not (b ∷ A) w h =
    let r = last-bound b A None in
    ap (λ (o : Option Bound). is_there (var_of o) w) r.1 ∙ ne_eqb r.0.var w (λ e. true≢false (sym r.2 ∙ ap (is_bound (b ∷ A)) e ∙ h))

-- a binding with other links
abbrev pub relinked : Option ℕ → Option ℕ → Option ℕ → Option ℕ → ℕ → Option Binding → Option Binding
relinked x n y o w t = cond (is_there y w) (with_before o (cond (is_there x w) (with_after n t) t)) (cond (is_there x w) (with_after n t) t)

pub relinked-rank : (x n y o : Option ℕ) (w : ℕ) (t : Option Binding) → rank_in (relinked x n y o w t) ≡ rank_in t
relinked-rank x n y o w t = go (is_there y w) (is_there x w) t
  where
    go : (p q : Bool) (t : Option Binding) → rank_in (cond p (with_before o (cond q (with_after n t) t)) (cond q (with_after n t) t)) ≡ rank_in t
    go true true None = refl
    go true true (Some s) = refl
    go true false None = refl
    go true false (Some s) = refl
    go false true None = refl
    go false true (Some s) = refl
    go false false t = refl

pub relinked-some : (x n y o : Option ℕ) (w : ℕ) (t : Option Binding) (s : Binding) → relinked x n y o w t ≡ Some s → (u : Binding) × (t ≡ Some u)
relinked-some x n y o w None s e = go (is_there y w) (is_there x w) e
  where
    go : (p q : Bool) → cond p (with_before o (cond q None None)) (cond q None None) ≡ Some s → (u : Binding) × (None ≡ Some u)
    go true true e = cc
    go true false e = cc
    go false true e = cc
    go false false e = cc
relinked-some x n y o w (Some u) s e = (u, refl)

pub relinked-after : (x n y o : Option ℕ) (w : ℕ) (t : Option Binding) → is_there y w ≡ false → relinked x n y o w t ≡ cond (is_there x w) (with_after n t) t
relinked-after x n y o w t e = ap (λ (p : Bool). cond p (with_before o (cond (is_there x w) (with_after n t) t)) (cond (is_there x w) (with_after n t) t)) e

pub relinked-before : (x n y o : Option ℕ) (w : ℕ) (t : Option Binding) → is_there x w ≡ false → relinked x n y o w t ≡ cond (is_there y w) (with_before o t) t
relinked-before x n y o w t e = ap (λ (p : Bool). cond (is_there y w) (with_before o (cond p (with_after n t) t)) (cond p (with_after n t) t)) e

pub same_binding : (s t : Binding) → Some s ≡ Some t → s ≡ t
same_binding s t e = cc

-- what is left without b, up to the numbers of blocks
pub record IsLeft (A : Prefix) (b : Bound) (C : Prefix) (first : Option ℕ) (bindings bindings' : List (Option Binding)) (counts : List ℕ) : Type 0 where
  pub distinct : Distinct (A ++ C)
  pub first_is : first ≡ first_or (A ++ C) None
  pub linked : AreLinked (binding_at bindings') None (A ++ C) None
  pub only : (v : ℕ) (s : Binding) → binding_at bindings' v ≡ Some s → is_bound (A ++ C) v ≡ true
  pub ranks : (v : ℕ) → is_bound (A ++ C) v ≡ true → rank_at bindings v ≡ rank_at bindings' v
  pub counted : (r : ℕ) → get_or counts r 0 ≡ in_block (rank_at bindings') r (A ++ C)

module _ (A : Prefix) (b : Bound) (C : Prefix) (first : Option ℕ) (bindings : List (Option Binding)) (counts : List ℕ) (a : AreScoped (A ++ b ∷ C) first bindings counts) (s : Binding) (e : binding_at bindings b.var ≡ Some s) where
  here : IsBindingOf (binding_at bindings) (last_or A None) b (first_or C None)
  here = (linked-right (binding_at bindings) None A (b ∷ C) None a.linked).0

  is-binding : here.binding ≡ s
  is-binding = same_binding here.binding s (sym here.there ∙ e)

  pub before-is : s.before ≡ var_of (last_or A None)
  before-is = ap (λ (t : Binding). t.before) (sym is-binding) ∙ here.before

  pub after-is : s.after ≡ first_or C None
  after-is = ap (λ (t : Binding). t.after) (sym is-binding) ∙ here.after

  pub rank-is : rank_at bindings b.var ≡ s.rank
  rank-is = ap rank_in e

  pub not-outer : is_bound A b.var ≡ false
  not-outer = not-bound A b.var (λ h. true≢false (sym (is_bound-first b C) ∙ distinct-apart A (b ∷ C) a.distinct b.var h))

  pub not-inner : is_bound C b.var ≡ false
  not-inner = (distinct-right A (b ∷ C) a.distinct).0

  pub counts-there : (0 < get_or counts s.rank 0) × (s.rank < length counts)
  counts-there =
      let x = some-in_block (rank_at bindings) (A ++ b ∷ C) b.var (bound-right A (b ∷ C) b.var (is_bound-first b C)) in
      let y : 0 < get_or counts s.rank 0 = subst (λ (n : ℕ). 0 < n) (sym (a.counted s.rank)) (subst (λ (r : ℕ). 0 < in_block (rank_at bindings) r (A ++ b ∷ C)) rank-is x) in
      (y, positive-in counts s.rank y)

  module _ (bindings' : List (Option Binding)) (other : (w : ℕ) → w ≢ b.var → binding_at bindings' w ≡ relinked s.before s.after s.after s.before w (binding_at bindings w)) (gone : binding_at bindings' b.var ≡ None) where
    in-outer : (w : ℕ) → is_bound A w ≡ true → w ≢ b.var
    in-outer w h q = true≢false (sym h ∙ ap (is_bound A) q ∙ not-outer)

    in-inner : (w : ℕ) → is_bound C w ≡ true → w ≢ b.var
    in-inner w h q = true≢false (sym h ∙ ap (is_bound C) q ∙ not-inner)

    inner-apart : (w : ℕ) → is_bound A w ≡ true → is_bound C w ≡ false
    inner-apart w h = not-bound C w (λ k. true≢false (sym (is_bound-later b C w k) ∙ distinct-apart A (b ∷ C) a.distinct w h))

    outer-apart : (w : ℕ) → is_bound C w ≡ true → is_bound A w ≡ false
    outer-apart w h = not-bound A w (λ k. true≢false (sym h ∙ inner-apart w k))

    on-outer : (w : ℕ) → is_bound A w ≡ true → binding_at bindings' w ≡ cond (is_there (var_of (last_or A None)) w) (with_after (first_or C None) (binding_at bindings w)) (binding_at bindings w)
    on-outer w h =
        other w (in-outer w h)
        ∙ relinked-after s.before s.after s.after s.before w (binding_at bindings w) (ap (λ (o : Option ℕ). is_there o w) after-is ∙ first-not C w (inner-apart w h))
        ∙ (λ j. cond (is_there (before-is j) w) (with_after (after-is j) (binding_at bindings w)) (binding_at bindings w))

    on-inner : (w : ℕ) → is_bound C w ≡ true → binding_at bindings' w ≡ cond (is_there (first_or C None) w) (with_before (var_of (last_or A None)) (binding_at bindings w)) (binding_at bindings w)
    on-inner w h =
        other w (in-inner w h)
        ∙ relinked-before s.before s.after s.after s.before w (binding_at bindings w) (ap (λ (o : Option ℕ). is_there o w) before-is ∙ last-not A w (outer-apart w h))
        ∙ (λ j. cond (is_there (after-is j) w) (with_before (before-is j) (binding_at bindings w)) (binding_at bindings w))

    left-linked : AreLinked (binding_at bindings') None (A ++ C) None
    left-linked =
        linked-join (binding_at bindings') None A C None
        (linked-after (binding_at bindings) (binding_at bindings') None A (Some b.var) (first_or C None) (distinct-left A (b ∷ C) a.distinct) on-outer (linked-left (binding_at bindings) None A (b ∷ C) None a.linked))
        (linked-before (binding_at bindings) (binding_at bindings') (Some b) (last_or A None) C None (distinct-right A (b ∷ C) a.distinct).1 on-inner (linked-right (binding_at bindings) None A (b ∷ C) None a.linked).1)

    none_some : (t : Binding) → None ≡ Some t → ⊥
    none_some t q = cc

    left-only : (w : ℕ) (t : Binding) → binding_at bindings' w ≡ Some t → is_bound (A ++ C) w ≡ true
    left-only w t q = elim (cases_eq w b.var) [
      | inl z ↦ absurd (none_some t (sym gone ∙ ap (binding_at bindings') (sym z) ∙ q))
      | inr z ↦
          let r = relinked-some s.before s.after s.after s.before w (binding_at bindings w) t (sym (other w z) ∙ q) in
          elim (bound-either A (b ∷ C) w (a.only w r.0 r.1)) [
            | inl h ↦ bound-left A C w h
            | inr h ↦ elim (bound-cases b C w h) [
              | inl k ↦ absurd (z (sym k))
              | inr k ↦ bound-right A C w k.1
            ]
          ]
    ]

    left-ranks : (w : ℕ) → is_bound (A ++ C) w ≡ true → rank_at bindings w ≡ rank_at bindings' w
    left-ranks w h =
        let n : w ≢ b.var = elim (bound-either A C w h) [ inl k ↦ in-outer w k | inr k ↦ in-inner w k ] in
        sym (ap rank_in (other w n) ∙ relinked-rank s.before s.after s.after s.before w (binding_at bindings w))

    -- b's block has one variable less
    one-less : (r : ℕ) → in_block (rank_at bindings) r (A ++ b ∷ C) ≡ in_block (rank_at bindings') r (A ++ C) + cond (eqb s.rank r) 1 0
    one-less r =
        let x = in_block-append (rank_at bindings) r A (b ∷ C) in
        let y = in_block-one (rank_at bindings) r b C in
        let z = in_block-append (rank_at bindings) r A C in
        let u = in_block-same (rank_at bindings) (rank_at bindings') r (A ++ C) left-ranks in
        let w = ap (λ (n : ℕ). cond {A = ℕ} (eqb n r) 1 0) rank-is in
        omega (arith, x, y, z, u, w)

    left-counted : (counts' : List ℕ) → counts' ≡ set counts s.rank (get_or counts s.rank 0 - 1) → (r : ℕ) → get_or counts' r 0 ≡ in_block (rank_at bindings') r (A ++ C)
    left-counted counts' k r = ap (λ (xs : List ℕ). get_or xs r 0) k ∙ elim (cases_eq r s.rank) [
      | inl z ↦
          let x = one-less s.rank in
          let q : eqb s.rank s.rank ≡ true = grind (arith, nat_tests) in
          let y = ap (λ (t : Bool). cond {A = ℕ} t 1 0) q in
          rw z (get_or-set_same counts s.rank (get_or counts s.rank 0 - 1) 0 counts-there.1 ∙ omega (arith, x, y, a.counted s.rank))
      | inr z ↦
          let x = one-less r in
          let q : eqb s.rank r ≡ false = ne_eqb s.rank r (λ p. z (sym p)) in
          let y = ap (λ (t : Bool). cond {A = ℕ} t 1 0) q in
          get_or-set_other counts s.rank r (get_or counts s.rank 0 - 1) 0 z ∙ omega (arith, x, y, a.counted r)
    ]

    left-first : (B : Prefix) (f : Option ℕ) → f ≡ first_or (B ++ b ∷ C) None → s.before ≡ var_of (last_or B None) → first_after s.before s.after f ≡ first_or (B ++ C) None
    left-first [] f p q = ap (λ (x : Option ℕ). first_after x s.after f) q ∙ after-is
    left-first (x ∷ B) f p q = let r = last-bound x B None in ap (λ (y : Option ℕ). first_after y s.after f) (q ∙ ap var_of r.1) ∙ p

    pub is-left : (first' : Option ℕ) (counts' : List ℕ) → first' ≡ first_after s.before s.after first → counts' ≡ set counts s.rank (get_or counts s.rank 0 - 1) → IsLeft A b C first' bindings bindings' counts'
    is-left first' counts' f k = record {
      distinct = subst (λ (P : Prefix). Distinct P) (removed-split A b C b.var refl not-outer) (removed-distinct b.var (A ++ b ∷ C) a.distinct);
      first_is = f ∙ left-first A first a.first_is before-is;
      linked = left-linked;
      only = left-only;
      ranks = left-ranks;
      counted = left-counted counts' k;
    }

    module _ (first' : Option ℕ) (counts' : List ℕ) (l : IsLeft A b C first' bindings bindings' counts') where
      scoped : AreRanked (rank_at bindings) None (A ++ C) → AreScoped (A ++ C) first' bindings' counts'
      scoped h = record { distinct = l.distinct; first_is = l.first_is; linked = l.linked; only = l.only; ranked = ranked-same (rank_at bindings) (rank_at bindings') None (A ++ C) l.ranks (λ x q. none_bound x q) h; counted = l.counted }
        where
          none_bound : (x : Bound) → None ≡ Some x → rank_at bindings x.var ≡ rank_at bindings' x.var
          none_bound x q = cc

      -- another variable of its block stays
      pub left-stays : get_or counts' s.rank 0 ≢ 0 → AreScoped (A ++ C) first' bindings' counts'
      left-stays n =
          let x : 0 < in_block (rank_at bindings') s.rank (A ++ C) = let y = l.counted s.rank in omega (arith, y, n) in
          let r = in_block-some (rank_at bindings') s.rank (A ++ C) x in
          scoped (ranked-gone (rank_at bindings) A b C a.ranked r.0 r.1 (l.ranks r.0 r.1 ∙ r.2 ∙ sym rank-is))

      -- nothing stands on one side of it
      pub left-end : (s.before ≡ None) ⊎ (s.after ≡ None) → AreScoped (A ++ C) first' bindings' counts'
      left-end h = scoped (ranked-without_ends (rank_at bindings) A b C a.ranked (elim h [
        | inl q ↦ inl (no-last (last_or A None) (sym before-is ∙ q))
        | inr q ↦ inr (no-first C (sym after-is ∙ q))
      ]))
        where
          no-last : (o : Option Bound) → var_of o ≡ None → o ≡ None
          no-last None q = refl
          no-last (Some x) q = cc

          no-first : (D : Prefix) → first_or D None ≡ None → D ≡ []
          no-first [] q = refl
          no-first (x ∷ D) q = cc

      -- the block is gone, and these are beside it
      pub left-meets : get_or counts' s.rank 0 ≡ 0 → (x y : Bound) (D : Prefix) → last_or A None ≡ Some x → C ≡ y ∷ D → IsMeeting A x y D bindings' counts'
      left-meets z x y D p q = record {
        last = p;
        distinct = subst (λ (E : Prefix). Distinct (A ++ E)) q l.distinct;
        linked = subst (λ (E : Prefix). AreLinked (binding_at bindings') None (A ++ E) None) q l.linked;
        only = λ v t h. subst (λ (E : Prefix). is_bound (A ++ E) v ≡ true) q (l.only v t h);
        outer = ranked-same (rank_at bindings) (rank_at bindings') None A (λ v h. l.ranks v (bound-left A C v h)) (λ w h. absurd (no_bound w h)) (ranked-left (rank_at bindings) None A (b ∷ C) a.ranked);
        inner = ranked-same (rank_at bindings) (rank_at bindings') (Some y) D (λ v h. l.ranks v (in-C v (is_bound-later y D v h))) (λ w h. subst (λ (u : Bound). rank_at bindings u.var ≡ rank_at bindings' u.var) (alike y w h) (l.ranks y.var y-in)) second.1;
        less = (let m = l.ranks x.var x-in in let n = l.ranks y.var y-in in omega (arith, m, n, low.1, high.1));
        same = same_quant-two x.quant b.quant y.quant low.0 high.0;
        counted = λ r. subst (λ (E : Prefix). get_or counts' r 0 ≡ in_block (rank_at bindings') r (A ++ E)) q (l.counted r);
      }
        where
          no_bound : (w : Bound) → None ≡ Some w → ⊥
          no_bound w h = cc

          alike : (u w : Bound) → Some u ≡ Some w → u ≡ w
          alike u w h = cc

          in-C : (v : ℕ) → is_bound (y ∷ D) v ≡ true → is_bound (A ++ C) v ≡ true
          in-C v h = bound-right A C v (subst (λ (E : Prefix). is_bound E v ≡ true) (sym q) h)

          y-in : is_bound (A ++ C) y.var ≡ true
          y-in = in-C y.var (is_bound-first y D)

          last-in : (B : Prefix) → last_or B None ≡ Some x → is_bound B x.var ≡ true
          last-in [] h = absurd (no_bound x h)
          last-in (w ∷ B) h = let r = last-bound w B None in subst (λ (u : Bound). is_bound (w ∷ B) u.var ≡ true) (alike r.0 x (sym r.1 ∙ h)) r.2

          x-in : is_bound (A ++ C) x.var ≡ true
          x-in = bound-left A C x.var (last-in A p)

          right : AreRanked (rank_at bindings) (last_or A None) (b ∷ C)
          right = ranked-right (rank_at bindings) None A (b ∷ C) a.ranked

          second : Follows (rank_at bindings) (Some b) y × AreRanked (rank_at bindings) (Some y) D
          second = subst (λ (E : Prefix). AreRanked (rank_at bindings) (Some b) E) q right.1

          -- none of b's block is left
          other-rank : (w : ℕ) → is_bound (A ++ C) w ≡ true → rank_at bindings w ≢ rank_at bindings b.var
          other-rank w h g =
              let k : rank_at bindings' w ≡ s.rank = sym (l.ranks w h) ∙ g ∙ rank-is in
              let i : 0 < in_block (rank_at bindings') s.rank (A ++ C) = subst (λ (r : ℕ). 0 < in_block (rank_at bindings') r (A ++ C)) k (some-in_block (rank_at bindings') (A ++ C) w h) in
              let j = l.counted s.rank in
              absurd (omega (arith, i, j, z))

          low : (same_quant x.quant b.quant ≡ false) × (rank_at bindings x.var < rank_at bindings b.var)
          low = elim (subst (λ (o : Option Bound). Follows (rank_at bindings) o b) p right.0) [
            | inl k ↦ absurd (other-rank x.var x-in k.1)
            | inr k ↦ k
          ]

          high : (same_quant b.quant y.quant ≡ false) × (rank_at bindings b.var < rank_at bindings y.var)
          high = elim second.0 [
            | inl k ↦ absurd (other-rank y.var y-in (sym k.1))
            | inr k ↦ k
          ]
