-- A walk that ends has met all that is connected.
use Rattle.std.proofs.Common.{◌≡◌, ℕ, ◌+◌, ◌<◌, ◌≤◌, false, not, List, slice_get, Some, length, refl, sym, ◌∙◌, ap, subst, inl, inr, arith, length-append}
use Rattle.std.proofs.lemmas.Option.{same_Some}
use Rattle.q_logic.specs.Prelude.{Literal, negation, Clause, IsIn, positive, slot, live, Spread}
use Rattle.q_logic.proofs.MeasureFalls.{var_is}
use Rattle.q_logic.proofs.Common.{before_or_at, IsIn-slice_get, slice_get-before}
use Rattle.q_logic.proofs.HintChains.{live-number}
use Rattle.q_kernel.specs.Lists.{Has}
use Rattle.q_kernel.specs.Prelude.{Seen, slots}
use Rattle.q_expand.specs.Dependents.{Walked, IsConnected, AreDependents, IsLarger, HasMet, IsWhole, IsVisited}
use Rattle.q_expand.specs.declared.dependents.Room.{Room}

module _ (k : Seen) (u : ℕ) where
  -- the variables before the head were visited
  pub record IsWalk (head : ℕ) (r : Walked) : Type 0 where
    pub within : head ≤ length r.vars
    pub dependents : AreDependents k u r
    pub own : HasMet k r (positive u) × HasMet k r (negation (positive u))
    pub visited : (j : ℕ) (l : Literal) → j < head → slice_get r.vars j ≡ Some l → HasMet k r l × HasMet k r (negation l)

  pub walk-begun : (room : Room) (l : Literal) (old new : Walked) → l.negative ≡ false → l.var ≡ u → IsVisited k u room l old new → HasMet k new (negation l) → IsWalk 0 new
  walk-begun room l old new s e v n = record {
    within = omega arith;
    dependents = v.dependents;
    own = (
      subst (HasMet k new) (λ i. record { var = e i; negative = s i }) v.met,
      subst (HasMet k new) (λ i. record { var = e i; negative = not (s i) }) n,
    );
    visited = λ j i b f. absurd (omega arith);
  }

  larger-met : (old new : Walked) (l : Literal) → IsLarger old new → HasMet k old l → HasMet k new l
  larger-met old new l g h c C e m = g.met c (h c C e m)

  pub walk-more : (room : Room) (head : ℕ) (l : Literal) (old new : Walked) → IsWalk head old → head < length old.vars → slice_get old.vars head ≡ Some l → IsVisited k u room l old new → HasMet k new (negation l) → IsWalk (head + 1) new
  walk-more room head l old new w b e v n = record {
    within = let a = ap length v.larger.vars in let d = length-append old.vars v.larger.added in omega arith;
    dependents = v.dependents;
    own = (larger-met old new (positive u) v.larger w.own.0, larger-met old new (negation (positive u)) v.larger w.own.1);
    visited = λ j i h f. elim (before_or_at j head h) [
      | inl a ↦ let o = w.visited j i a (was j i (let q = w.within in omega arith) f) in (larger-met old new i v.larger o.0, larger-met old new (negation i) v.larger o.1)
      | inr a ↦ subst (λ (x : Literal). HasMet k new x × HasMet k new (negation x)) (sym (here j i a f)) (v.met, n)
    ];
  }
    where
      was : (j : ℕ) (i : Literal) → j < length old.vars → slice_get new.vars j ≡ Some i → slice_get old.vars j ≡ Some i
      was j i h f = slice_get-before old.vars v.larger.added j i h (subst (λ (xs : List Literal). slice_get xs j ≡ Some i) v.larger.vars f)

      here : (j : ℕ) (i : Literal) → j ≡ head → slice_get new.vars j ≡ Some i → i ≡ l
      here j i a f = same_Some i l (sym (was j i (omega arith) f) ∙ (ap (slice_get old.vars) a ∙ e))

  pub walk-ended : (head : ℕ) (r : Walked) → IsWalk head r → length r.vars ≤ head → IsWhole k u r
  walk-ended head r w past = record { dependents = w.dependents; all_met = all; all_vars = closed }
    where
      by_u : (c : ℕ) (C : Clause) (j : Literal) → slot (slots k) c ≡ Some C → IsIn j C → j.var ≡ u → Has r.met c
      by_u c C j e m f = elim (var_is j u f) [
        | inl g ↦ w.own.0 c C e (subst (λ (x : Literal). IsIn x C) g m)
        | inr g ↦ w.own.1 c C e (subst (λ (x : Literal). IsIn x C) g m)
      ]

      by_var : (v c : ℕ) (C : Clause) (j : Literal) → IsIn (positive v) r.vars → slot (slots k) c ≡ Some C → IsIn j C → j.var ≡ v → Has r.met c
      by_var v c C j i e m f =
          let p = IsIn-slice_get r.vars (positive v) i in
          let o = w.visited p.0 (positive v) (let b = p.1 in omega arith) p.2 in
          elim (var_is j v f) [
            | inl g ↦ o.0 c C e (subst (λ (x : Literal). IsIn x C) g m)
            | inr g ↦ o.1 c C e (subst (λ (x : Literal). IsIn x C) g m)
          ]

      closed : (v : ℕ) → Spread k.prefix (live (slots k)) u v → IsIn (positive v) r.vars
      closed v (Spread.starts D j i m a e b t) =
          let s = live-number (slots k) D m in
          w.dependents.spread s.0 D (by_u s.0 D j s.1 a e) s.1 i b t
      closed v (Spread.spreads {w = x} D j i m a e b t q) =
          let s = live-number (slots k) D m in
          w.dependents.spread s.0 D (by_var x s.0 D j (closed x q) s.1 a e) s.1 i b t

      all : (c : ℕ) (C : Clause) → slot (slots k) c ≡ Some C → IsConnected k.prefix (live (slots k)) u C → Has r.met c
      all c C e (j, m, inl f) = by_u c C j e m f
      all c C e (j, m, inr s) = by_var j.var c C j (closed j.var s) e m refl
