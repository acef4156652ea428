-- Paths lead on, and a literal stays where one leads to its negation.
use Rattle.std.proofs.Common.{◌≡◌, ◌≢◌, ◌⊎◌, ◌≤◌, ◌<◌, ◌+◌, ℕ, true, Some, List, sym, ap, subst, inl, inr, arith}
use Rattle.std.proofs.lemmas.Bool.{cases_eq}
use Rattle.q_logic.specs.Prelude.{Literal, negation, Clause, Prefix, IsIn, is_bound, outer_or_same, Slots, slot, others, Reached, Reducible}
use Rattle.q_logic.proofs.Common.{negation-negation, universal-is_bound, live-slot}
use Rattle.q_logic.proofs.ClosureSearch.{hit-reached}
use Rattle.q_kernel.specs.Prelude.{Seen, slots}
use Rattle.q_rule.proofs.IdClauses.{slot-one}
use Rattle.q_rule.proofs.OuterOrder.{inner-through}
use Rattle.q_reduce.specs.declared.place.Place.{Place}
use Rattle.q_reduce.specs.declared.place.Place.TheVariants.{Outside, Root, Below}
use Rattle.q_reduce.specs.Paths.{AreJoined, Lacks, Leads, there, on, IsNear, among, beside, HoldsUniversal, Stays}
use Rattle.q_reduce.specs.Forests.{ForestMap, place_of, depth_at, parent_at, depth_of, parent_of, IsEdge, IsForest, IsAbove, itself, up, IsClear}
use Rattle.q_reduce.proofs.ReachWalks.{lacking-beside}
use Rattle.q_reduce.proofs.ForestAncestors.{parent-level, parent-above, above-level, above-through, top-parent}

pub asked-bound : (P : Prefix) (N : Slots) (c : ℕ) (u : Literal) → HoldsUniversal P N c u → is_bound P u.var ≡ true
asked-bound P N c u q = universal-is_bound P u.var q.3

pub joined-turned : (P : Prefix) (N : Slots) (v c d : ℕ) → AreJoined P N v c d → AreJoined P N v d c
joined-turned P N v c d j = record {
  left = j.right;
  right = j.left;
  left_at = j.right_at;
  right_at = j.left_at;
  lit = negation j.lit;
  in_left = j.in_right;
  in_right = subst (λ (k : Literal). IsIn k j.left) (sym (negation-negation j.lit)) j.in_left;
  inner = j.inner;
}

pub joined-inside : (P : Prefix) (N : Slots) (v w c d : ℕ) → outer_or_same P w v ≡ true → AreJoined P N v c d → AreJoined P N w c d
joined-inside P N v w c d o j = record {
  left = j.left;
  right = j.right;
  left_at = j.left_at;
  right_at = j.right_at;
  lit = j.lit;
  in_left = j.in_left;
  in_right = j.in_right;
  inner = inner-through P w v j.lit.var o j.inner;
}

module _ (P : Prefix) (N : Slots) (u : Literal) where
  pub lacks-one : (c : ℕ) (C : Clause) → slot N c ≡ Some C → (IsIn u C → ⊥) → Lacks N c u
  lacks-one c C e n D f m = n (subst (λ (X : Clause). IsIn u X) (slot-one N c D C f e) m)

  -- what is beside a clause that leads on leads on
  pub leads-back : (c d : ℕ) → AreJoined P N u.var c d → Lacks N c u → Leads P N u c → Leads P N u d
  leads-back c d j n l = Leads.on d c (joined-turned P N u.var c d j) n l

  module _ (c : ℕ) (h : HoldsUniversal P N c u) where
    apart : (C : Clause) → slot N c ≡ Some C → (X : Clause) (x : ℕ) → slot N x ≡ Some X → (IsIn u X → ⊥) → IsIn X (others c N)
    apart C e X x s n = lacking-beside P u N c C X e (subst (λ (D : Clause). IsIn u D) (slot-one N c h.0 C h.1 e) h.2) (live-slot N x X s) n

    met : (x : ℕ) → Leads P N u x → (C : Clause) → slot N c ≡ Some C → (X : Clause) → slot N x ≡ Some X → Reached P (others c N) C u X → Reducible P (others c N) C u → ⊥
    met _ (there x D e m) C s X f r red = red.no_negation X r (subst (λ (Y : Clause). IsIn (negation u) Y) (slot-one N x D X e f) m)
    met _ (on x e j n l) C s X f r red =
        let q = subst (λ (D : Clause). Reached P (others c N) C u D) (slot-one N x X j.left f j.left_at) r in
        let free = n j.right j.right_at in
        met e l C s j.right j.right_at (hit-reached P (others c N) C u j.right j.lit (j.left, q, j.in_left, j.inner) (apart C s j.right e j.right_at free) free j.in_right) red

    pub leads-stays : Leads P N u c → Stays P N c u
    leads-stays l C s red = met c l C s C s Reached.first red

  pub starts-near : (c : ℕ) (xs : List ℕ) → ((s : ℕ) → IsIn s xs → Leads P N u s → Leads P N u c) → (y : ℕ) → IsNear P N u xs y → Leads P N u y → Leads P N u c
  starts-near c xs h _ (among y m) l = h y m l
  starts-near c xs h _ (beside x y j n r) l = starts-near c xs h x r (Leads.on x y j n l)

  pub ends-near : (xs : List ℕ) → ((e : ℕ) → IsIn e xs → Leads P N u e × Lacks N e u) → (y : ℕ) → IsNear P N u xs y → Leads P N u y × Lacks N y u
  ends-near xs h _ (among y m) = h y m
  ends-near xs h _ (beside x y j n r) = let a = ends-near xs h x r in (leads-back x y j a.1 a.0, n)

-- Paths in a forest.
module _ (P : Prefix) (N : Slots) (u : Literal) (F : ForestMap) (f : IsForest P N F) (o : outer_or_same P u.var F.block ≡ true) where
  pub joined-up : (c : ℕ) → 0 < depth_of F.places c → AreJoined P N u.var c (parent_of F.places c)
  joined-up c l = go (place_of F.places c) (f.edges c) l
    where
      go : (p : Place) → IsEdge P N F.block c p → 0 < depth_at p → AreJoined P N u.var c (parent_at c p)
      go Outside i l = absurd (let z : 0 < 0 = l in omega arith)
      go Root i l = absurd (let z : 0 < 0 = l in omega arith)
      go (Below p k d j) i l = joined-inside P N F.block u.var c p o i

  zero_or_more : (n : ℕ) → (n ≡ 0) ⊎ (0 < n)
  zero_or_more n = grind arith

  module _ (from to top : ℕ) (free : (x : ℕ) → x ≢ from → depth_of F.places top ≤ depth_of F.places x → IsAbove F.places x from ⊎ IsAbove F.places x to → Lacks N x u) where
    -- up to the common clause, unless the path comes by the first one
    climbed : (z : ℕ) → IsAbove F.places z to → IsAbove F.places top z → Leads P N u z → Leads P N u top ⊎ Leads P N u from
    climbed _ a itself l = inl l
    climbed _ a (up z b) l =
        let p = parent_of F.places z in
        let g : IsAbove F.places p to = above-through F.places f.levels p z to (parent-above F.places f.levels z) a in
        elim (cases_eq z from) [
          | inl e ↦ inr (subst (λ (x : ℕ). Leads P N u x) e l)
          | inr n ↦ elim (zero_or_more (depth_of F.places z)) [
            | inl e ↦ climbed p g b (subst (λ (x : ℕ). Leads P N u x) (sym (top-parent F.places f.levels z e)) l)
            | inr m ↦ climbed p g b (leads-back P N u z p (joined-up z m) (free z n (above-level F.places f.levels top z (IsAbove.up z b)) (inr a)) l)
          ]
        ]

    -- and down to the first one
    descended : (z : ℕ) → IsAbove F.places z from → IsAbove F.places top z → Leads P N u top → Leads P N u z
    descended _ a itself l = l
    descended _ a (up z b) l =
        let p = parent_of F.places z in
        let g : IsAbove F.places p from = above-through F.places f.levels p z from (parent-above F.places f.levels z) a in
        let r : Leads P N u p = descended p g b l in
        elim (zero_or_more (depth_of F.places z)) [
          | inl e ↦ subst (λ (x : ℕ). Leads P N u x) (top-parent F.places f.levels z e) r
          | inr m ↦
              let d : depth_of F.places z ≡ depth_of F.places p + 1 = parent-level F.places f.levels z m in
              let k : depth_of F.places z ≤ depth_of F.places from = above-level F.places f.levels z from a in
              let n : p ≢ from = λ e. let q : depth_of F.places p ≡ depth_of F.places from = ap (depth_of F.places) e in omega arith in
              Leads.on z p (joined-up z m) (free p n (above-level F.places f.levels top p b) (inl g)) r
        ]

    pub path-leads : IsAbove F.places top from → IsAbove F.places top to → Leads P N u to → Leads P N u from
    path-leads a b l = elim (climbed to IsAbove.itself b l) [ inl x ↦ descended from IsAbove.itself a x | inr x ↦ x ]

pub clear-leads : (k : Seen) (u : Literal) (F : ForestMap) (from to : ℕ) → IsForest k.prefix (slots k) F → outer_or_same k.prefix u.var F.block ≡ true → IsClear k F.places u from to → Leads k.prefix (slots k) u to → Leads k.prefix (slots k) u from
clear-leads k u F from to f o h l = path-leads k.prefix (slots k) u F f o from to h.top free h.above_from h.above_to l
  where
    free : (x : ℕ) → x ≢ from → depth_of F.places h.top ≤ depth_of F.places x → IsAbove F.places x from ⊎ IsAbove F.places x to → Lacks (slots k) x u
    free x n d a C e m =
        let r = h.free x (C, e, m) in
        elim a [ inl i ↦ r.first n d i | inr i ↦ r.second n d i ]
