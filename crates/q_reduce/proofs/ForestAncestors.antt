-- Clauses above others in a forest.
use Rattle.std.proofs.Common.{◌≡◌, ◌⊎◌, ◌≤◌, ◌<◌, ◌+◌, ℕ, zero, suc, List, refl, sym, ◌∙◌, ap, subst, inl, inr, arith}
use Rattle.q_reduce.specs.declared.place.Place.{Place}
use Rattle.q_reduce.specs.declared.place.Place.TheVariants.{Outside, Root, Below}
use Rattle.q_reduce.specs.Forests.{place_of, depth_at, parent_at, jump_at, depth_of, parent_of, jump_of, IsLevel, AreLevels, IsAbove, itself, up}

zero_or_more : (n : ℕ) → (n ≡ 0) ⊎ (0 < n)
zero_or_more n = grind arith

module _ (F : List Place) (h : AreLevels F) where
  -- a root, or a clause outside, is its own parent and jumps to itself
  pub top-parent : (c : ℕ) → depth_of F c ≡ 0 → parent_of F c ≡ c
  top-parent c e = go (place_of F c) (h c) e
    where
      go : (p : Place) → IsLevel F p → depth_at p ≡ 0 → parent_at c p ≡ c
      go Outside i e = refl
      go Root i e = refl
      go (Below p l d j) i e = let q : d ≡ depth_of F p + 1 = i.0 in let z : d ≡ 0 = e in absurd (omega arith)

  top-jump : (c : ℕ) → depth_of F c ≡ 0 → jump_of F c ≡ c
  top-jump c e = go (place_of F c) (h c) e
    where
      go : (p : Place) → IsLevel F p → depth_at p ≡ 0 → jump_at c p ≡ c
      go Outside i e = refl
      go Root i e = refl
      go (Below p l d j) i e = let q : d ≡ depth_of F p + 1 = i.0 in let z : d ≡ 0 = e in absurd (omega arith)

  pub parent-level : (c : ℕ) → 0 < depth_of F c → depth_of F c ≡ depth_of F (parent_of F c) + 1
  parent-level c l = go (place_of F c) (h c) l
    where
      go : (p : Place) → IsLevel F p → 0 < depth_at p → depth_at p ≡ depth_of F (parent_at c p) + 1
      go Outside i l = absurd (let z : 0 < 0 = l in omega arith)
      go Root i l = absurd (let z : 0 < 0 = l in omega arith)
      go (Below p k d j) i l = i.0

  jump-is : (c : ℕ) → 0 < depth_of F c → (jump_of F c ≡ parent_of F c) ⊎ (jump_of F c ≡ jump_of F (jump_of F (parent_of F c)))
  jump-is c l = go (place_of F c) (h c) l
    where
      go : (p : Place) → IsLevel F p → 0 < depth_at p → (jump_at c p ≡ parent_at c p) ⊎ (jump_at c p ≡ jump_of F (jump_of F (parent_at c p)))
      go Outside i l = absurd (let z : 0 < 0 = l in omega arith)
      go Root i l = absurd (let z : 0 < 0 = l in omega arith)
      go (Below p k d j) i l = i.1

  parent-least : (c : ℕ) → depth_of F (parent_of F c) ≤ depth_of F c
  parent-least c = elim (zero_or_more (depth_of F c)) [
    | inl z ↦ let e : depth_of F (parent_of F c) ≡ depth_of F c = ap (depth_of F) (top-parent c z) in omega arith
    | inr l ↦ let e : depth_of F c ≡ depth_of F (parent_of F c) + 1 = parent-level c l in omega arith
  ]

  pub above-level : (y c : ℕ) → IsAbove F y c → depth_of F y ≤ depth_of F c
  above-level y _ itself = omega arith
  above-level y _ (up c a) = let i : depth_of F y ≤ depth_of F (parent_of F c) = above-level y (parent_of F c) a in let l = parent-least c in omega arith

  pub above-through : (x y c : ℕ) → IsAbove F x y → IsAbove F y c → IsAbove F x c
  above-through x _ _ a itself = a
  above-through x y _ a (up c b) = IsAbove.up c (above-through x y (parent_of F c) a b)

  pub parent-above : (c : ℕ) → IsAbove F (parent_of F c) c
  parent-above c = IsAbove.up c IsAbove.itself

  -- what is above a clause at its own depth is the clause
  above-equal : (y c : ℕ) → IsAbove F y c → depth_of F y ≡ depth_of F c → y ≡ c
  above-equal _ _ itself e = refl
  above-equal y _ (up c a) e = elim (zero_or_more (depth_of F c)) [
    | inl z ↦ let q = top-parent c z in above-equal y (parent_of F c) a (e ∙ sym (ap (depth_of F) q)) ∙ q
    | inr l ↦
        let p : depth_of F c ≡ depth_of F (parent_of F c) + 1 = parent-level c l in
        let i : depth_of F y ≤ depth_of F (parent_of F c) = above-level y (parent_of F c) a in
        absurd (omega arith)
  ]

  -- at each depth there is at most one clause above another
  pub above-same : (x y c : ℕ) → IsAbove F x c → IsAbove F y c → depth_of F x ≡ depth_of F y → x ≡ y
  above-same x y _ itself b e = sym (above-equal y x b (sym e))
  above-same x y _ (up _ a) itself e = above-equal x y (IsAbove.up y a) e
  above-same x y _ (up _ a) (up _ b) e = above-same x y _ a b e

  above-jump : (n c : ℕ) → depth_of F c ≤ n → IsAbove F (jump_of F c) c
  above-jump zero c l = subst (λ (x : ℕ). IsAbove F x c) (sym (top-jump c (omega arith))) IsAbove.itself
  above-jump (suc n) c l = elim (zero_or_more (depth_of F c)) [
    | inl z ↦ subst (λ (x : ℕ). IsAbove F x c) (sym (top-jump c z)) IsAbove.itself
    | inr m ↦ elim (jump-is c m) [
      | inl e ↦ subst (λ (x : ℕ). IsAbove F x c) (sym e) (parent-above c)
      | inr e ↦
          let p = parent_of F c in
          let q : depth_of F c ≡ depth_of F p + 1 = parent-level c m in
          let one : IsAbove F (jump_of F p) p = above-jump n p (omega arith) in
          let r : depth_of F (jump_of F p) ≤ depth_of F p = above-level (jump_of F p) p one in
          let two : IsAbove F (jump_of F (jump_of F p)) (jump_of F p) = above-jump n (jump_of F p) (omega arith) in
          subst (λ (x : ℕ). IsAbove F x c) (sym e) (IsAbove.up c (above-through (jump_of F (jump_of F p)) (jump_of F p) p two one))
    ]
  ]

  pub jump-above : (c : ℕ) → IsAbove F (jump_of F c) c
  jump-above c = above-jump (depth_of F c) c (omega arith)

  pub jump-falls : (c : ℕ) → 0 < depth_of F c → depth_of F (jump_of F c) < depth_of F c
  jump-falls c m =
      let p = parent_of F c in
      let q : depth_of F c ≡ depth_of F p + 1 = parent-level c m in
      elim (jump-is c m) [
        | inl e ↦ let f : depth_of F (jump_of F c) ≡ depth_of F p = ap (depth_of F) e in omega arith
        | inr e ↦
            let f : depth_of F (jump_of F c) ≡ depth_of F (jump_of F (jump_of F p)) = ap (depth_of F) e in
            let r : depth_of F (jump_of F p) ≤ depth_of F p = above-level (jump_of F p) p (jump-above p) in
            let s : depth_of F (jump_of F (jump_of F p)) ≤ depth_of F (jump_of F p) = above-level (jump_of F (jump_of F p)) (jump_of F p) (jump-above (jump_of F p)) in
            omega arith
      ]
