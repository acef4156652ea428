-- Gates have an order in which what is used comes first, or some gate is the first that depends on itself.
use Rattle.std.proofs.Common.{◌≡◌, ◌⊎◌, inl, inr, ℕ, zero, suc, ◌+◌, ◌*◌, ◌<◌, Bool, true, false, List, [], ◌∷◌, ◌++◌, length, set, replicate, refl, subst, arith}
use Rattle.std.proofs.lemmas.List.{length_push}
use Rattle.std.proofs.lemmas.Bool.{cases_lt, both_ways}
use Rattle.q_gates.specs.Uses.{Parts, DependsOn, AreDefined, IsFullOrder, IsFirstCycle}
use Rattle.q_gates.specs.Sorting.{is_marked, unmarked_count}
use Rattle.q_gates.specs.Spreading.{IsSpread, IsStacked}
use Rattle.q_gates.proofs.GateWalk.{defined, user-there, unmarked-set}
use Rattle.q_gates.proofs.SearchSteps.{spread-mark, spread-stacked, spread-none, stacked-pop, stacked-all}
use Rattle.q_offences.proofs.GateOrdering.{Cycle, Open, still-open, Last, none, last, seen, all-false, length-false, order-or-cycle}

abbrev Spent : Parts → ℕ → Type 0
Spent ps k = (marks : List Bool) × IsStacked ps k marks []

-- all that k depends on is marked, with so much left to mark and to look at
spread : (n : ℕ) (ps : Parts) (k : ℕ) (marks : List Bool) (stack : List ℕ) (g : ℕ) → AreDefined ps → IsSpread ps k marks stack g → (g ≡ k) ⊎ DependsOn ps k g → 2 * unmarked_count marks + length stack < n → Spent ps k
spread zero ps k marks stack g d s f l = absurd (omega (arith, l))
spread (suc n) ps k marks stack g d s f l = go (still-open ps marks g) (λ m t h i j r. spread n ps k m t h d i j r) where
  On : Type 0
  On = (m : List Bool) (t : List ℕ) (h : ℕ) → IsSpread ps k m t h → (h ≡ k) ⊎ DependsOn ps k h → 2 * unmarked_count m + length t < n → Spent ps k

  pop : (stack : List ℕ) → Last stack → IsStacked ps k marks stack → 2 * unmarked_count marks + length stack < suc n → On → Spent ps k
  pop stack none w l ih = (marks, w)
  pop stack (last xs t) w l ih = let p = stacked-pop ps k marks (xs ++ t ∷ []) xs t w refl in let e = length_push xs t in ih marks xs t p.0 (inr p.1) (omega arith)

  go : Open ps marks g → On → Spent ps k
  go (inl (h, u, c)) ih =
      let lt : h < length ps = d g h (user-there ps g h u) u in
      let r = s.room in
      let lm : h < length marks = omega arith in
      let m = unmarked-set marks h lm c in
      let e = length_push stack h in
      ih (set marks h true) (stack ++ h ∷ []) g (spread-mark ps k marks stack (stack ++ h ∷ []) g h s f u lt refl) f (omega arith)
  go (inr a) ih = pop stack (seen stack) (spread-stacked ps k marks stack g s a) l ih

spent : (ps : Parts) → AreDefined ps → (k : ℕ) → Spent ps k
spent ps d k =
    spread (suc (2 * unmarked_count (replicate (length ps) false) + 0)) ps k (replicate (length ps) false) [] k d
    (spread-none ps k (replicate (length ps) false) (length-false (length ps)) (all-false (length ps))) (inl refl) (omega arith)

cyclic-or-not : (ps : Parts) → AreDefined ps → (k : ℕ) → DependsOn ps k k ⊎ (¬ DependsOn ps k k)
cyclic-or-not ps d k = go (spent ps d k) where
  go : Spent ps k → DependsOn ps k k ⊎ (¬ DependsOn ps k k)
  go (marks, s) = by (is_marked marks k) refl where
    by : (x : Bool) → is_marked marks k ≡ x → DependsOn ps k k ⊎ (¬ DependsOn ps k k)
    by true e = inl (s.reached k e)
    by false e = inr (λ c. both_ways (is_marked marks k) e (stacked-all ps k marks s k c))

first-below : (ps : Parts) → AreDefined ps → (n : ℕ) → ((g : ℕ) × IsFirstCycle ps g) ⊎ ((g : ℕ) → g < n → ¬ DependsOn ps g g)
first-below ps d zero = inr (λ g l c. absurd (omega (arith, l)))
first-below ps d (suc n) = go (first-below ps d n) (cyclic-or-not ps d n) where
  go : ((g : ℕ) × IsFirstCycle ps g) ⊎ ((g : ℕ) → g < n → ¬ DependsOn ps g g) → DependsOn ps n n ⊎ (¬ DependsOn ps n n) → ((g : ℕ) × IsFirstCycle ps g) ⊎ ((g : ℕ) → g < suc n → ¬ DependsOn ps g g)
  go (inl f) c = inl f
  go (inr f) (inl c) = inl (n, record { there = defined ps n n c; cycle = c; first = f })
  go (inr f) (inr c) = inr (λ g l e. elim (cases_lt g n) [
    | inl a ↦ f g a e
    | inr a ↦ c (let q : g ≡ n = omega arith in subst (λ x. DependsOn ps x x) q e)
  ])

pub order-or-first : (ps : Parts) → AreDefined ps → ((order : List ℕ) × IsFullOrder ps order) ⊎ ((g : ℕ) × IsFirstCycle ps g)
order-or-first ps d = go (order-or-cycle ps d) where
  go : ((order : List ℕ) × IsFullOrder ps order) ⊎ Cycle ps → ((order : List ℕ) × IsFullOrder ps order) ⊎ ((g : ℕ) × IsFirstCycle ps g)
  go (inl o) = inl o
  go (inr (g, l, c)) = by (first-below ps d (suc g)) where
    by : ((h : ℕ) × IsFirstCycle ps h) ⊎ ((h : ℕ) → h < suc g → ¬ DependsOn ps h h) → ((order : List ℕ) × IsFullOrder ps order) ⊎ ((g : ℕ) × IsFirstCycle ps g)
    by (inl f) = inr f
    by (inr f) = absurd (f g (omega arith) c)
