-- Gates of which none depends on itself have an order in which what is used comes first.
use Rattle.std.proofs.Common.{◌≡◌, ◌⊎◌, inl, inr, ℕ, zero, suc, ◌+◌, ◌<◌, ◌≤◌, Bool, true, false, List, [], ◌∷◌, ◌++◌, length, get_or, set, replicate, refl, sym, ap, ◌∙◌, subst, arith, Option, Some, None}
use Rattle.std.proofs.lemmas.List.{length_push, get_or_push}
use Rattle.std.proofs.lemmas.Bool.{both_ways, cases_lt}
use Rattle.q_gates.specs.Uses.{Parts, part_at, Uses, DependsOn, AreDefined, IsFullOrder}
use Rattle.q_gates.specs.Sorting.{is_marked, unmarked_count, IsWalk}
use Rattle.q_gates.proofs.GateWalk.{set-same, set-kept, walk-cycle, walk-push, walk-pop, walk-none, walk-full, unmarked-set}

abbrev pub Cycle : Parts → Type 0
Cycle ps = (g : ℕ) × (g < length ps) × DependsOn ps g g

-- all that was open or on the stack is closed
pub record Walked (ps : Parts) (opened : List Bool) : Type 0 where
  pub now : List Bool
  pub closed : List Bool
  pub order : List ℕ
  pub walk : IsWalk ps now closed [] order
  pub kept : (g : ℕ) → is_marked opened g ≡ true → is_marked now g ≡ true

-- what a gate uses and is not closed yet, or that all is
abbrev pub Open : Parts → List Bool → ℕ → Type 0
Open ps closed t = ((h : ℕ) × Uses ps t h × (is_marked closed h ≡ false)) ⊎ ((h : ℕ) → Uses ps t h → is_marked closed h ≡ true)

pub still-open : (ps : Parts) (closed : List Bool) (t : ℕ) → Open ps closed t
still-open ps closed t = go (part_at ps t).0 (part_at ps t).1 refl refl where
  second : (b : Option ℕ) → (part_at ps t).1 ≡ b → ((h : ℕ) → (part_at ps t).0 ≡ Some h → is_marked closed h ≡ true) → Open ps closed t
  second None q l = inr (λ h u. elim u [ inl i ↦ l h i | inr i ↦ absurd (let j : None ≡ Some h = sym q ∙ i in cc) ])
  second (Some k) q l = by (is_marked closed k) refl where
    by : (x : Bool) → is_marked closed k ≡ x → Open ps closed t
    by false e = inl (k, inr q, e)
    by true e = inr (λ h u. elim u [ inl i ↦ l h i | inr i ↦ (let j : Some k ≡ Some h = sym q ∙ i in let m : k ≡ h = cc in subst (λ x. is_marked closed x ≡ true) m e) ])

  go : (a b : Option ℕ) → (part_at ps t).0 ≡ a → (part_at ps t).1 ≡ b → Open ps closed t
  go None b p q = second b q (λ h i. absurd (let j : None ≡ Some h = sym p ∙ i in cc))
  go (Some k) b p q = by (is_marked closed k) refl where
    by : (x : Bool) → is_marked closed k ≡ x → Open ps closed t
    by false e = inl (k, inl p, e)
    by true e = second b q (λ h i. let j : Some k ≡ Some h = sym p ∙ i in let m : k ≡ h = cc in subst (λ x. is_marked closed x ≡ true) m e)

-- the last of a list
pub data Last : List ℕ → Type 0 where
  none : Last []
  last : (xs : List ℕ) (x : ℕ) → Last (xs ++ x ∷ [])

pub seen : (xs : List ℕ) → Last xs
seen [] = none
seen (x ∷ xs) = go xs (seen xs) where
  go : (xs : List ℕ) → Last xs → Last (x ∷ xs)
  go xs none = last [] x
  go xs (last ys y) = last (x ∷ ys) y

-- the walk, with so much left to mark
walked : (n : ℕ) (ps : Parts) (opened closed : List Bool) (stack order : List ℕ) → AreDefined ps → IsWalk ps opened closed stack order → unmarked_count opened + unmarked_count closed < n → Walked ps opened ⊎ Cycle ps
walked zero ps opened closed stack order d w l = absurd (omega (arith, l))
walked (suc n) ps opened closed stack order d w l = go stack (seen stack) w (λ o c s r v k. walked n ps o c s r d v k) where
  On : Type 0
  On = (o c : List Bool) (s r : List ℕ) → IsWalk ps o c s r → unmarked_count o + unmarked_count c < n → Walked ps o ⊎ Cycle ps

  go : (stack : List ℕ) → Last stack → IsWalk ps opened closed stack order → On → Walked ps opened ⊎ Cycle ps
  go stack none w ih = inl (record { now = opened; closed = closed; order = order; walk = w; kept = λ g e. e })
  go stack (last s t) w ih = by (still-open ps closed t) where
    pushed : (h : ℕ) → Uses ps t h → is_marked closed h ≡ false → (x : Bool) → is_marked opened h ≡ x → Walked ps opened ⊎ Cycle ps
    pushed h u c true e = inr (walk-cycle ps opened closed (s ++ t ∷ []) order (length s) h w (let e = length_push s t in omega arith) (subst (λ x. Uses ps x h) (sym (get_or_push s t 0 (length s) refl)) u) e c)
    pushed h u c false e =
        let lh : h < length ps = d t h (subst (λ x. x < length ps) (get_or_push s t 0 (length s) refl) (w.stacked (length s) (let e = length_push s t in omega arith)).2) u in
        let ro = w.opened_room in
        let lo : h < length opened = omega arith in
        let v = walk-push ps opened closed (s ++ t ∷ []) order h w lh e c (λ k q. (let f = length_push s t in let i : length s ≡ k = omega arith in subst (λ x. Uses ps x h) (sym (ap (λ (j : ℕ). get_or (s ++ t ∷ []) j 0) (sym i) ∙ get_or_push s t 0 (length s) refl)) u)) in
        let m = unmarked-set opened h lo e in
        keep (ih (set opened h true) closed ((s ++ t ∷ []) ++ h ∷ []) order v (omega arith)) (λ g i. set-kept opened h g lo i) where
          keep : Walked ps (set opened h true) ⊎ Cycle ps → ((g : ℕ) → is_marked opened g ≡ true → is_marked (set opened h true) g ≡ true) → Walked ps opened ⊎ Cycle ps
          keep (inl r) f = inl (record { now = r.now; closed = r.closed; order = r.order; walk = r.walk; kept = λ g i. r.kept g (f g i) })
          keep (inr c) f = inr c

    by : Open ps closed t → Walked ps opened ⊎ Cycle ps
    by (inl (h, u, c)) = pushed h u c (is_marked opened h) refl
    by (inr a) =
        let lt : t < length ps = subst (λ x. x < length ps) (get_or_push s t 0 (length s) refl) (w.stacked (length s) (let e = length_push s t in omega arith)).2 in
        let uc : is_marked closed t ≡ false = subst (λ x. is_marked closed x ≡ false) (get_or_push s t 0 (length s) refl) (w.stacked (length s) (let e = length_push s t in omega arith)).1 in
        let rc = w.closed_room in
        let lc : t < length closed = omega arith in
        let m = unmarked-set closed t lc uc in
        ih opened (set closed t true) s (order ++ t ∷ []) (walk-pop ps opened closed s order t w a) (omega arith)

-- all gates below k are open
pub record Below (ps : Parts) (k : ℕ) : Type 0 where
  pub opened : List Bool
  pub closed : List Bool
  pub order : List ℕ
  pub walk : IsWalk ps opened closed [] order
  pub all : (g : ℕ) → g < k → is_marked opened g ≡ true

pub all-false : (n g : ℕ) → is_marked (replicate n false) g ≡ false
all-false zero g = refl
all-false (suc n) zero = refl
all-false (suc n) (suc g) = all-false n g

pub length-false : (n : ℕ) → length (replicate n false) ≡ n
length-false zero = refl
length-false (suc n) = ap suc (length-false n)

below : (ps : Parts) → AreDefined ps → (k : ℕ) → k ≤ length ps → Below ps k ⊎ Cycle ps
below ps d zero l = inl (record {
  opened = replicate (length ps) false;
  closed = replicate (length ps) false;
  order = [];
  walk = walk-none ps (replicate (length ps) false) (replicate (length ps) false) (length-false (length ps)) (length-false (length ps)) (all-false (length ps)) (all-false (length ps));
  all = λ g b. absurd (omega (arith, b));
})
below ps d (suc k) l = go (below ps d k (omega arith)) where
  next : (b : Below ps k) → (x : Bool) → is_marked b.opened k ≡ x → Below ps (suc k) ⊎ Cycle ps
  next b true e = inl (record {
    opened = b.opened;
    closed = b.closed;
    order = b.order;
    walk = b.walk;
    all = λ g i. elim (cases_lt g k) [ inl j ↦ b.all g j | inr j ↦ (let q : k ≡ g = omega arith in subst (λ x. is_marked b.opened x ≡ true) q e) ];
  })
  next b false e =
      let ro = b.walk.opened_room in
      let lo : k < length b.opened = omega arith in
      let v = walk-push ps b.opened b.closed [] b.order k b.walk (omega arith) e (unopened b.closed b.opened k (b.walk.closed_opened k) e) (λ t q. absurd (omega (arith, q))) in
      fin (walked (suc (unmarked_count (set b.opened k true) + unmarked_count b.closed)) ps (set b.opened k true) b.closed (k ∷ []) b.order d v (omega arith)) (set-same b.opened k lo) (λ g i. set-kept b.opened k g lo (b.all g i)) where
        unopened : (closed opened : List Bool) (k : ℕ) → (is_marked closed k ≡ true → is_marked opened k ≡ true) → is_marked opened k ≡ false → is_marked closed k ≡ false
        unopened closed opened k f e = by (is_marked closed k) refl where
          by : (x : Bool) → is_marked closed k ≡ x → is_marked closed k ≡ false
          by false i = i
          by true i = absurd (both_ways (is_marked opened k) e (f i))

        fin : Walked ps (set b.opened k true) ⊎ Cycle ps → is_marked (set b.opened k true) k ≡ true → ((g : ℕ) → g < k → is_marked (set b.opened k true) g ≡ true) → Below ps (suc k) ⊎ Cycle ps
        fin (inr c) s a = inr c
        fin (inl r) s a = inl (record {
          opened = r.now;
          closed = r.closed;
          order = r.order;
          walk = r.walk;
          all = λ g i. r.kept g (elim (cases_lt g k) [ inl j ↦ a g j | inr j ↦ (let q : k ≡ g = omega arith in subst (λ x. is_marked (set b.opened k true) x ≡ true) q s) ]);
        })

  go : Below ps k ⊎ Cycle ps → Below ps (suc k) ⊎ Cycle ps
  go (inl b) = next b (is_marked b.opened k) refl
  go (inr c) = inr c

pub order-or-cycle : (ps : Parts) → AreDefined ps → ((order : List ℕ) × IsFullOrder ps order) ⊎ Cycle ps
order-or-cycle ps d = go (below ps d (length ps) (omega arith)) where
  go : Below ps (length ps) ⊎ Cycle ps → ((order : List ℕ) × IsFullOrder ps order) ⊎ Cycle ps
  go (inl b) = inl (b.order, walk-full ps b.opened b.closed b.order b.walk b.all)
  go (inr c) = inr c
