-- The circuits of one variable after the other, each by a function of those before it.
use Rattle.std.proofs.Common.{◌≡◌, ℕ, suc, ◌<◌, Bool, true, false, cond, ◌||◌, eqb, [], ◌∷◌, ◌⊎◌, inl, inr, arith, refl, ap, ◌∙◌, subst, Some}
use Rattle.q_logic.specs.declared.formulas.Bound.{Bound}
use Rattle.q_logic.specs.Prelude.{Prefix, is_exists, is_existential, is_bound, Distinct, Circuit, Strategy, given}
use Rattle.q_logic.specs.Prefixes.{place}
use Rattle.q_logic.proofs.PrefixOrder.{existential-is_bound}
use Rattle.q_long.specs.Decided.{with_next, with_all}

next-other : (F : Strategy → ℕ → Circuit) (c : Strategy) (b : Bound) (x : ℕ) → eqb b.var x ≡ false → with_next F c b x ≡ c x
next-other F c b x h = go (is_exists b.quant)
  where
    n : eqb x b.var ≡ false
    n = grind arith

    go : (q : Bool) → cond q (λ (y : ℕ). cond (eqb y b.var) (Some (F c b.var)) (c y)) c x ≡ c x
    go true = rw n refl
    go false = refl

next-itself : (F : Strategy → ℕ → Circuit) (c : Strategy) (b : Bound) → is_exists b.quant ≡ true →
    with_next F c b b.var ≡ Some (F c b.var)
next-itself F c b h = let n : eqb b.var b.var ≡ true = grind arith in rw (h, n) refl

pub all-outside : (F : Strategy → ℕ → Circuit) (P : Prefix) (c : Strategy) (x : ℕ) → is_bound P x ≡ false →
    with_all F P c x ≡ c x
all-outside F [] c x h = refl
all-outside F (b ∷ P) c x h =
    all-outside F P (with_next F c b) x (grind arith) ∙ next-other F c b x (grind arith)

pub all-given : (F : Strategy → ℕ → Circuit) (P : Prefix) (c : Strategy) (x : ℕ) → Distinct P →
    given (with_all F P c x) ≡ is_existential P x || given (c x)
all-given F [] c x d = refl
all-given F (b ∷ P) c x d =
    go (eqb b.var x) refl (all-given F P (with_next F c b) x d.1)
  where
    free : eqb b.var x ≡ true → is_existential P x ≡ false
    free e = let s : b.var ≡ x = grind arith in
        let z : is_bound P x ≡ false = subst (λ y. is_bound P y ≡ false) s d.0 in
        grind (arith, existential-is_bound P x)

    own : eqb b.var x ≡ true → (q : Bool) → is_exists b.quant ≡ q → given (with_next F c b x) ≡ q || given (c x)
    own e true h =
        let s : b.var ≡ x = grind arith in
        subst (λ y. given (with_next F c b y) ≡ true) s (ap given (next-itself F c b h))
    own e false h = rw h refl

    go : (a : Bool) → eqb b.var x ≡ a →
        given (with_all F P (with_next F c b) x) ≡ is_existential P x || given (with_next F c b x) →
        given (with_all F P (with_next F c b) x) ≡ cond a (is_exists b.quant) (is_existential P x) || given (c x)
    go true e ih = ih ∙ (rw (free e) (own e (is_exists b.quant) refl))
    go false e ih = ih ∙ ap (λ o. is_existential P x || given o) (next-other F c b x e)

-- What stood when the variable's turn came.
abbrev pub StandsAt : (Strategy → ℕ → Circuit) → Prefix → Strategy → ℕ → Strategy → Type 0
StandsAt F P c x d =
    (with_all F P c x ≡ Some (F d x)) ×
    ((y : ℕ) → (place P y < place P x) ⊎ (is_bound P y ≡ false) → with_all F P c y ≡ d y)

pub all-at : (F : Strategy → ℕ → Circuit) (P : Prefix) (c : Strategy) (x : ℕ) → Distinct P → is_existential P x ≡ true →
    (d : Strategy) × StandsAt F P c x d
all-at F [] c x d h = absurd (cc)
all-at F (b ∷ P) c x d h = go (eqb b.var x) refl (all-at F P (with_next F c b) x d.1)
  where
    result : Strategy
    result = with_all F P (with_next F c b)

    here : eqb b.var x ≡ true → is_exists b.quant ≡ true → result x ≡ Some (F c x)
    here e q =
        let s : b.var ≡ x = grind arith in
        subst (λ y. result y ≡ Some (F c y)) s
        (all-outside F P (with_next F c b) b.var d.0 ∙ next-itself F c b q)

    go : (a : Bool) → eqb b.var x ≡ a →
        (is_existential P x ≡ true → (e : Strategy) × StandsAt F P (with_next F c b) x e) →
        (e : Strategy) × StandsAt F (b ∷ P) c x e
    go true e ih = (c, (here e (grind arith), other))
      where
        other : (y : ℕ) → (place (b ∷ P) y < place (b ∷ P) x) ⊎ (is_bound (b ∷ P) y ≡ false) → result y ≡ c y
        other y (inl l) = absurd (let z : place (b ∷ P) x ≡ 0 = rw e refl in omega arith)
        other y (inr n) = all-outside F (b ∷ P) c y n
    go false e ih = let r : (e : Strategy) × StandsAt F P (with_next F c b) x e = ih (grind arith) in (r.0, (r.1.0, other r.0 r.1.1))
      where
        other : (f : Strategy) → ((y : ℕ) → (place P y < place P x) ⊎ (is_bound P y ≡ false) → result y ≡ f y) → (y : ℕ) →
            (place (b ∷ P) y < place (b ∷ P) x) ⊎ (is_bound (b ∷ P) y ≡ false) → result y ≡ f y
        other f k y s = step (eqb b.var y) refl s
          where
            step : (a : Bool) → eqb b.var y ≡ a →
                (cond a 0 (suc (place P y)) < place (b ∷ P) x) ⊎ (cond a true (is_bound P y) ≡ false) → result y ≡ f y
            step true q s = let z : b.var ≡ y = grind arith in k y (inr (subst (λ v. is_bound P v ≡ false) z d.0))
            step false q (inl l) = k y (inl (let z : place (b ∷ P) x ≡ suc (place P x) = rw e refl in omega arith))
            step false q (inr n) = k y (inr n)
