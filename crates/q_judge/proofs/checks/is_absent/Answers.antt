use Rattle.std.proofs.Common.{◌≡◌, ◌⊎◌, ◌<◌, ℕ, Bool, true, false, eqb, sym, ◌∙◌, refl, subst, inl, inr, List, length, arith, true≢false, Contains, [], ◌∷◌}
use Rattle.std.specs.Prelude.{◌==◌}
use Rattle.std.proofs.lemmas.Bool.Decides.{nat_tests}
use Rattle.q_logic.specs.Prelude.{Literal, IsIn, IsAbsent, Slots}
use Rattle.q_prop.specs.Slots.{filled}
use Rattle.q_prop.specs.Holders.{IsHolder}
use Rattle.q_prop.specs.Lists.{IsDistinct}
use Rattle.q_logic.proofs.Common.{IsIn-Contains, Contains-IsIn}
use Rattle.q_judge.specs.Warrants.{AreHolders}
use Rattle.q_judge.proofs.SlotCollections.{held-in, in-held}
use Rattle.q_judge.proofs.checks.is_absent.Goals as goal

abbrev signed : ℕ → Bool → Literal
signed v b = record { var = v; negative = b }

-- a slot that is listed holds the variable
some-there : (s : Slots) (v : ℕ) (b : Bool) (slots : List ℕ) → AreHolders s (signed v b) slots → 0 < length slots → IsAbsent (filled s) v → ⊥
some-there s v b [] h l a = absurd (omega arith)
some-there s v b (n ∷ slots) h l a =
    let r = h.no_other n (0, omega arith, refl) in
    let e = a r.0 (held-in s n r.0 r.1) (signed v b) r.2 in
    let t : eqb v v ≡ true = grind (arith, nat_tests) in
    true≢false (sym t ∙ e)

none-in : (slots : List ℕ) (n : ℕ) → length slots ≡ 0 → Contains slots n → ⊥
none-in slots n e c = let h = c.1 in absurd (omega arith)

by_sign : (v : ℕ) (k : Literal) → k.var ≡ v → (k ≡ signed v true) ⊎ (k ≡ signed v false)
by_sign v k e = go k.negative refl
  where
    go : (b : Bool) → k.negative ≡ b → (k ≡ signed v true) ⊎ (k ≡ signed v false)
    go true f = inl (λ i. record { var = e i; negative = f i })
    go false f = inr (λ i. record { var = e i; negative = f i })

none-there : (s : Slots) (v : ℕ) (slots more : List ℕ) → AreHolders s (signed v true) slots → AreHolders s (signed v false) more → length slots ≡ 0 → length more ≡ 0 → IsAbsent (filled s) v
none-there s v slots more h g e f D d k m = go (eqb k.var v) refl
  where
    go : (b : Bool) → eqb k.var v ≡ b → b ≡ false
    go false q = refl
    go true q =
        let n = in-held s D d in
        absurd (elim (by_sign v k (grind (arith, nat_tests))) [
          | inl z ↦ none-in slots n.0 e (h.all_there n.0 D n.1 (subst (λ (j : Literal). IsIn j D) z m))
          | inr z ↦ none-in more n.0 f (g.all_there n.0 D n.1 (subst (λ (j : Literal). IsIn j D) z m))
        ])

nonempty : (n : ℕ) → (n == 0) ≡ false → 0 < n
nonempty n e = grind (arith, nat_tests)

empty : (n : ℕ) → (n == 0) ≡ true → n ≡ 0
empty n e = grind (arith, nat_tests)

listed : (s : Slots) (m : Literal) (slots : List ℕ) → ((n : ℕ) → (Contains slots n → IsHolder s n m) × (IsHolder s n m → Contains slots n)) → IsDistinct slots → AreHolders s m slots
listed s m slots h o = record {
  all_there = λ n D e i. (h n).1 (D, e, IsIn-Contains m D i);
  no_other = λ n i. let r = (h n).0 i in (r.0, r.1, Contains-IsIn m r.0 r.2);
  once = o;
}

pub returns-then-not-is_empty : goal.returns-then-not-is_empty
returns-then-not-is_empty c =
    let n = nonempty (length c.holders.result.now) (sym c.is_empty.ensures ∙ c.if-not-is_empty.true) in
    let h = subst (λ (m : Literal). AreHolders c.args.store.now m c.holders.result.now) c.new.ensures (listed c.args.store.now c.new.result c.holders.result.now c.holders.ensures.members c.holders.ensures.once) in (
      (λ t. absurd (true≢false (sym t))),
      (λ a. absurd (some-there c.args.store.now c.args.var true c.holders.result.now h n a)),
    )

pub returns : goal.returns
returns c =
    let e = empty (length c.holders.result.now) (sym c.is_empty.ensures ∙ c.if-not-is_empty.false) in
    let h = subst (λ (m : Literal). AreHolders c.args.store.now m c.holders.result.now) c.new.ensures (listed c.args.store.now c.new.result c.holders.result.now c.holders.ensures.members c.holders.ensures.once) in
    let g = subst (λ (m : Literal). AreHolders c.args.store.now m c.holders-2.result.now) c.new-2.ensures (listed c.args.store.now c.new-2.result c.holders-2.result.now c.holders-2.ensures.members c.holders-2.ensures.once) in
    go c.is_empty-2.result refl e h g
  where
    go : (b : Bool) → c.is_empty-2.result ≡ b → length c.holders.result.now ≡ 0 → AreHolders c.args.store.now (signed c.args.var true) c.holders.result.now → AreHolders c.args.store.now (signed c.args.var false) c.holders-2.result.now → (b ≡ true → IsAbsent (filled c.args.store.now) c.args.var) × (IsAbsent (filled c.args.store.now) c.args.var → b ≡ true)
    go true q e h g =
        let f = empty (length c.holders-2.result.now) (sym c.is_empty-2.ensures ∙ q) in (
          (λ t. none-there c.args.store.now c.args.var c.holders.result.now c.holders-2.result.now h g e f),
          (λ a. refl),
        )
    go false q e h g =
        let f = nonempty (length c.holders-2.result.now) (sym c.is_empty-2.ensures ∙ q) in (
          (λ t. absurd (true≢false (sym t))),
          (λ a. absurd (some-there c.args.store.now c.args.var false c.holders-2.result.now g f a)),
        )
