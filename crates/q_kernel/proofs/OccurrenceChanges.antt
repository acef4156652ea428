-- Variables that start and stop to occur as lists grow and shrink.
use Rattle.std.proofs.Common.{◌≡◌, ◌≢◌, ℕ, zero, suc, ◌+◌, ◌<◌, Bool, true, false, ◌&&◌, ◌||◌, not, eqb, if◌then◌else◌, List, [], ◌∷◌, length, get_or, take, refl, sym, ◌∙◌, ap, subst, inl, inr, arith, add-one}
use Rattle.std.proofs.lemmas.Bool.Decides.{nat_tests}
use Rattle.std.proofs.lemmas.Bool.{cases_eq}
use Rattle.q_logic.specs.Prelude.{Literal, negation, Clause, Prefix, has_variable}
use Rattle.q_arena.specs.Prelude.{Chains, Has}
use Rattle.q_occ.specs.Places.{places_of}
use Rattle.q_kernel.specs.Uses.{Groups, AreUses, with_occurring}
use Rattle.q_kernel.specs.Listing.{is_listed, with_clause, without_clause}
use Rattle.q_kernel.proofs.GroupChanges.{uses-same, occurring-here, occurring-other}

none-listed : (o : Chains) (v : ℕ) (b : Bool) → length (places_of o (record { var = v; negative = b })) ≡ 0 → length (places_of o (record { var = v; negative = not b })) ≡ 0 → is_listed o v ≡ false
none-listed o v true p n = grind (arith, nat_tests)
none-listed o v false p n = grind (arith, nat_tests)

some-listed : (o : Chains) (v : ℕ) (b : Bool) → length (places_of o (record { var = v; negative = b })) ≢ 0 → is_listed o v ≡ true
some-listed o v true n = grind (arith, nat_tests)
some-listed o v false n = grind (arith, nat_tests)

pub not-listed : (o : Chains) (l : Literal) → length (places_of o l) ≡ 0 → length (places_of o (negation l)) ≡ 0 → is_listed o l.var ≡ false
not-listed o l p n = none-listed o l.var l.negative p n

pub listed : (o : Chains) (l : Literal) → length (places_of o l) ≢ 0 → is_listed o l.var ≡ true
listed o l n = some-listed o l.var l.negative n

pub has-listed : (o : Chains) (l : Literal) (p : ℕ) → Has (places_of o l) p → is_listed o l.var ≡ true
has-listed o l p h = listed o l (some (places_of o l) h)
  where
    some : (ys : List ℕ) → Has ys p → length ys ≢ 0
    some [] h = absurd h
    some (y ∷ ys) h = λ e. absurd (omega arith)

pub listed-has : (o : Chains) (v : ℕ) → is_listed o v ≡ true → (l : Literal) × (l.var ≡ v) × (p : ℕ) × Has (places_of o l) p
listed-has o v h = go (places_of o (record { var = v; negative = true })) refl
  where
    second : (ys : List ℕ) → places_of o (record { var = v; negative = false }) ≡ ys → length (places_of o (record { var = v; negative = true })) ≡ 0 → (l : Literal) × (l.var ≡ v) × (p : ℕ) × Has (places_of o l) p
    second [] e z = let n : length (places_of o (record { var = v; negative = false })) ≡ 0 = ap length e in absurd (let f : is_listed o v ≡ false = none-listed o v true z n in grind arith)
    second (y ∷ ys) e z = (record { var = v; negative = false }, refl, y, subst (λ (xs : List ℕ). Has xs y) (sym e) (inl refl))

    go : (ys : List ℕ) → places_of o (record { var = v; negative = true }) ≡ ys → (l : Literal) × (l.var ≡ v) × (p : ℕ) × Has (places_of o l) p
    go [] e = second (places_of o (record { var = v; negative = false })) refl (ap length e)
    go (y ∷ ys) e = (record { var = v; negative = true }, refl, y, subst (λ (xs : List ℕ). Has xs y) (sym e) (inl refl))

-- One more literal of a clause.
or-next : (a b c d e : Bool) → d ≡ (b || c) → e ≡ (a || d) → e ≡ ((a || b) || c)
or-next a b c d e p q = grind arith

pub has_variable-more : (v : ℕ) (C : Clause) (k : ℕ) (d : Literal) → k < length C → has_variable v (take (suc k) C) ≡ (has_variable v (take k C) || eqb (get_or C k d).var v)
has_variable-more v [] k d h = absurd (omega arith)
has_variable-more v (l ∷ C) zero d h = grind arith
has_variable-more v (l ∷ C) (suc k) d h = or-next (eqb l.var v) (has_variable v (take k C)) (eqb (get_or C k d).var v) (has_variable v (take (suc k) C)) (has_variable v (take (suc (suc k)) (l ∷ C))) (has_variable-more v C k d (omega arith)) refl

both-here : (h x y : Bool) → (if (h || true) then x && y else x) ≡ ((if h then x && y else x) && y)
both-here true true true = refl
both-here true true false = refl
both-here true false true = refl
both-here true false false = refl
both-here false true true = refl
both-here false true false = refl
both-here false false true = refl
both-here false false false = refl

both-other : (h x y : Bool) → (if (h || false) then x && y else x) ≡ (if h then x && y else x)
both-other true x y = refl
both-other false x y = refl

module _ (g : Groups) (P : Prefix) (C : Clause) (occ : ℕ → Bool) (k : ℕ) (l : Literal) (h : k < length C) (e : l ≡ get_or C k l) where
  next : (v : ℕ) → has_variable v (take (k + 1) C) ≡ (has_variable v (take k C) || eqb l.var v)
  next v = subst (λ (n : ℕ). has_variable v (take n C) ≡ (has_variable v (take k C) || eqb l.var v)) (sym (add-one k)) (has_variable-more v C k l h ∙ ap (λ (j : Literal). has_variable v (take k C) || eqb j.var v) (sym e))

  pub occur-more : AreUses g P (with_occurring l.var true (with_clause (take k C) occ)) → AreUses g P (with_clause (take (k + 1) C) occ)
  occur-more u = uses-same g P (with_occurring l.var true (with_clause (take k C) occ)) (with_clause (take (k + 1) C) occ) (λ v b. same v) u
    where
      same : (v : ℕ) → with_clause (take (k + 1) C) occ v ≡ with_occurring l.var true (with_clause (take k C) occ) v
      same v = let n = next v in grind (arith, nat_tests)

  pub vanish-more : (o : Chains) → AreUses g P (with_occurring l.var (without_clause (take k C) o occ l.var && is_listed o l.var) (without_clause (take k C) o occ)) → AreUses g P (without_clause (take (k + 1) C) o occ)
  vanish-more o u = uses-same g P (with_occurring l.var (without_clause (take k C) o occ l.var && is_listed o l.var) (without_clause (take k C) o occ)) (without_clause (take (k + 1) C) o occ) (λ v b. same v) u
    where
      same : (v : ℕ) → without_clause (take (k + 1) C) o occ v ≡ with_occurring l.var (without_clause (take k C) o occ l.var && is_listed o l.var) (without_clause (take k C) o occ) v
      same v = elim (cases_eq v l.var) [
        | inl q ↦ subst (λ (w : ℕ). without_clause (take (k + 1) C) o occ w ≡ with_occurring l.var (without_clause (take k C) o occ l.var && is_listed o l.var) (without_clause (take k C) o occ) w) (sym q) here
        | inr n ↦ other v n
      ]
        where
          here : without_clause (take (k + 1) C) o occ l.var ≡ with_occurring l.var (without_clause (take k C) o occ l.var && is_listed o l.var) (without_clause (take k C) o occ) l.var
          here =
              let t : eqb l.var l.var ≡ true = grind (arith, nat_tests) in
              let e : has_variable l.var (take (k + 1) C) ≡ (has_variable l.var (take k C) || true) = next l.var ∙ ap (λ (b : Bool). has_variable l.var (take k C) || b) t in
              ap (λ (b : Bool). if b then occ l.var && is_listed o l.var else occ l.var) e ∙ both-here (has_variable l.var (take k C)) (occ l.var) (is_listed o l.var)
              ∙ sym (occurring-here l.var (without_clause (take k C) o occ l.var && is_listed o l.var) (without_clause (take k C) o occ) l.var refl)

          other : (v : ℕ) → v ≢ l.var → without_clause (take (k + 1) C) o occ v ≡ with_occurring l.var (without_clause (take k C) o occ l.var && is_listed o l.var) (without_clause (take k C) o occ) v
          other v n =
              let t : eqb l.var v ≡ false = grind (arith, nat_tests) in
              let e : has_variable v (take (k + 1) C) ≡ (has_variable v (take k C) || false) = next v ∙ ap (λ (b : Bool). has_variable v (take k C) || b) t in
              ap (λ (b : Bool). if b then occ v && is_listed o v else occ v) e ∙ both-other (has_variable v (take k C)) (occ v) (is_listed o v)
              ∙ sym (occurring-other l.var (without_clause (take k C) o occ l.var && is_listed o l.var) (without_clause (take k C) o occ) v n)

pub vanished : (g : Groups) (P : Prefix) (o : Chains) (l : Literal) (v : ℕ) (f : ℕ → Bool) → v ≡ l.var → is_listed o l.var ≡ false → AreUses g P (with_occurring v false f) → AreUses g P (with_occurring l.var (f l.var && is_listed o l.var) f)
vanished g P o l v f e n u =
    let z : false ≡ (f l.var && is_listed o l.var) = grind arith in
    subst (λ (b : Bool). AreUses g P (with_occurring l.var b f)) z (subst (λ (w : ℕ). AreUses g P (with_occurring w false f)) e u)
