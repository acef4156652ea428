-- Places of variables, with one more.
use Rattle.std.proofs.Common.{◌≡◌, ℕ, suc, Bool, true, false, cond, eqb, List, [], ◌∷◌, ◌++◌, length, refl, ap, sym, ◌∙◌, arith, Option, Some, None}
use Rattle.std.proofs.lemmas.Bool.{both_ways}
use Rattle.q_aiger.specs.Items.{place_of, raised}

pub place-more : (vars : List ℕ) (w v : ℕ) → place_of vars w ≡ None → place_of (vars ++ w ∷ []) v ≡ cond (eqb w v) (Some (length vars)) (place_of vars v)
place-more [] w v e = refl
place-more (x ∷ xs) w v e = go (eqb x w) refl (place_of xs w) refl (place-more xs w v)
  where
    order : (a b : Bool) (n : ℕ) (o : Option ℕ) → (a ≡ true → b ≡ true → ⊥) → cond a (Some 0) (raised (cond b (Some n) o)) ≡ cond b (Some (suc n)) (cond a (Some 0) (raised o))
    order true true n o h = absurd (h refl refl)
    order true false n o h = refl
    order false true n o h = refl
    order false false n o h = refl

    apart : eqb x w ≡ false → eqb x v ≡ true → eqb w v ≡ true → ⊥
    apart a b c = both_ways (eqb x w) a (grind arith)

    go : (b : Bool) → eqb x w ≡ b → (p : Option ℕ) → place_of xs w ≡ p → (place_of xs w ≡ None → place_of (xs ++ w ∷ []) v ≡ cond (eqb w v) (Some (length xs)) (place_of xs v)) → cond (eqb x v) (Some 0) (raised (place_of (xs ++ w ∷ []) v)) ≡ cond (eqb w v) (Some (length (x ∷ xs))) (cond (eqb x v) (Some 0) (raised (place_of xs v)))
    go true q p r h = absurd (let f : Some 0 ≡ None = ap (λ b. cond b (Some 0) (raised (place_of xs w))) (sym q) ∙ e in cc)
    go false q (Some k) r h = absurd (let f : Some (suc k) ≡ None = ap raised (sym r) ∙ (ap (λ b. cond b (Some 0) (raised (place_of xs w))) (sym q) ∙ e) in cc)
    go false q None r h = ap (λ o. cond (eqb x v) (Some 0) (raised o)) (h r) ∙ order (eqb x v) (eqb w v) (length xs) (place_of xs v) (apart q)
