-- A clause over copies is as long as the clause.
use Rattle.std.proofs.Common.{◌≡◌, ◌⊎◌, ◌≤◌, ◌<◌, ◌+◌, ℕ, Bool, true, false, cond, eqb, ◌==◌, ◌||◌, nat_lt, List, [], ◌∷◌, length, refl, sym, ◌∙◌, ap, subst, inl, inr, arith, true≢false}
use Rattle.std.proofs.lemmas.Bool.Decides.{nat_tests}
use Rattle.q_logic.proofs.ExpandPrefix.{copy_of-out}
use Rattle.q_logic.specs.Prelude.{Literal, IsBelow, pack, Clause, IsIn, insert, ArePairs, in_list, copy_of, copied_literal, copied}
use Rattle.q_logic.proofs.Common.{copied-IsIn, pack-same, before-self}
use Rattle.q_expand.proofs.HolderIds.{below-member}

-- copies are t or more, and below t is what has none
copy-above : (V : List ℕ) (t x : ℕ) → in_list x V ≡ true → t ≤ copy_of V t x
copy-above [] t x h = absurd (true≢false (sym h))
copy-above (y ∷ V) t x h = go (eqb y x) refl h (copy-above V (t + 1) x)
  where
    go : (b : Bool) → eqb y x ≡ b → (b || in_list x V) ≡ true → (in_list x V ≡ true → t + 1 ≤ copy_of V (t + 1) x) → t ≤ cond b t (copy_of V (t + 1) x)
    go true e h i = omega arith
    go false e h i = let z = i h in omega arith

-- a copy is above a number, or the variable itself
copy-cases : (V : List ℕ) (t x : ℕ) → (t ≤ copy_of V t x) ⊎ (copy_of V t x ≡ x)
copy-cases V t x = go (in_list x V) refl
  where
    go : (b : Bool) → in_list x V ≡ b → (t ≤ copy_of V t x) ⊎ (copy_of V t x ≡ x)
    go true e = inl (copy-above V t x e)
    go false e = inr (copy_of-out V t x e)

pub copy-apart : (V : List ℕ) (t s x y : ℕ) → s ≤ t → x < s → y < s → copy_of V t x ≡ copy_of V t y → x ≡ y
copy-apart [] t s x y l a b e = e
copy-apart (z ∷ V) t s x y l a b e = go (eqb z x) refl (eqb z y) refl e (copy-apart V (t + 1) s x y (omega arith) a b)
  where
    go : (c : Bool) → eqb z x ≡ c → (d : Bool) → eqb z y ≡ d → cond c t (copy_of V (t + 1) x) ≡ cond d t (copy_of V (t + 1) y) → (copy_of V (t + 1) x ≡ copy_of V (t + 1) y → x ≡ y) → x ≡ y
    go true p true q e i = let f : z ≡ x = grind (arith, nat_tests) in let g : z ≡ y = grind (arith, nat_tests) in sym f ∙ g
    go true p false q e i = absurd (elim (copy-cases V (t + 1) y) [ inl k ↦ omega arith | inr k ↦ omega arith ])
    go false p true q e i = absurd (elim (copy-cases V (t + 1) x) [ inl k ↦ omega arith | inr k ↦ omega arith ])
    go false p false q e i = i e

pub insert-new : (l : Literal) (C : Clause) → (IsIn l C → ⊥) → length (insert l C) ≡ length C + 1
insert-new l [] n = omega arith
insert-new l (k ∷ C) n = go (nat_lt (pack l) (pack k)) (pack l == pack k) refl (insert-new l C (λ m. n (inr m)))
  where
    go : (a b : Bool) → (pack l == pack k) ≡ b → length (insert l C) ≡ length C + 1 → length (cond a (l ∷ k ∷ C) (cond b (k ∷ C) (k ∷ insert l C))) ≡ length (k ∷ C) + 1
    go true b e i = omega arith
    go false true e i = absurd (n (inl (pack-same l k (grind (arith, nat_tests)))))
    go false false e i = omega arith

pub copied-long : (V : List ℕ) (t : ℕ) (C : Clause) → ArePairs IsBelow C → ((k : Literal) → IsIn k C → k.var < t) → length (copied V t C) ≡ length C
copied-long V t [] o h = refl
copied-long V t (k ∷ C) o h =
    let i = copied-long V t C o.1 (λ j m. h j (inr m)) in
    let e = insert-new (copied_literal V t k) (copied V t C) fresh in
    omega arith
  where
    fresh : IsIn (copied_literal V t k) (copied V t C) → ⊥
    fresh m =
        let r = copied-IsIn V t C (copied_literal V t k) m in
        let v : k.var ≡ r.0.var = copy-apart V t t k.var r.0.var (omega arith) (h k (inl refl)) (h r.0 (inr r.1)) (ap (λ (x : Literal). x.var) r.2) in
        let s : k.negative ≡ r.0.negative = ap (λ (x : Literal). x.negative) r.2 in
        let q : k ≡ r.0 = λ i. record { var = v i; negative = s i } in
        before-self k (below-member (IsBelow k) C k o.0 (subst (λ (x : Literal). IsIn x C) (sym q) r.1))
