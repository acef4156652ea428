-- Equal blocks are equal numbers and quantifiers of all variables.
use Rattle.std.proofs.Common.{◌≡◌, ◌⊎◌, ℕ, suc, ◌+◌, ◌≤◌, Bool, true, false, cond, eqb, List, [], ◌∷◌, Some, refl, sym, ◌∙◌, ap, subst, inl, inr, arith, true≢false}
use Rattle.std.proofs.lemmas.Bool.Decides.{nat_tests}
use Rattle.q_logic.specs.declared.formulas.Quant.{Quant}
use Rattle.q_logic.specs.declared.formulas.Quant.TheVariants.{Exists, Forall}
use Rattle.q_logic.specs.declared.formulas.Bound.{Bound}
use Rattle.q_logic.specs.Prelude.{Prefix, IsIn, is_bound, is_exists, same_quant, Block, blocks, push_block, SameBlocks}
use Rattle.q_judge.specs.Scopes.{IsNumbered}
use Rattle.q_judge.proofs.BlockRanks.{same_quant-sound}

-- the blocks are numbered from n on, and their variables have these quantifiers
abbrev pub AreBlocksNumbered : (ℕ → ℕ) → (ℕ → Bool) → ℕ → List Block → Type 0
AreBlocksNumbered rank kind n [] = Unit {0}
AreBlocksNumbered rank kind n (B ∷ Bs) = ((x : ℕ) × IsIn x B.vars) × ((x : ℕ) → IsIn x B.vars → (rank x ≡ n) × (kind x ≡ is_exists B.quant)) × AreBlocksNumbered rank kind (suc n) Bs

abbrev pub Among : ℕ → List Block → Type 0
Among x [] = ⊥
Among x (B ∷ Bs) = IsIn x B.vars ⊎ Among x Bs

module _ (rank : ℕ → ℕ) (kind : ℕ → Bool) where
  pub numbered-above : (n : ℕ) (Bs : List Block) (x : ℕ) → AreBlocksNumbered rank kind n Bs → Among x Bs → n ≤ rank x
  numbered-above n [] x h m = absurd m
  numbered-above n (B ∷ Bs) x h (inl m) = let e : rank x ≡ n = (h.1 x m).0 in omega arith
  numbered-above n (B ∷ Bs) x h (inr m) = let i : suc n ≤ rank x = numbered-above (suc n) Bs x h.2 m in omega arith

  push-same : (b : Bound) (B : Block) (Cs : List Block) (n : ℕ) → rank b.var ≡ n → kind b.var ≡ is_exists b.quant → same_quant b.quant B.quant ≡ true → AreBlocksNumbered rank kind n (B ∷ Cs) → AreBlocksNumbered rank kind n (push_block b (B ∷ Cs))
  push-same b B Cs n e k t a = rw t ((b.var, inl refl), (λ x m. elim m [ inl z ↦ (ap rank z ∙ e, ap kind z ∙ k ∙ ap is_exists (same_quant-sound b.quant B.quant t)) | inr z ↦ a.1 x z ]), a.2)

  push-other : (b : Bound) (B : Block) (Cs : List Block) (n : ℕ) → rank b.var ≡ n → kind b.var ≡ is_exists b.quant → same_quant b.quant B.quant ≡ false → AreBlocksNumbered rank kind (suc n) (B ∷ Cs) → AreBlocksNumbered rank kind n (push_block b (B ∷ Cs))
  push-other b B Cs n e k t a = rw t ((b.var, inl refl), (λ x m. elim m [ inl z ↦ (ap rank z ∙ e, ap kind z ∙ k) | inr z ↦ absurd z ]), a)

  head-quant : (c : Bound) (Bs : List Block) → (B : Block) × (Cs : List Block) × (push_block c Bs ≡ B ∷ Cs) × (B.quant ≡ c.quant)
  head-quant c [] = (record { quant = c.quant; vars = c.var ∷ [] }, [], refl, refl)
  head-quant c (B ∷ Bs) = go (same_quant c.quant B.quant) refl
    where
      go : (s : Bool) → same_quant c.quant B.quant ≡ s → (D : Block) × (Cs : List Block) × (cond s (record { quant = B.quant; vars = c.var ∷ B.vars } ∷ Bs) (record { quant = c.quant; vars = c.var ∷ [] } ∷ B ∷ Bs) ≡ D ∷ Cs) × (D.quant ≡ c.quant)
      go true t = (record { quant = B.quant; vars = c.var ∷ B.vars }, Bs, refl, sym (same_quant-sound c.quant B.quant t))
      go false t = (record { quant = c.quant; vars = c.var ∷ [] }, B ∷ Bs, refl, refl)

  pub blocks-numbered : (b : Bound) (P : Prefix) → ((c : Bound) → IsIn c (b ∷ P) → kind c.var ≡ is_exists c.quant) → (n : ℕ) → rank b.var ≡ n → IsNumbered rank (Some b) n P → AreBlocksNumbered rank kind n (blocks (b ∷ P))
  blocks-numbered b [] k n e h = ((b.var, inl refl), (λ x m. elim m [ inl z ↦ (ap rank z ∙ e, ap kind z ∙ k b (inl refl)) | inr z ↦ absurd z ]), tt)
  blocks-numbered b (c ∷ P) k n e h = go (same_quant b.quant c.quant) refl h (λ m f g. blocks-numbered c P (λ d i. k d (inr i)) m f g) (head-quant c (blocks P))
    where
      go : (s : Bool) → same_quant b.quant c.quant ≡ s → (rank c.var ≡ cond s n (n + 1)) × IsNumbered rank (Some c) (cond s n (n + 1)) P → ((m : ℕ) → rank c.var ≡ m → IsNumbered rank (Some c) m P → AreBlocksNumbered rank kind m (blocks (c ∷ P))) → ((B : Block) × (Cs : List Block) × (blocks (c ∷ P) ≡ B ∷ Cs) × (B.quant ≡ c.quant)) → AreBlocksNumbered rank kind n (push_block b (blocks (c ∷ P)))
      go true q g ih (B, Cs, f, r) = subst (λ (Ds : List Block). AreBlocksNumbered rank kind n (push_block b Ds)) (sym f) (push-same b B Cs n e (k b (inl refl)) (ap (same_quant b.quant) r ∙ q) (subst (λ (Ds : List Block). AreBlocksNumbered rank kind n Ds) f (ih n g.0 g.1)))
      go false q g ih (B, Cs, f, r) = subst (λ (Ds : List Block). AreBlocksNumbered rank kind n (push_block b Ds)) (sym f) (push-other b B Cs n e (k b (inl refl)) (ap (same_quant b.quant) r ∙ q) (subst (λ (Ds : List Block). AreBlocksNumbered rank kind (suc n) Ds) f (ih (suc n) (g.0 ∙ one n) (subst (λ (m : ℕ). IsNumbered rank (Some c) m P) (one n) g.1))))
        where
          one : (n : ℕ) → n + 1 ≡ suc n
          one n = omega arith

pub Among-push : (b : Bound) (Bs : List Block) (x : ℕ) → Among x (push_block b Bs) → (b.var ≡ x) ⊎ Among x Bs
Among-push b [] x (inl (inl e)) = inl (sym e)
Among-push b [] x (inl (inr e)) = absurd e
Among-push b [] x (inr e) = absurd e
Among-push b (B ∷ Bs) x m = go (same_quant b.quant B.quant) m
  where
    go : (s : Bool) → Among x (cond s (record { quant = B.quant; vars = b.var ∷ B.vars } ∷ Bs) (record { quant = b.quant; vars = b.var ∷ [] } ∷ B ∷ Bs)) → (b.var ≡ x) ⊎ Among x (B ∷ Bs)
    go true (inl (inl e)) = inl (sym e)
    go true (inl (inr e)) = inr (inl e)
    go true (inr e) = inr (inr e)
    go false (inl (inl e)) = inl (sym e)
    go false (inl (inr e)) = absurd e
    go false (inr e) = inr e

push-Among : (b : Bound) (Bs : List Block) (x : ℕ) → (b.var ≡ x) ⊎ Among x Bs → Among x (push_block b Bs)
push-Among b [] x (inl e) = inl (inl (sym e))
push-Among b [] x (inr m) = absurd m
push-Among b (B ∷ Bs) x m = go (same_quant b.quant B.quant) m
  where
    go : (s : Bool) → (b.var ≡ x) ⊎ Among x (B ∷ Bs) → Among x (cond s (record { quant = B.quant; vars = b.var ∷ B.vars } ∷ Bs) (record { quant = b.quant; vars = b.var ∷ [] } ∷ B ∷ Bs))
    go true (inl e) = inl (inl (sym e))
    go true (inr (inl e)) = inl (inr e)
    go true (inr (inr e)) = inr e
    go false (inl e) = inl (inl (sym e))
    go false (inr e) = inr e

pub bound-Among : (P : Prefix) (x : ℕ) → is_bound P x ≡ true → Among x (blocks P)
bound-Among [] x h = absurd (true≢false (sym h))
bound-Among (b ∷ P) x h = push-Among b (blocks P) x (go (eqb b.var x) refl h (bound-Among P x))
  where
    go : (s : Bool) → eqb b.var x ≡ s → cond s true (is_bound P x) ≡ true → (is_bound P x ≡ true → Among x (blocks P)) → (b.var ≡ x) ⊎ Among x (blocks P)
    go true e h ih = inl (grind (arith, nat_tests))
    go false e h ih = inr (ih h)

pub Among-bound : (P : Prefix) (x : ℕ) → Among x (blocks P) → is_bound P x ≡ true
Among-bound [] x m = absurd m
Among-bound (b ∷ P) x m = elim (Among-push b (blocks P) x m) [
  | inl e ↦ grind (arith, nat_tests)
  | inr k ↦ let i : is_bound P x ≡ true = Among-bound P x k in grind (arith, nat_tests)
]

exists-same : (p q : Quant) → is_exists p ≡ is_exists q → p ≡ q
exists-same Exists Exists e = refl
exists-same Exists Forall e = absurd (true≢false e)
exists-same Forall Exists e = absurd (true≢false (sym e))
exists-same Forall Forall e = refl

module _ (rank rank' : ℕ → ℕ) (kind kind' : ℕ → Bool) where
  pub same-blocks : (n : ℕ) (Bs Cs : List Block) → AreBlocksNumbered rank kind n Bs → AreBlocksNumbered rank' kind' n Cs → ((x : ℕ) → Among x Bs → Among x Cs × (rank x ≡ rank' x) × (kind x ≡ kind' x)) → ((x : ℕ) → Among x Cs → Among x Bs) → SameBlocks Bs Cs
  same-blocks n [] [] a b f g = tt
  same-blocks n [] (C ∷ Cs) a b f g = g b.0.0 (inl b.0.1)
  same-blocks n (B ∷ Bs) [] a b f g = (f a.0.0 (inl a.0.1)).0
  same-blocks n (B ∷ Bs) (C ∷ Cs) a b f g = (
    exists-same B.quant C.quant (sym (a.1 a.0.0 a.0.1).1 ∙ (f a.0.0 (inl a.0.1)).2 ∙ (b.1 a.0.0 (on a.0.0 a.0.1)).1),
    (λ x. (on x, back x)),
    same-blocks (suc n) Bs Cs a.2 b.2 (λ x m. (later x m, (f x (inr m)).1, (f x (inr m)).2)) (λ x m. before x m),
  )
    where
      on : (x : ℕ) → IsIn x B.vars → IsIn x C.vars
      on x m = elim (f x (inl m)).0 [
        | inl z ↦ z
        | inr z ↦ let r : rank x ≡ n = (a.1 x m).0 in let q : rank x ≡ rank' x = (f x (inl m)).1 in let l : suc n ≤ rank' x = numbered-above rank' kind' (suc n) Cs x b.2 z in absurd (omega arith)
      ]

      back : (x : ℕ) → IsIn x C.vars → IsIn x B.vars
      back x m = elim (g x (inl m)) [
        | inl z ↦ z
        | inr z ↦ let r : rank' x ≡ n = (b.1 x m).0 in let q : rank x ≡ rank' x = (f x (inr z)).1 in let l : suc n ≤ rank x = numbered-above rank kind (suc n) Bs x a.2 z in absurd (omega arith)
      ]

      later : (x : ℕ) → Among x Bs → Among x Cs
      later x m = elim (f x (inr m)).0 [
        | inl z ↦ let r : rank' x ≡ n = (b.1 x z).0 in let q : rank x ≡ rank' x = (f x (inr m)).1 in let l : suc n ≤ rank x = numbered-above rank kind (suc n) Bs x a.2 m in absurd (omega arith)
        | inr z ↦ z
      ]

      before : (x : ℕ) → Among x Cs → Among x Bs
      before x m = elim (g x (inr m)) [
        | inl z ↦ let r : rank x ≡ n = (a.1 x z).0 in let q : rank x ≡ rank' x = (f x (inl z)).1 in let l : suc n ≤ rank' x = numbered-above rank' kind' (suc n) Cs x b.2 m in absurd (omega arith)
        | inr z ↦ z
      ]

  pub blocks-same : (n : ℕ) (Bs Cs : List Block) → AreBlocksNumbered rank kind n Bs → AreBlocksNumbered rank' kind' n Cs → SameBlocks Bs Cs → (x : ℕ) → Among x Bs → Among x Cs × (rank x ≡ rank' x) × (kind x ≡ kind' x)
  blocks-same n [] [] a b s x m = absurd m
  blocks-same n [] (C ∷ Cs) a b s x m = absurd s
  blocks-same n (B ∷ Bs) [] a b s x m = absurd s
  blocks-same n (B ∷ Bs) (C ∷ Cs) a b s x (inl m) = let k = (s.1 x).0 m in (inl k, (a.1 x m).0 ∙ sym (b.1 x k).0, (a.1 x m).1 ∙ ap is_exists s.0 ∙ sym (b.1 x k).1)
  blocks-same n (B ∷ Bs) (C ∷ Cs) a b s x (inr m) = let r = blocks-same (suc n) Bs Cs a.2 b.2 s.2 x m in (inr r.0, r.1, r.2)

pub blocks-same_back : (Bs Cs : List Block) → SameBlocks Bs Cs → (x : ℕ) → Among x Cs → Among x Bs
blocks-same_back [] [] s x m = absurd m
blocks-same_back [] (C ∷ Cs) s x m = absurd s
blocks-same_back (B ∷ Bs) [] s x m = absurd s
blocks-same_back (B ∷ Bs) (C ∷ Cs) s x (inl m) = inl ((s.1 x).1 m)
blocks-same_back (B ∷ Bs) (C ∷ Cs) s x (inr m) = inr (blocks-same_back Bs Cs s.2 x m)
