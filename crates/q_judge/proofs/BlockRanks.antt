-- Numbers of blocks that tell the order of a prefix.
use Rattle.std.proofs.Common.{◌≡◌, ◌≢◌, ◌⊎◌, ℕ, ◌+◌, ◌<◌, ◌≤◌, Bool, true, false, cond, ◌&&◌, eqb, leb, [], ◌∷◌, ◌++◌, Option, None, Some, refl, sym, ◌∙◌, ap, subst, inl, inr, arith, true≢false}
use Rattle.std.proofs.lemmas.Bool.Decides.{nat_tests}
use Rattle.q_logic.specs.declared.formulas.Quant.{Quant}
use Rattle.q_logic.specs.declared.formulas.Quant.TheVariants.{Exists, Forall}
use Rattle.q_logic.specs.declared.formulas.Bound.{Bound}
use Rattle.q_logic.specs.Prelude.{Prefix, is_bound, same_quant, run_to, outer_or_same, IsNext}
use Rattle.q_logic.proofs.Common.{is_bound-first, is_bound-later, same_quant-through, next-rises}
use Rattle.q_judge.specs.Scopes.{last_or, Follows, AreRanked, in_block, IsNumbered, next_rank}
use Rattle.q_judge.proofs.BoundPieces.{bound-cases}

pub same_quant-sound : (p q : Quant) → same_quant p q ≡ true → p ≡ q
same_quant-sound Exists Exists e = refl
same_quant-sound Exists Forall e = absurd (true≢false (sym e))
same_quant-sound Forall Exists e = absurd (true≢false (sym e))
same_quant-sound Forall Forall e = refl

module _ (rank : ℕ → ℕ) where
  pub ranked-rises : (b : Bound) (P : Prefix) (v : ℕ) → AreRanked rank (Some b) P → is_bound P v ≡ true → rank b.var ≤ rank v
  ranked-rises b [] v h i = absurd (true≢false (sym i))
  ranked-rises b (c ∷ P) v h i =
      let n : rank b.var ≤ rank c.var = next-rises rank b c h.0 in
      elim (bound-cases c P v i) [
        | inl e ↦ let x : rank c.var ≡ rank v = ap rank e in omega arith
        | inr k ↦ let x : rank c.var ≤ rank v = ranked-rises c P v h.1 k.1 in omega arith
      ]

  ranked-run : (b : Bound) (P : Prefix) (a : ℕ) → AreRanked rank (Some b) P → is_bound P a ≡ true → run_to b.quant P a ≡ leb (rank a) (rank b.var)
  ranked-run b [] a h i = absurd (true≢false (sym i))
  ranked-run b (c ∷ P) a h i = elim h.0 [
    | inl e ↦ same e (ap (λ (q : Quant). run_to q P a) (same_quant-sound b.quant c.quant e.0)) (ranked-run c P a h.1) (bound-cases c P a i)
    | inr e ↦ other e (bound-cases c P a i)
  ]
    where
      same : (same_quant b.quant c.quant ≡ true) × (rank b.var ≡ rank c.var) → run_to b.quant P a ≡ run_to c.quant P a → (is_bound P a ≡ true → run_to c.quant P a ≡ leb (rank a) (rank c.var)) → (c.var ≡ a) ⊎ ((c.var ≢ a) × (is_bound P a ≡ true)) → (same_quant b.quant c.quant && cond (eqb c.var a) true (run_to b.quant P a)) ≡ leb (rank a) (rank b.var)
      same e t ih (inl f) = let x : rank c.var ≡ rank a = ap rank f in let y : rank b.var ≡ rank c.var = e.1 in let z : same_quant b.quant c.quant ≡ true = e.0 in grind (arith, nat_tests)
      same e t ih (inr f) = let x : run_to c.quant P a ≡ leb (rank a) (rank c.var) = ih f.1 in let y : rank b.var ≡ rank c.var = e.1 in let z : same_quant b.quant c.quant ≡ true = e.0 in let n = f.0 in grind (arith, nat_tests)

      other : (same_quant b.quant c.quant ≡ false) × (rank b.var < rank c.var) → (c.var ≡ a) ⊎ ((c.var ≢ a) × (is_bound P a ≡ true)) → (same_quant b.quant c.quant && cond (eqb c.var a) true (run_to b.quant P a)) ≡ leb (rank a) (rank b.var)
      other e (inl f) = let x : rank c.var ≡ rank a = ap rank f in let y : rank b.var < rank c.var = e.1 in let z : same_quant b.quant c.quant ≡ false = e.0 in grind (arith, nat_tests)
      other e (inr f) = let x : rank c.var ≤ rank a = ranked-rises c P a h.1 f.1 in let y : rank b.var < rank c.var = e.1 in let z : same_quant b.quant c.quant ≡ false = e.0 in grind (arith, nat_tests)

  pub ranked-outer : (o : Option Bound) (P : Prefix) (a v : ℕ) → AreRanked rank o P → is_bound P a ≡ true → is_bound P v ≡ true → outer_or_same P a v ≡ leb (rank a) (rank v)
  ranked-outer o [] a v h i j = absurd (true≢false (sym i))
  ranked-outer o (b ∷ P) a v h i j = go (bound-cases b P a i) (bound-cases b P v j) (ranked-outer (Some b) P a v h.1)
    where
      go : (b.var ≡ a) ⊎ ((b.var ≢ a) × (is_bound P a ≡ true)) → (b.var ≡ v) ⊎ ((b.var ≢ v) × (is_bound P v ≡ true)) → (is_bound P a ≡ true → is_bound P v ≡ true → outer_or_same P a v ≡ leb (rank a) (rank v)) → outer_or_same (b ∷ P) a v ≡ leb (rank a) (rank v)
      go (inl e) (inl f) ih = let x : rank b.var ≡ rank a = ap rank e in let y : rank b.var ≡ rank v = ap rank f in grind (arith, nat_tests)
      go (inl e) (inr f) ih = let x : rank b.var ≡ rank a = ap rank e in let y : rank b.var ≤ rank v = ranked-rises b P v h.1 f.1 in let w : leb (rank a) (rank v) ≡ true = grind (arith, nat_tests) in grind (arith, nat_tests)
      go (inr e) (inl f) ih = let g : b.var ≢ a = e.0 in let x : rank b.var ≡ rank v = ap rank f in let y : run_to b.quant P a ≡ leb (rank a) (rank b.var) = ranked-run b P a h.1 e.1 in grind (arith, nat_tests)
      go (inr e) (inr f) ih = let g : b.var ≢ a = e.0 in let k : b.var ≢ v = f.0 in let y : outer_or_same P a v ≡ leb (rank a) (rank v) = ih e.1 f.1 in grind (arith, nat_tests)

  pub ranked-left : (o : Option Bound) (A C : Prefix) → AreRanked rank o (A ++ C) → AreRanked rank o A
  ranked-left o [] C h = tt
  ranked-left o (b ∷ A) C h = (h.0, ranked-left (Some b) A C h.1)

  pub ranked-right : (o : Option Bound) (A C : Prefix) → AreRanked rank o (A ++ C) → AreRanked rank (last_or A o) C
  ranked-right o [] C h = h
  ranked-right o (b ∷ A) C h = ranked-right (Some b) A C h.1

  pub ranked-join : (o : Option Bound) (A C : Prefix) → AreRanked rank o A → AreRanked rank (last_or A o) C → AreRanked rank o (A ++ C)
  ranked-join o [] C h k = k
  ranked-join o (b ∷ A) C h k = (h.0, ranked-join (Some b) A C h.1 k)

  -- no variable has a greater number than the last one
  pub ranked-last : (o : Option Bound) (A : Prefix) (x : Bound) (v : ℕ) → AreRanked rank o A → last_or A o ≡ Some x → is_bound A v ≡ true → rank v ≤ rank x.var
  ranked-last o [] x v h e i = absurd (true≢false (sym i))
  ranked-last o (b ∷ []) x v h e i = elim (bound-cases b [] v i) [
    | inl f ↦ let g : b ≡ x = same b x e in let y : rank v ≡ rank x.var = ap rank (sym f ∙ ap (λ (c : Bound). c.var) g) in omega arith
    | inr k ↦ absurd (true≢false (sym k.1))
  ]
    where
      same : (b c : Bound) → Some b ≡ Some c → b ≡ c
      same b c e = cc
  ranked-last o (b ∷ c ∷ A) x v h e i = elim (bound-cases b (c ∷ A) v i) [
    | inl f ↦
        let n : rank b.var ≤ rank c.var = next-rises rank b c h.1.0 in
        let k : rank c.var ≤ rank x.var = ranked-last (Some b) (c ∷ A) x c.var h.1 e (is_bound-first c A) in
        let y : rank b.var ≡ rank v = ap rank f in omega arith
    | inr k ↦ ranked-last (Some b) (c ∷ A) x v h.1 e k.1
  ]

  -- what stands first may be another variable of the same block
  pub ranked-like : (b c : Bound) (P : Prefix) → b.quant ≡ c.quant → rank b.var ≡ rank c.var → AreRanked rank (Some b) P → AreRanked rank (Some c) P
  ranked-like b c [] e f h = tt
  ranked-like b c (d ∷ P) e f h = (
    elim h.0 [
      | inl k ↦ inl (ap (λ (q : Quant). same_quant q d.quant) (sym e) ∙ k.0, sym f ∙ k.1)
      | inr k ↦ inr (ap (λ (q : Quant). same_quant q d.quant) (sym e) ∙ k.0, subst (λ (n : ℕ). n < rank d.var) f k.1)
    ],
    h.1,
  )

  -- a variable goes of whose block another one stays
  pub next-through : (b c d : Bound) → IsNext rank b c → IsNext rank c d → (rank b.var ≡ rank c.var) ⊎ (rank c.var ≡ rank d.var) → IsNext rank b d
  next-through b c d m n h = elim m [
    | inl e ↦ let x : rank b.var ≡ rank c.var = e.1 in let q = same_quant-through b.quant c.quant d.quant e.0 in elim n [
      | inl f ↦ inl (q ∙ f.0, e.1 ∙ f.1)
      | inr f ↦ let y : rank c.var < rank d.var = f.1 in inr (q ∙ f.0, omega arith)
    ]
    | inr e ↦ let x : rank b.var < rank c.var = e.1 in elim n [
      | inl f ↦ let y : rank c.var ≡ rank d.var = f.1 in inr (ap (same_quant b.quant) (sym (same_quant-sound c.quant d.quant f.0)) ∙ e.0, omega arith)
      | inr f ↦ let y : rank c.var < rank d.var = f.1 in elim h [ inl g ↦ absurd (omega arith) | inr g ↦ absurd (omega arith) ]
    ]
  ]

  pub ranked-gone : (A : Prefix) (b : Bound) (C : Prefix) → AreRanked rank None (A ++ b ∷ C) → (x : ℕ) → is_bound (A ++ C) x ≡ true → rank x ≡ rank b.var → AreRanked rank None (A ++ C)
  ranked-gone A b [] h x i e = ranked-join None A [] (ranked-left None A (b ∷ []) h) tt
  ranked-gone A b (c ∷ C) h x i e = ranked-join None A (c ∷ C) (ranked-left None A (b ∷ c ∷ C) h) (joint (last_or A None) refl, r.1.1)
    where
      r : AreRanked rank (last_or A None) (b ∷ c ∷ C)
      r = ranked-right None A (b ∷ c ∷ C) h

      low : (a : Bound) → last_or A None ≡ Some a → is_bound A x ≡ true → rank x ≤ rank a.var
      low a q j = ranked-last None A a x (ranked-left None A (b ∷ c ∷ C) h) q j

      high : is_bound (c ∷ C) x ≡ true → rank c.var ≤ rank x
      high j = elim (bound-cases c C x j) [
        | inl q ↦ let y : rank c.var ≡ rank x = ap rank q in omega arith
        | inr k ↦ ranked-rises c C x r.1.1 k.1
      ]

      either : (P Q : Prefix) → is_bound (P ++ Q) x ≡ true → (is_bound P x ≡ true) ⊎ (is_bound Q x ≡ true)
      either [] Q j = inr j
      either (d ∷ P) Q j = elim (bound-cases d (P ++ Q) x j) [
        | inl q ↦ inl (subst (λ (w : ℕ). is_bound (d ∷ P) w ≡ true) q (is_bound-first d P))
        | inr k ↦ elim (either P Q k.1) [ inl m ↦ inl (is_bound-later d P x m) | inr m ↦ inr m ]
      ]

      joint : (o : Option Bound) → last_or A None ≡ o → Follows rank o c
      joint None q = tt
      joint (Some a) q =
          let m : IsNext rank a b = subst (λ (p : Option Bound). Follows rank p b) q r.0 in
          let up : rank a.var ≤ rank b.var = next-rises rank a b m in
          let down : rank b.var ≤ rank c.var = next-rises rank b c r.1.0 in
          next-through a b c m r.1.0 (elim (either A (c ∷ C) i) [
            | inl j ↦ let y : rank x ≤ rank a.var = low a q j in let z : rank x ≡ rank b.var = e in inl (omega arith)
            | inr j ↦ let y : rank c.var ≤ rank x = high j in let z : rank x ≡ rank b.var = e in inr (omega arith)
          ])

  -- the first or the last variable goes
  pub ranked-without_ends : (A : Prefix) (b : Bound) (C : Prefix) → AreRanked rank None (A ++ b ∷ C) → (last_or A None ≡ None) ⊎ (C ≡ []) → AreRanked rank None (A ++ C)
  ranked-without_ends A b [] h e = ranked-join None A [] (ranked-left None A (b ∷ []) h) tt
  ranked-without_ends A b (c ∷ C) h (inr e) = absurd (cons_nil e)
    where
      cons_nil : c ∷ C ≡ [] → ⊥
      cons_nil e = cc
  ranked-without_ends A b (c ∷ C) h (inl e) =
      let r = ranked-right None A (b ∷ c ∷ C) h in
      ranked-join None A (c ∷ C) (ranked-left None A (b ∷ c ∷ C) h) (subst (λ (p : Option Bound). Follows rank p c) (sym e) tt, r.1.1)

pub ranked-same : (f g : ℕ → ℕ) (o : Option Bound) (P : Prefix) → ((v : ℕ) → is_bound P v ≡ true → f v ≡ g v) → ((b : Bound) → o ≡ Some b → f b.var ≡ g b.var) → AreRanked f o P → AreRanked g o P
ranked-same f g o [] e k h = tt
ranked-same f g o (c ∷ P) e k h = (first o k h.0, ranked-same f g (Some c) P (λ v i. e v (is_bound-later c P v i)) (λ b q. let r : c ≡ b = same c b q in subst (λ (d : Bound). f d.var ≡ g d.var) r (e c.var (is_bound-first c P))) h.1)
  where
    same : (b c : Bound) → Some b ≡ Some c → b ≡ c
    same b c e = cc

    first : (o : Option Bound) → ((b : Bound) → o ≡ Some b → f b.var ≡ g b.var) → Follows f o c → Follows g o c
    first None k h = tt
    first (Some b) k h =
        let x = k b refl in
        let y = e c.var (is_bound-first c P) in
        elim h [
          | inl m ↦ inl (m.0, sym x ∙ m.1 ∙ y)
          | inr m ↦ let z : f b.var < f c.var = m.1 in inr (m.0, omega arith)
        ]

-- blocks that are numbered without a gap are ranked
pub numbered-ranked : (rank : ℕ → ℕ) (b : Bound) (P : Prefix) (n : ℕ) → rank b.var ≡ n → IsNumbered rank (Some b) n P → AreRanked rank (Some b) P
numbered-ranked rank b [] n e h = tt
numbered-ranked rank b (c ∷ P) n e h = go (same_quant b.quant c.quant) refl h.0 (numbered-ranked rank c P (next_rank (Some b) n c.quant) h.0 h.1)
  where
    go : (s : Bool) → same_quant b.quant c.quant ≡ s → rank c.var ≡ cond s n (n + 1) → AreRanked rank (Some c) P → AreRanked rank (Some b) (c ∷ P)
    go true q f ih = (inl (q, e ∙ sym f), ih)
    go false q f ih = (inr (q, omega arith), ih)

pub in_block-same : (f g : ℕ → ℕ) (r : ℕ) (P : Prefix) → ((v : ℕ) → is_bound P v ≡ true → f v ≡ g v) → in_block f r P ≡ in_block g r P
in_block-same f g r [] e = refl
in_block-same f g r (b ∷ P) e = let x : f b.var ≡ g b.var = e b.var (is_bound-first b P) in let y : in_block f r P ≡ in_block g r P = in_block-same f g r P (λ v i. e v (is_bound-later b P v i)) in grind (arith, nat_tests)

pub in_block-append : (f : ℕ → ℕ) (r : ℕ) (A C : Prefix) → in_block f r (A ++ C) ≡ in_block f r A + in_block f r C
in_block-append f r [] C = omega arith
in_block-append f r (b ∷ A) C = let x : in_block f r (A ++ C) ≡ in_block f r A + in_block f r C = in_block-append f r A C in grind (arith, nat_tests)

pub in_block-one : (f : ℕ → ℕ) (r : ℕ) (b : Bound) (P : Prefix) → in_block f r (b ∷ P) ≡ in_block f r P + cond (eqb (f b.var) r) 1 0
in_block-one f r b P = go (eqb (f b.var) r)
  where
    go : (s : Bool) → cond s (in_block f r P + 1) (in_block f r P) ≡ in_block f r P + cond s 1 0
    go true = refl
    go false = omega arith

pub in_block-some : (f : ℕ → ℕ) (r : ℕ) (P : Prefix) → 0 < in_block f r P → (x : ℕ) × (is_bound P x ≡ true) × (f x ≡ r)
in_block-some f r [] h = absurd (omega arith)
in_block-some f r (b ∷ P) h = go (eqb (f b.var) r) refl h (in_block-some f r P)
  where
    go : (c : Bool) → eqb (f b.var) r ≡ c → 0 < cond c (in_block f r P + 1) (in_block f r P) → (0 < in_block f r P → (x : ℕ) × (is_bound P x ≡ true) × (f x ≡ r)) → (x : ℕ) × (is_bound (b ∷ P) x ≡ true) × (f x ≡ r)
    go true e h ih = (b.var, is_bound-first b P, grind (arith, nat_tests))
    go false e h ih = let r = ih h in (r.0, is_bound-later b P r.0 r.1, r.2)

pub some-in_block : (f : ℕ → ℕ) (P : Prefix) (v : ℕ) → is_bound P v ≡ true → 0 < in_block f (f v) P
some-in_block f [] v h = absurd (true≢false (sym h))
some-in_block f (b ∷ P) v h = elim (bound-cases b P v h) [
  | inl e ↦ let x : f b.var ≡ f v = ap f e in let y = in_block-one f (f v) b P in let z : eqb (f b.var) (f v) ≡ true = grind (arith, nat_tests) in let w : in_block f (f v) (b ∷ P) ≡ in_block f (f v) P + 1 = y ∙ ap (λ (s : Bool). in_block f (f v) P + cond s 1 0) z in omega arith
  | inr k ↦ let x : 0 < in_block f (f v) P = some-in_block f P v k.1 in let y = in_block-one f (f v) b P in grind (arith, nat_tests)
]
