-- The variables of one block as a run of neighbours, from its first or from its last variable on.
use Rattle.std.proofs.Common.{◌≡◌, ◌≢◌, ◌⊎◌, ℕ, suc, ◌+◌, ◌≤◌, Bool, true, false, cond, eqb, List, [], ◌∷◌, Option, None, Some, length, refl, sym, ◌∙◌, ap, subst, inl, inr, arith, true≢false}
use Rattle.std.proofs.lemmas.Bool.Decides.{nat_tests}
use Rattle.std.proofs.lemmas.Bool.{cases_eq, ne_eqb}
use Rattle.q_logic.specs.declared.formulas.Bound.{Bound}
use Rattle.q_logic.specs.Prelude.{Prefix, is_bound, Distinct}
use Rattle.q_logic.proofs.Common.{is_bound-first, is_bound-later, next-rises}
use Rattle.q_judge.specs.declared.bindings.Binding.{Binding}
use Rattle.q_judge.specs.Scopes.{last_or, var_of, AreLinked, AreRanked, in_block, is_among, beside, IsRun}
use Rattle.q_judge.proofs.BoundPieces.{bound-cases}
use Rattle.q_judge.proofs.BlockRanks.{ranked-rises}

module _ (rank : ℕ → ℕ) (from : ℕ) where
  -- the variables of a block, in order
  abbrev pub block_vars : Prefix → List ℕ
  block_vars [] = []
  block_vars (b ∷ P) = cond (eqb (rank b.var) from) (b.var ∷ block_vars P) (block_vars P)

  -- the same in the other direction, before others
  abbrev pub block_back : List ℕ → Prefix → List ℕ
  block_back acc [] = acc
  block_back acc (b ∷ P) = block_back (cond (eqb (rank b.var) from) (b.var ∷ acc) acc) P

  pub block-none : (P : Prefix) → ((v : ℕ) → is_bound P v ≡ true → rank v ≢ from) → block_vars P ≡ []
  block-none [] h = refl
  block-none (b ∷ P) h = let n : eqb (rank b.var) from ≡ false = ne_eqb (rank b.var) from (h b.var (is_bound-first b P)) in rw n (block-none P (λ v i. h v (is_bound-later b P v i)))

  pub block-size : (P : Prefix) → length (block_vars P) ≡ in_block rank from P
  block-size [] = refl
  block-size (b ∷ P) = go (eqb (rank b.var) from) (block-size P)
    where
      go : (s : Bool) → length (block_vars P) ≡ in_block rank from P → length (cond s (b.var ∷ block_vars P) (block_vars P)) ≡ cond s (in_block rank from P + 1) (in_block rank from P)
      go true ih = omega arith
      go false ih = ih

  pub among-block : (P : Prefix) (v : ℕ) → is_among (block_vars P) v ≡ true → (is_bound P v ≡ true) × (rank v ≡ from)
  among-block [] v h = absurd (true≢false (sym h))
  among-block (b ∷ P) v h = go (eqb (rank b.var) from) refl h (among-block P v)
    where
      go : (s : Bool) → eqb (rank b.var) from ≡ s → is_among (cond s (b.var ∷ block_vars P) (block_vars P)) v ≡ true → (is_among (block_vars P) v ≡ true → (is_bound P v ≡ true) × (rank v ≡ from)) → (is_bound (b ∷ P) v ≡ true) × (rank v ≡ from)
      go true e i ih = elim (cases_eq b.var v) [
        | inl q ↦ (subst (λ (w : ℕ). is_bound (b ∷ P) w ≡ true) q (is_bound-first b P), (let x : rank b.var ≡ rank v = ap rank q in grind (arith, nat_tests)))
        | inr q ↦ let r = ih (sym (ap (λ (s : Bool). cond s true (is_among (block_vars P) v)) (ne_eqb b.var v q)) ∙ i) in (is_bound-later b P v r.0, r.1)
      ]
      go false e i ih = let r = ih i in (is_bound-later b P v r.0, r.1)

  pub block-among : (P : Prefix) (v : ℕ) → is_bound P v ≡ true → rank v ≡ from → is_among (block_vars P) v ≡ true
  block-among [] v h e = absurd (true≢false (sym h))
  block-among (b ∷ P) v h e = elim (bound-cases b P v h) [
    | inl q ↦ let x : rank b.var ≡ rank v = ap rank q in let y : eqb (rank b.var) from ≡ true = grind (arith, nat_tests) in let z : eqb b.var v ≡ true = grind (arith, nat_tests) in rw (y, z) refl
    | inr k ↦ go (eqb (rank b.var) from) (ne_eqb b.var v k.0) (block-among P v k.1 e)
  ]
    where
      go : (s : Bool) → eqb b.var v ≡ false → is_among (block_vars P) v ≡ true → is_among (cond s (b.var ∷ block_vars P) (block_vars P)) v ≡ true
      go true n i = rw n i
      go false n i = i

  none-among : (P : Prefix) (v : ℕ) → is_bound P v ≡ false → is_among (block_vars P) v ≡ false
  none-among P v h = go (is_among (block_vars P) v) refl
    where
      go : (s : Bool) → is_among (block_vars P) v ≡ s → s ≡ false
      go true e = absurd (true≢false (sym (among-block P v e).0 ∙ h))
      go false e = refl

  -- from the first variable of the block on
  pub run-forward : (f : ℕ → Option Binding) (o : Option Bound) (c : Bound) (C : Prefix) → AreLinked f o (c ∷ C) None → Distinct (c ∷ C) → AreRanked rank (Some c) C → rank c.var ≡ from → IsRun f true (Some c.var) (block_vars (c ∷ C))
  run-forward f o c [] l d h e = let y : eqb (rank c.var) from ≡ true = grind (arith, nat_tests) in rw y (refl, refl, l.0.binding, l.0.there, tt)
  run-forward f o c (x ∷ E) l d h e =
      let y : eqb (rank c.var) from ≡ true = grind (arith, nat_tests) in
      let up : rank c.var ≤ rank x.var = next-rises rank c x h.0 in
      let rest : IsRun f true (Some x.var) (block_vars (x ∷ E)) = elim (cases_eq (rank x.var) from) [
        | inl q ↦ run-forward f (Some c) x E l.1 d.1 h.1 q
        | inr q ↦
            let n : block_vars (x ∷ E) ≡ [] = block-none (x ∷ E) (λ v i k. elim (bound-cases x E v i) [
              | inl w ↦ let z : rank x.var ≡ rank v = ap rank w in q (z ∙ k)
              | inr w ↦ let z : rank x.var ≤ rank v = ranked-rises rank x E v h.1 w.1 in q (let a : rank c.var ≡ from = e in let b : rank v ≡ from = k in omega arith)
            ]) in
            subst (λ (S : List ℕ). IsRun f true (Some x.var) S) (sym n) tt
      ] in
      let other : is_among (block_vars (x ∷ E)) c.var ≡ false = none-among (x ∷ E) c.var d.0 in
      let run : IsRun f true (beside true l.0.binding) (block_vars (x ∷ E)) = subst (λ (n : Option ℕ). IsRun f true n (block_vars (x ∷ E))) (sym l.0.after) rest in
      subst (λ (s : Bool). IsRun f true (Some c.var) (cond s (c.var ∷ block_vars (x ∷ E)) (block_vars (x ∷ E)))) (sym y) (refl, other, l.0.binding, l.0.there, run)

  pub back-size : (acc : List ℕ) (P : Prefix) → length (block_back acc P) ≡ length acc + in_block rank from P
  back-size acc [] = omega arith
  back-size acc (b ∷ P) = go (eqb (rank b.var) from) (back-size (b.var ∷ acc) P) (back-size acc P)
    where
      go : (s : Bool) → length (block_back (b.var ∷ acc) P) ≡ suc (length acc) + in_block rank from P → length (block_back acc P) ≡ length acc + in_block rank from P → length (block_back (cond s (b.var ∷ acc) acc) P) ≡ length acc + cond s (in_block rank from P + 1) (in_block rank from P)
      go true g h = omega arith
      go false g h = h

  pub among-back : (acc : List ℕ) (P : Prefix) (v : ℕ) → is_among (block_back acc P) v ≡ true → (is_among acc v ≡ true) ⊎ ((is_bound P v ≡ true) × (rank v ≡ from))
  among-back acc [] v h = inl h
  among-back acc (b ∷ P) v h = go (eqb (rank b.var) from) refl h (among-back (b.var ∷ acc) P v) (among-back acc P v)
    where
      go : (s : Bool) → eqb (rank b.var) from ≡ s → is_among (block_back (cond s (b.var ∷ acc) acc) P) v ≡ true → (is_among (block_back (b.var ∷ acc) P) v ≡ true → (is_among (b.var ∷ acc) v ≡ true) ⊎ ((is_bound P v ≡ true) × (rank v ≡ from))) → (is_among (block_back acc P) v ≡ true → (is_among acc v ≡ true) ⊎ ((is_bound P v ≡ true) × (rank v ≡ from))) → (is_among acc v ≡ true) ⊎ ((is_bound (b ∷ P) v ≡ true) × (rank v ≡ from))
      go true e i g ih = elim (g i) [
        | inl k ↦ elim (cases_eq b.var v) [
          | inl q ↦ inr (subst (λ (w : ℕ). is_bound (b ∷ P) w ≡ true) q (is_bound-first b P), (let x : rank b.var ≡ rank v = ap rank q in grind (arith, nat_tests)))
          | inr q ↦ inl (sym (ap (λ (s : Bool). cond s true (is_among acc v)) (ne_eqb b.var v q)) ∙ k)
        ]
        | inr k ↦ inr (is_bound-later b P v k.0, k.1)
      ]
      go false e i g ih = elim (ih i) [ inl k ↦ inl k | inr k ↦ inr (is_bound-later b P v k.0, k.1) ]

  pub acc-back : (acc : List ℕ) (P : Prefix) (v : ℕ) → is_among acc v ≡ true → is_among (block_back acc P) v ≡ true
  acc-back acc [] v h = h
  acc-back acc (b ∷ P) v h = acc-back (cond (eqb (rank b.var) from) (b.var ∷ acc) acc) P v (go (eqb (rank b.var) from))
    where
      go : (s : Bool) → is_among (cond s (b.var ∷ acc) acc) v ≡ true
      go true = turn (eqb b.var v)
        where
          turn : (s : Bool) → cond s true (is_among acc v) ≡ true
          turn true = refl
          turn false = h
      go false = h

  pub back-among : (acc : List ℕ) (P : Prefix) (v : ℕ) → is_bound P v ≡ true → rank v ≡ from → is_among (block_back acc P) v ≡ true
  back-among acc [] v h e = absurd (true≢false (sym h))
  back-among acc (b ∷ P) v h e = elim (bound-cases b P v h) [
    | inl q ↦ let x : rank b.var ≡ rank v = ap rank q in let y : eqb (rank b.var) from ≡ true = grind (arith, nat_tests) in let z : eqb b.var v ≡ true = grind (arith, nat_tests) in rw y (acc-back (b.var ∷ acc) P v (rw z refl))
    | inr k ↦ back-among (cond (eqb (rank b.var) from) (b.var ∷ acc) acc) P v k.1 e
  ]

  -- from the last variable of the block on, where no variable has a greater number
  pub run-back : (f : ℕ → Option Binding) (acc : List ℕ) (o : Option Bound) (P : Prefix) (n : Option ℕ) → IsRun f false (var_of o) acc → ((v : ℕ) → is_bound P v ≡ true → is_among acc v ≡ false) → Distinct P → AreLinked f o P n → AreRanked rank o P → ((v : ℕ) → is_bound P v ≡ true → rank v ≤ from) → (acc ≡ []) ⊎ ((v : ℕ) → is_bound P v ≡ true → from ≤ rank v) → IsRun f false (var_of (last_or P o)) (block_back acc P)
  run-back f acc o [] n r apart d l h low w = r
  run-back f acc o (b ∷ P) n r apart d l h low w = elim (cases_eq (rank b.var) from) [
    | inl e ↦
        let y : eqb (rank b.var) from ≡ true = grind (arith, nat_tests) in
        rw y (run-back f (b.var ∷ acc) (Some b) P n
        (refl, apart b.var (is_bound-first b P), l.0.binding, l.0.there, subst (λ (m : Option ℕ). IsRun f false m acc) (sym l.0.before) r)
        (λ v i. let q : eqb b.var v ≡ false = ne_eqb b.var v (λ k. true≢false (sym i ∙ ap (is_bound P) (sym k) ∙ d.0)) in rw q (apart v (is_bound-later b P v i)))
        d.1 l.1 h.1 (λ v i. low v (is_bound-later b P v i))
        (inr (λ v i. subst (λ (m : ℕ). m ≤ rank v) e (ranked-rises rank b P v h.1 i))))
    | inr e ↦
        let y : eqb (rank b.var) from ≡ false = ne_eqb (rank b.var) from e in
        let z : acc ≡ [] = elim w [
          | inl k ↦ k
          | inr k ↦ absurd (let p : from ≤ rank b.var = k b.var (is_bound-first b P) in let q : rank b.var ≤ from = low b.var (is_bound-first b P) in e (omega arith))
        ] in
        rw y (run-back f acc (Some b) P n (subst (λ (m : List ℕ). IsRun f false (Some b.var) m) (sym z) tt) (λ v i. apart v (is_bound-later b P v i)) d.1 l.1 h.1 (λ v i. low v (is_bound-later b P v i)) (inl z))
  ]
