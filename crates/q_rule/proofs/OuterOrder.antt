-- The order of a prefix goes through, and stays where variables leave.
use Rattle.std.proofs.Common.{◌≡◌, ℕ, Bool, true, false, cond, [], ◌∷◌, refl, sym, ◌∙◌, arith, true≢false}
use Rattle.q_logic.specs.declared.formulas.Quant.{Quant}
use Rattle.q_logic.specs.declared.formulas.Quant.TheVariants.{Exists, Forall}
use Rattle.q_logic.specs.Prelude.{Matrix, Prefix, is_bound, is_existential, is_universal, same_quant, run_to, outer_or_same, inner_existential, occurs, occurring}
use Rattle.q_logic.proofs.Common.{inner-parts, inner_of, universal-is_bound, existential-is_bound}

same_quant-run : (q p : Quant) (P : Prefix) (a : ℕ) → same_quant q p ≡ true → run_to q P a ≡ run_to p P a
same_quant-run Exists Exists P a h = refl
same_quant-run Exists Forall P a h = absurd (true≢false (sym h))
same_quant-run Forall Exists P a h = absurd (true≢false (sym h))
same_quant-run Forall Forall P a h = refl

-- what ends a run is outer or same to all
run-outer : (q : Quant) (P : Prefix) (a u : ℕ) → run_to q P a ≡ true → outer_or_same P a u ≡ true
run-outer q [] a u r = r
run-outer q (b ∷ P) a u r = grind (arith, run-outer q P a u, same_quant-run q b.quant P a)

-- a run of universal variables does not come to an existential one
existential-run : (P : Prefix) (v : ℕ) → is_existential P v ≡ true → run_to Forall P v ≡ false
existential-run [] v h = refl
existential-run (b ∷ P) v h = grind (arith, existential-run P v)

-- a run goes on to what is outer or same to its end
run-through : (q : Quant) (P : Prefix) (a w : ℕ) → outer_or_same P a w ≡ true → run_to q P w ≡ true → run_to q P a ≡ true
run-through q [] a w o r = r
run-through q (b ∷ P) a w o r = grind (arith, run-through q P a w, same_quant-run q b.quant P a)

pub outer-through : (P : Prefix) (a w u : ℕ) → outer_or_same P a w ≡ true → outer_or_same P w u ≡ true → outer_or_same P a u ≡ true
outer-through [] a w u o r = o
outer-through (b ∷ P) a w u o r = grind (arith, outer-through P a w u, run-outer b.quant P a u, run-through b.quant P a w)

-- What is inner to u is inner to what is outer to u.
pub inner-through : (P : Prefix) (w u v : ℕ) → outer_or_same P w u ≡ true → inner_existential P u v ≡ true → inner_existential P w v ≡ true
inner-through P w u v o h =
    let p = inner-parts P u v h in
    inner_of P w v p.0 (go (outer_or_same P v w) refl)
  where
    go : (b : Bool) → outer_or_same P v w ≡ b → b ≡ false
    go true e = let p = inner-parts P u v h in absurd (true≢false (sym (outer-through P v w u e o) ∙ p.1))
    go false e = refl

-- Variables that occur nowhere leave the prefix.
module _ (X : Matrix) where
  occurring-occurs : (P : Prefix) (v : ℕ) → is_bound (occurring P X) v ≡ true → occurs v X ≡ true
  occurring-occurs [] v h = absurd (true≢false (sym h))
  occurring-occurs (b ∷ P) v h = go (occurs b.var X) refl h (occurring-occurs P v)
    where
      go : (c : Bool) → occurs b.var X ≡ c → is_bound (cond c (b ∷ occurring P X) (occurring P X)) v ≡ true → (is_bound (occurring P X) v ≡ true → occurs v X ≡ true) → occurs v X ≡ true
      go true e h i = grind arith
      go false e h i = i h

  occurring-existential : (P : Prefix) (v : ℕ) → is_existential (occurring P X) v ≡ true → is_existential P v ≡ true
  occurring-existential [] v h = h
  occurring-existential (b ∷ P) v h = go (occurs b.var X) refl h (occurring-existential P v)
    where
      go : (c : Bool) → occurs b.var X ≡ c → is_existential (cond c (b ∷ occurring P X) (occurring P X)) v ≡ true → (is_existential (occurring P X) v ≡ true → is_existential P v ≡ true) → is_existential (b ∷ P) v ≡ true
      go true e h i = grind arith
      go false e h i = let o : occurs v X ≡ true = occurring-occurs P v (existential-is_bound (occurring P X) v h) in let r : is_existential P v ≡ true = i h in grind arith

  pub occurring-universal : (P : Prefix) (v : ℕ) → is_universal (occurring P X) v ≡ true → is_universal P v ≡ true
  occurring-universal [] v h = h
  occurring-universal (b ∷ P) v h = go (occurs b.var X) refl h (occurring-universal P v)
    where
      go : (c : Bool) → occurs b.var X ≡ c → is_universal (cond c (b ∷ occurring P X) (occurring P X)) v ≡ true → (is_universal (occurring P X) v ≡ true → is_universal P v ≡ true) → is_universal (b ∷ P) v ≡ true
      go true e h i = grind arith
      go false e h i = let o : occurs v X ≡ true = occurring-occurs P v (universal-is_bound (occurring P X) v h) in let r : is_universal P v ≡ true = i h in grind arith

  occurring-run : (q : Quant) (P : Prefix) (a : ℕ) → occurs a X ≡ true → run_to q P a ≡ true → run_to q (occurring P X) a ≡ true
  occurring-run q [] a o r = r
  occurring-run q (b ∷ P) a o r = go (occurs b.var X) refl (occurring-run q P a o)
    where
      go : (c : Bool) → occurs b.var X ≡ c → (run_to q P a ≡ true → run_to q (occurring P X) a ≡ true) → run_to q (cond c (b ∷ occurring P X) (occurring P X)) a ≡ true
      go true e i = grind arith
      go false e i = grind arith

  occurring-outer : (P : Prefix) (a v : ℕ) → occurs a X ≡ true → occurs v X ≡ true → outer_or_same P a v ≡ true → outer_or_same (occurring P X) a v ≡ true
  occurring-outer [] a v o p h = h
  occurring-outer (b ∷ P) a v o p h = go (occurs b.var X) refl (occurring-outer P a v o p) (occurring-run b.quant P a o)
    where
      go : (c : Bool) → occurs b.var X ≡ c → (outer_or_same P a v ≡ true → outer_or_same (occurring P X) a v ≡ true) → (run_to b.quant P a ≡ true → run_to b.quant (occurring P X) a ≡ true) → outer_or_same (cond c (b ∷ occurring P X) (occurring P X)) a v ≡ true
      go true e i j = grind arith
      go false e i j = grind arith

  pub occurring-inner : (P : Prefix) (u v : ℕ) → is_universal (occurring P X) u ≡ true → inner_existential (occurring P X) u v ≡ true → inner_existential P u v ≡ true
  occurring-inner P u v t h =
      let p = inner-parts (occurring P X) u v h in
      inner_of P u v (occurring-existential P v p.0) (go (outer_or_same P v u) refl)
    where
      go : (b : Bool) → outer_or_same P v u ≡ b → b ≡ false
      go true e =
          let p = inner-parts (occurring P X) u v h in
          absurd (true≢false (sym (occurring-outer P v u (occurring-occurs P v (existential-is_bound (occurring P X) v p.0)) (occurring-occurs P u (universal-is_bound (occurring P X) u t)) e) ∙ p.1))
      go false e = refl

  occurring-keeps : (P : Prefix) (v : ℕ) → occurs v X ≡ true → is_existential P v ≡ true → is_existential (occurring P X) v ≡ true
  occurring-keeps [] v o h = h
  occurring-keeps (b ∷ P) v o h = go (occurs b.var X) refl (occurring-keeps P v o)
    where
      go : (c : Bool) → occurs b.var X ≡ c → (is_existential P v ≡ true → is_existential (occurring P X) v ≡ true) → is_existential (cond c (b ∷ occurring P X) (occurring P X)) v ≡ true
      go true e i = grind arith
      go false e i = grind arith

  occurring-later : (P : Prefix) (w v : ℕ) → is_universal P w ≡ true → is_existential P v ≡ true → occurs w X ≡ true → occurs v X ≡ true → outer_or_same P v w ≡ false → outer_or_same (occurring P X) v w ≡ false
  occurring-later [] w v t x o p h = h
  occurring-later (b ∷ P) w v t x o p h = go (occurs b.var X) refl (occurring-later P w v) (existential-run (occurring P X) v) (occurring-keeps P v p)
    where
      go : (c : Bool) → occurs b.var X ≡ c → (is_universal P w ≡ true → is_existential P v ≡ true → occurs w X ≡ true → occurs v X ≡ true → outer_or_same P v w ≡ false → outer_or_same (occurring P X) v w ≡ false) → (is_existential (occurring P X) v ≡ true → run_to Forall (occurring P X) v ≡ false) → (is_existential P v ≡ true → is_existential (occurring P X) v ≡ true) → outer_or_same (cond c (b ∷ occurring P X) (occurring P X)) v w ≡ false
      go true e i r k = grind arith
      go false e i r k = grind arith

  -- what is inner to a universal variable stays so while both occur
  pub occurring-stays : (P : Prefix) (w v : ℕ) → is_universal (occurring P X) w ≡ true → occurs v X ≡ true → inner_existential P w v ≡ true → inner_existential (occurring P X) w v ≡ true
  occurring-stays P w v t o h =
      let p = inner-parts P w v h in
      inner_of (occurring P X) w v (occurring-keeps P v o p.0)
      (occurring-later P w v (occurring-universal P w t) p.0 (occurring-occurs P w (universal-is_bound (occurring P X) w t)) o p.1)
