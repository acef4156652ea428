-- Values of trees.
use Rattle.std.proofs.Common.{◌≡◌, ℕ, Bool, true, false, cond, not, ◌&&◌, eqb, ◌⊎◌, inl, inr, arith, refl, sym, ap, ap₂, ◌∙◌}
use Rattle.q_logic.specs.Prelude.{Matrix, Circuit, constant, input, inverter, conjunction, value_of, Reads, replaced}
use Rattle.q_logic.specs.Truth.{Assignment, ClauseTrue, MatrixTrue, signed, with_value}

pub value_of-agree : (t : Circuit) (A B : Assignment) → ((u : ℕ) → Reads t u → A u ≡ B u) →
    value_of t A ≡ value_of t B
value_of-agree (constant b) A B h = refl
value_of-agree (input w) A B h = h w refl
value_of-agree (inverter t) A B h = ap not (value_of-agree t A B h)
value_of-agree (conjunction s t) A B h =
    ap₂ ◌&&◌ (value_of-agree s A B (λ u r. h u (inl r))) (value_of-agree t A B (λ u r. h u (inr r)))

pub value_of-replaced : (u : ℕ) (s t : Circuit) (A : Assignment) →
    value_of (replaced u s t) A ≡ value_of t (with_value A u (value_of s A))
value_of-replaced u s (constant b) A = refl
value_of-replaced u s (input w) A = go (eqb w u)
  where
    go : (b : Bool) → value_of (cond b s (input w)) A ≡ cond b (value_of s A) (A w)
    go true = refl
    go false = refl
value_of-replaced u s (inverter t) A = ap not (value_of-replaced u s t A)
value_of-replaced u s (conjunction t r) A = ap₂ ◌&&◌ (value_of-replaced u s t A) (value_of-replaced u s r A)

pub Reads-replaced : (u : ℕ) (s t : Circuit) (w : ℕ) → Reads (replaced u s t) w →
    (Reads t w × (eqb w u ≡ false)) ⊎ (Reads t u × Reads s w)
Reads-replaced u s (constant b) w r = elim r [ ]
Reads-replaced u s (input x) w r = go (eqb x u) refl r
  where
    go : (b : Bool) → eqb x u ≡ b → Reads (cond b s (input x)) w →
        ((x ≡ w) × (eqb w u ≡ false)) ⊎ ((x ≡ u) × Reads s w)
    go true e r = inr (grind arith, r)
    go false e r = inl (r, grind arith)
Reads-replaced u s (inverter t) w r = Reads-replaced u s t w r
Reads-replaced u s (conjunction t q) w (inl r) =
    elim (Reads-replaced u s t w r) [ inl e ↦ inl (inl e.0, e.1) | inr e ↦ inr (inl e.0, e.1) ]
Reads-replaced u s (conjunction t q) w (inr r) =
    elim (Reads-replaced u s q w r) [ inl e ↦ inl (inr e.0, e.1) | inr e ↦ inr (inr e.0, e.1) ]

pub MatrixTrue-agree : (A B : Assignment) (X : Matrix) → ((x : ℕ) → A x ≡ B x) → MatrixTrue A X →
    MatrixTrue B X
MatrixTrue-agree A B X e t D m =
    let w : ClauseTrue A D = t D m in (w.0, w.1, ap (signed w.0.negative) (sym (e w.0.var)) ∙ w.2)
