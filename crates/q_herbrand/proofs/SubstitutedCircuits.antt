-- Circuits with another one in place of an input.
use Rattle.std.proofs.Common.{◌≡◌, ℕ, Bool, true, false, cond, eqb, inl, inr, arith, refl, sym, ap, ◌∙◌}
use Rattle.q_logic.specs.Prelude.{with_value, Circuit, constant, input, inverter, conjunction, value_of, Reads, replaced}
use Rattle.q_logic.proofs.Common.{value_of-replaced, Reads-replaced}
use Rattle.q_aig.specs.Prelude.{Serves}

Reads-kept : (v : ℕ) (s t : Circuit) (u : ℕ) → Reads t u → eqb u v ≡ false → Reads (replaced v s t) u
Reads-kept v s (constant b) u r n = r
Reads-kept v s (input w) u r n = go (eqb w v) refl
  where
    go : (b : Bool) → eqb w v ≡ b → Reads (cond b s (input w)) u
    go true e = let z : w ≡ u = r in absurd (grind arith)
    go false e = r
Reads-kept v s (inverter t) u r n = Reads-kept v s t u r n
Reads-kept v s (conjunction t q) u (inl r) n = inl (Reads-kept v s t u r n)
Reads-kept v s (conjunction t q) u (inr r) n = inr (Reads-kept v s q u r n)

Reads-new : (v : ℕ) (s t : Circuit) (u : ℕ) → Reads t v → Reads s u → Reads (replaced v s t) u
Reads-new v s (constant b) u r m = r
Reads-new v s (input w) u r m = go (eqb w v) refl
  where
    go : (b : Bool) → eqb w v ≡ b → Reads (cond b s (input w)) u
    go true e = m
    go false e = let z : w ≡ v = r in absurd (grind arith)
Reads-new v s (inverter t) u r m = Reads-new v s t u r m
Reads-new v s (conjunction t q) u (inl r) m = inl (Reads-new v s t u r m)
Reads-new v s (conjunction t q) u (inr r) m = inr (Reads-new v s q u r m)

pub serves-replaced : (v : ℕ) (s s2 t t2 : Circuit) → Serves s s2 → Serves t t2 →
    Serves (replaced v s t) (replaced v s2 t2)
serves-replaced v s s2 t t2 f g = record {
  values = λ A. value_of-replaced v s t A ∙ g.values (with_value A v (value_of s A)) ∙
      ap (λ (b : Bool). value_of t2 (with_value A v b)) (f.values A) ∙ sym (value_of-replaced v s2 t2 A);
  reads = λ u h. elim (Reads-replaced v s t u h) [
    | inl p ↦ Reads-kept v s2 t2 u (g.reads u p.0) p.1
    | inr p ↦ Reads-new v s2 t2 u (g.reads v p.0) (f.reads u p.1)
  ];
}
