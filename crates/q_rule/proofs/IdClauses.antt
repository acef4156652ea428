-- The clauses of ids.
use Rattle.std.proofs.Common.{◌≡◌, ◌≢◌, ℕ, zero, suc, None, [], ◌∷◌, Some, sym, ◌∙◌, ap, inl, inr, arith}
use Rattle.std.proofs.lemmas.Option.{same_Some}
use Rattle.q_logic.specs.Prelude.{Clause, IsIn, Slots, slot, others}
use Rattle.q_logic.proofs.HintChains.{live-number}

pub slot-one : (N : Slots) (n : ℕ) (C D : Clause) → slot N n ≡ Some C → slot N n ≡ Some D → C ≡ D
slot-one N n C D e f = same_Some C D (sym e ∙ f)

pub slot-none : (N : Slots) (n : ℕ) (C : Clause) → slot N n ≡ None → slot N n ≡ Some C → ⊥
slot-none N n C e f = let g : None ≡ Some C = sym e ∙ f in cc

-- a clause beside that of an id has another id
pub others-find : (N : Slots) (c : ℕ) (E : Clause) → IsIn E (others c N) → (d : ℕ) × (d ≢ c) × (slot N d ≡ Some E)
others-find [] c E m = absurd m
others-find (o ∷ N) zero E m = let r = live-number N E m in (suc r.0, (λ e. omega arith), r.1)
others-find (None ∷ N) (suc c) E m = let r = others-find N c E m in (suc r.0, (λ e. r.1 (omega arith)), r.2)
others-find (Some D ∷ N) (suc c) E (inl e) = (0, (λ z. omega arith), ap Some (sym e))
others-find (Some D ∷ N) (suc c) E (inr m) = let r = others-find N c E m in (suc r.0, (λ e. r.1 (omega arith)), r.2)
