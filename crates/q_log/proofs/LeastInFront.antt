-- A clause with its least literal in front is the clause.
use Rattle.std.proofs.Common.{◌≡◌, [], ◌∷◌, refl, ap}
use Rattle.q_logic.specs.Prelude.{IsBelow, Clause, ArePairs, first_of, in_front}
use Rattle.q_logic.proofs.Common.{literal_eq-itself}
use Rattle.q_logic.proofs.StepForms.{without-above}

pub in_front-own : (C : Clause) → ArePairs IsBelow C → in_front (first_of C) C ≡ C
in_front-own [] o = refl
in_front-own (k ∷ C) (a, o) = ap (λ D. k ∷ D) (rw (literal_eq-itself k) (without-above k C a))
