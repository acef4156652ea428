use Rattle.std.proofs.Common.{◌≡◌, ◌<◌, ◌==◌, ◌∙◌, true, false, sym, List, [], ◌∷◌, length, refl, inl, arith}
use Rattle.std.proofs.lemmas.Bool.Decides.{nat_tests}
use Rattle.q_logic.specs.Prelude.{Literal, IsIn}
use Rattle.q_blocked.proofs.covered.is_bare.Goals as goal

none-in : (xs : List Literal) → length xs ≡ 0 → (k : Literal) → IsIn k xs → ⊥
none-in [] e k m = m
none-in (x ∷ xs) e k m = absurd (omega arith)

some-in : (xs : List Literal) → 0 < length xs → (k : Literal) × IsIn k xs
some-in [] e = absurd (omega arith)
some-in (x ∷ xs) e = (x, inl refl)

empty : (C : List Literal) → (length C == 0) ≡ true → length C ≡ 0
empty C e = grind (arith, nat_tests)

not_empty : (C : List Literal) → (length C == 0) ≡ false → 0 < length C
not_empty C e = grind (arith, nat_tests)

pub returns-clause-none : goal.returns-clause-none
returns-clause-none c e k m = none-in c.args.lits.now (empty c.args.lits.now (sym c.is_empty.ensures ∙ e)) k m

pub returns-clause-some : goal.returns-clause-some
returns-clause-some c e = some-in c.args.lits.now (not_empty c.args.lits.now (sym c.is_empty.ensures ∙ e))
