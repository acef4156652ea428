use Rattle.std.proofs.Common.{◌≡◌, ◌≢◌, ◌∙◌, [], ◌∷◌, get_or, length, sym, arith}
use Rattle.q_logic.specs.Prelude.{Literal, Clause}
use Rattle.q_equiv.proofs.BinaryClauses.{partner-none, partner-second}
use Rattle.q_logic.proofs.Common.{test-false}
use Rattle.q_equiv.proofs.joined.partner.Goals as goal

same : (a b : Literal) (C : Clause) → a ≡ get_or C 0 a → b ≡ get_or C 0 b → length C ≡ 2 → a ≡ b
same a b [] e f n = absurd (omega arith)
same a b (i ∷ C) e f n = e ∙ sym f

pub returns-then-clause-ne2 : goal.returns-then-clause-ne2
returns-then-clause-ne2 c y =
    let n : length c.args.clause.now ≢ 2 = omega (arith, c.if-clause-ne2.true) in
    partner-none c.args.clause.now c.args.lit y c.requires.ordered n

pub returns-else-is : goal.returns-else-is
returns-else-is c y =
    let n : length c.args.clause.now ≡ 2 = omega (arith, c.if-clause-ne2.false) in
    let h = rw c.negated.ensures at c.is.ensures in
    partner-second c.args.clause.now c.args.lit c.index-clause-0-else-is.result y c.requires.ordered n c.requires.held c.index-clause-0-else-is.is
    (λ f. test-false c.is.result h c.if-is.false (same c.index-clause-0.result c.index-clause-0-else-is.result c.args.clause.now c.index-clause-0.is c.index-clause-0-else-is.is n ∙ f))
