use Rattle.std.proofs.Common.{◌≡◌, true, sym, ◌∙◌}
use Rattle.q_logic.specs.Prelude.{is_bound}
use Rattle.q_logic.proofs.Common.{existential-is_bound}
use Rattle.q_kernel.specs.Prelude.{formula_in}
use Rattle.q_kernel.proofs.TextCosts.{proper-var}
use Rattle.q_equiv.proofs.LiteralPairs.{none-at}
use Rattle.q_equiv.proofs.find.find_at.Goals as goal

pub new-gone-requires-clause-positive : goal.new-gone-requires-clause-positive
new-gone-requires-clause-positive c =
    let k = c.args.kernel.now in
    let b : is_bound k.prefix c.args.var ≡ true = existential-is_bound k.prefix c.args.var (sym c.is_existential.ensures ∙ c.if-not-is_existential.false) in
    (proper-var (formula_in k) c.args.var c.sound.ensures.proper b).0

pub new-gone-requires-clause-small : goal.new-gone-requires-clause-small
new-gone-requires-clause-small c =
    let k = c.args.kernel.now in
    let b : is_bound k.prefix c.args.var ≡ true = existential-is_bound k.prefix c.args.var (sym c.is_existential.ensures ∙ c.if-not-is_existential.false) in
    (proper-var (formula_in k) c.args.var c.sound.ensures.proper b).1

pub returns-in-None-clause-found : goal.returns-in-None-clause-found
returns-in-None-clause-found c = record {
  some = λ t e. absurd (cc);
  none = λ e. none-at c.args.kernel.now c.args.var c.new-gone.result c.new-gone.ensures (c.in_ok-keep.ensures.kept.none c.in-None.is);
}
