use Rattle.std.proofs.Common.{arith, ◌≡◌, ◌+◌, ◌≤◌, length}
use Rattle.std.proofs.lemmas.Grind.{common_steps}
use Rattle.q_logic.specs.Prelude.{number_of}
use Rattle.q_text.specs.Numbers.{number_text}
use Rattle.q_text.proofs.LiteralLengths.{literal-short}
use Rattle.q_log.proofs.text.lit_len.Goals as goal

pub returns-clause-bound : goal.returns-clause-bound
returns-clause-bound c =
    let short : length (number_text (number_of c.args.lit)) ≤ 12 = literal-short c.args.lit (omega arith) in
    let value : c.digits.result + 1 ≡ length (number_text (number_of c.args.lit)) = grind (arith, common_steps) in
    omega arith

pub overflow_add-result : goal.overflow_add-result
overflow_add-result c =
    let short : length (number_text (number_of c.args.lit)) ≤ 12 = literal-short c.args.lit (omega arith) in
    let value : c.digits.result + 1 ≡ length (number_text (number_of c.args.lit)) = grind (arith, common_steps) in
    omega arith
