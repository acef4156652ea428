use Rattle.std.proofs.Common.{◌∙◌, sym, ap, arith}
use Rattle.q_logic.specs.Prelude.{ProofStep}
use Rattle.q_binary.proofs.ByteSteps.{below-128, ends-there}
use Rattle.q_binary.proofs.builder.ByteBuilder.take.Goals as goal

pub returns-then-value-eq0 : goal.returns-then-value-eq0
returns-then-value-eq0 c =
    let s = c.args.self.now in (
      record { deletes = c.in-Some.deletes; lits = s.lits },
      ends-there s.deletes c.in-Some.deletes s.lits s.groups c.args.byte c.in-Some.is (below-128 c.args.byte (omega arith))
          (sym c.value-value.ensures ∙ c.if-value-eq0.true),
      ap (λ (p : ProofStep). (c.args.number, p)) c.end.ensures.step,
      c.end.ensures.place,
    )
