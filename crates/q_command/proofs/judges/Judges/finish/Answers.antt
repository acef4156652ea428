use Rattle.std.proofs.Common.{◌∙◌, sym}
use Rattle.q_logic.proofs.Common.{ok_then}
use Rattle.q_hinted.specs.Logs.{hinted_in}
use Rattle.q_command.proofs.FilePieces.{err_then}
use Rattle.q_command.proofs.BothCheckers.{hinted-passed, hinted-stopped, none-hinted, plain-passed, plain-stopped}
use Rattle.q_command.proofs.judges.Judges.finish.Goals as goal

pub returns-then-is_taken-clause-passed : goal.returns-then-is_taken-clause-passed
returns-then-is_taken-clause-passed c =
    ok_then c.with_origin.result c.with_origin.ensures.ok
    (λ x e j F es b p. hinted-passed c.args.self.keeps_undo j F es c.args.self.hinted c.args.output.now c.finish.result x.undo c.finish.ensures b.hinted p e.0)

pub returns-then-is_taken-clause-refused : goal.returns-then-is_taken-clause-refused
returns-then-is_taken-clause-refused c =
    err_then c.with_origin.result c.with_origin.ensures.err
    (λ w e j F es b p. hinted-stopped c.args.self.keeps_undo j F es c.args.self.hinted c.args.output.now c.finish.result w c.finish.ensures b.hinted p e)

pub returns-clause-passed : goal.returns-clause-passed
returns-clause-passed c =
    ok_then c.with_origin-2.result c.with_origin-2.ensures.ok
    (λ x e j F es b p. plain-passed c.args.self.keeps_undo j F es c.args.self.plain c.args.output.now c.finish_plain-ended.result x.undo
    (none-hinted c.args.self.keeps_undo j F (hinted_in es) c.args.self.hinted (sym c.is_taken.ensures ∙ c.if-is_taken.false) b.hinted) b.plain (ok_then c.finish_plain-ended.result c.finish_plain-ended.ensures.passed (λ v f. f F b.origin)) e.0)

pub returns-clause-refused : goal.returns-clause-refused
returns-clause-refused c =
    err_then c.with_origin-2.result c.with_origin-2.ensures.err
    (λ w e j F es b p. plain-stopped c.args.self.keeps_undo j F es c.args.self.plain c.args.output.now c.finish_plain-ended.result w
    (none-hinted c.args.self.keeps_undo j F (hinted_in es) c.args.self.hinted (sym c.is_taken.ensures ∙ c.if-is_taken.false) b.hinted) b.plain (err_then c.finish_plain-ended.result c.finish_plain-ended.ensures.refused (λ v f. f F b.origin)) e)
