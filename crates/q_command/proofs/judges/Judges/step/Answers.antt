use Rattle.std.proofs.Common.{subst, Option, ◌∷◌, ◌++◌, [], sym}
use Rattle.q_logic.specs.Prelude.{ProofPart}
use Rattle.q_logic.proofs.Common.{on_both}
use Rattle.q_hinted.specs.Logs.{hinted_in}
use Rattle.q_command.specs.Judging.{AreBehind, IsRefusedBehind, IsTurn, plain_in}
use Rattle.q_command.proofs.FilePieces.{err_then}
use Rattle.q_command.proofs.BothCheckers.{behind-plain, behind-hinted}
use Rattle.q_command.proofs.judges.Judges.step.Goals as goal

pub returns-in-None-clause-behind : goal.returns-in-None-clause-behind
returns-in-None-clause-behind c =
    on_both c.step_plain.result c.step_plain.ensures.behind c.step_plain.ensures.origin
    (λ f o j F es line turn b. subst (λ (x : Option ProofPart). AreBehind j F c.step_plain.new.self (es ++ (line, c.args.step.now, x) ∷ [])) (sym c.in-None.is)
    (behind-plain j F c.args.self.now c.step_plain.new.self es line c.args.step.now (f F b.origin j (plain_in es) line (subst (λ (x : Option ProofPart). IsTurn j es x c.args.judged) c.in-None.is turn)) (o F b.origin) c.step_plain.ensures.same c.step_plain.ensures.hinted b))

pub returns-in-Some-clause-behind : goal.returns-in-Some-clause-behind
returns-in-Some-clause-behind c =
    on_both c.step_hinted.result c.step_hinted.ensures.behind c.step_hinted.ensures.origin
    (λ f o j F es line turn b. subst (λ (x : Option ProofPart). AreBehind j F c.step_hinted.new.self (es ++ (line, c.args.step.now, x) ∷ [])) (sym c.in-Some.is)
    (behind-hinted j F c.args.self.now c.step_hinted.new.self es line c.args.step.now c.in-Some.proof (f F b.origin j (hinted_in es) line (subst (λ (x : Option ProofPart). IsTurn j es x c.args.judged) c.in-Some.is turn)) (o F b.origin) c.step_hinted.ensures.same c.step_hinted.ensures.plain b))

pub returns-in-None-clause-refused : goal.returns-in-None-clause-refused
returns-in-None-clause-refused c =
    err_then c.step_plain.result c.step_plain.ensures.refused
    (λ e f j F es turn b. subst (λ (x : Option ProofPart). IsRefusedBehind j F es c.args.step.now x e) (sym c.in-None.is)
    (f F b.origin j (plain_in es) (subst (λ (x : Option ProofPart). IsTurn j es x c.args.judged) c.in-None.is turn) b.plain))

pub returns-in-Some-clause-refused : goal.returns-in-Some-clause-refused
returns-in-Some-clause-refused c =
    err_then c.step_hinted.result c.step_hinted.ensures.refused
    (λ e f j F es turn b. subst (λ (x : Option ProofPart). IsRefusedBehind j F es c.args.step.now x e) (sym c.in-Some.is)
    (f F b.origin j (hinted_in es) (subst (λ (x : Option ProofPart). IsTurn j es x c.args.judged) c.in-Some.is turn) b.hinted))
