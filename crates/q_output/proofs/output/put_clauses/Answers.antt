use Rattle.std.proofs.Common.{List, ℕ, ◌++◌, arith}
use Rattle.q_logic.proofs.Common.{on_err}
use Rattle.q_io.specs.Files.{Disk, MayHoldFront}
use Rattle.q_dimacs.specs.Writing.{matrix_text}
use Rattle.q_output.specs.Outputs.{HoldsSome}
use Rattle.q_io.proofs.FaultCounts.{later_still, later_at_once}
use Rattle.q_output.proofs.Putting.{come-none, come-more, come-stopped, come-failed, come-all}
use Rattle.q_output.proofs.output.put_clauses.Goals as goal

pub loop-at-init : goal.loop-at-init
loop-at-init g c =
    record {
      come = λ front before h. come-none c.args.name.now front c.args.text.now.items c.args.formula.now.matrix before _ h;
      later = later_at_once _ _ _;
    }

pub loop-at-preserved : goal.loop-at-preserved
loop-at-preserved g c =
    record {
      come = λ front before h. come-more c.args.name.now front c.loop-at.text.items _ _ c.args.formula.now.matrix c.loop-at.at c.clause.result.now before _ _ c.clause.ensures.value c.in_ok-put_clause.ensures.ok c.in_ok-put_piece.ensures.goes_on (c.loop-at.invariant.come front before h);
      later = later_still _ _ _ _ _ c.loop-at.invariant.later c.in_ok-put_piece.ensures.later;
    }

pub returns-in_err-put_clause-clause-part : goal.returns-in_err-put_clause-clause-part
returns-in_err-put_clause-clause-part g c =
    let part : (front : List ℕ) → (before : Disk) → HoldsSome c.args.name.now front c.args.text.now.items before (g.F.Files.held c.args.files.now) → MayHoldFront c.args.name.now (front ++ matrix_text c.args.formula.now.matrix) before (g.F.Files.held c.loop-at.files) =
    λ front before h. come-stopped c.args.name.now front c.loop-at.text.items c.args.formula.now.matrix c.loop-at.at before _ (c.loop-at.invariant.come front before h) in
    on_err _ part

pub returns-in_err-put_piece-clause-part : goal.returns-in_err-put_piece-clause-part
returns-in_err-put_piece-clause-part g c =
    let part : (front : List ℕ) → (before : Disk) → HoldsSome c.args.name.now front c.args.text.now.items before (g.F.Files.held c.args.files.now) → MayHoldFront c.args.name.now (front ++ matrix_text c.args.formula.now.matrix) before (g.F.Files.held c.put_piece.new.files) =
    λ front before h. come-failed c.args.name.now front c.loop-at.text.items _ c.args.formula.now.matrix c.loop-at.at c.clause.result.now before _ _ c.clause.ensures.value c.in_ok-put_clause.ensures.ok c.in_err-put_piece.ensures.part (c.loop-at.invariant.come front before h) in
    on_err _ part

pub returns-clause-goes_on : goal.returns-clause-goes_on
returns-clause-goes_on g c =
    λ front before h. come-all c.args.name.now front c.loop-at.text.items c.args.formula.now.matrix c.loop-at.at before _ (omega (arith, c.loop-at-test.false, c.clauses-at-end.ensures.value)) (c.loop-at.invariant.come front before h)
