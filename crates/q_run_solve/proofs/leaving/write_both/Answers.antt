use Rattle.std.proofs.Common.{inl, inr}
use Rattle.q_io.proofs.FaultCounts.{rose_later}
use Rattle.q_command.proofs.FaultTurns.{at_once}
use Rattle.q_command.proofs.FilePieces.{err_of}
use Rattle.q_run_solve.proofs.WrittenFiles.{first-part, second-part, both-whole, log-stands}
use Rattle.q_run_solve.proofs.leaving.write_both.Goals as goal

pub returns-in-Err-clause-part : goal.returns-in-Err-clause-part
returns-in-Err-clause-part g c = first-part c.args.output.now c.args.log.now c.args.out_text.now c.args.log_text.now _ _ c.requires c.in-Err.ensures.part

pub returns-in-Ok-write_whole-clause-whole : goal.returns-in-Ok-write_whole-clause-whole
returns-in-Ok-write_whole-clause-whole g c = both-whole c.args.output.now c.args.log.now c.args.out_text.now c.args.log_text.now _ _ _ c.requires c.in-Ok.ensures.whole c.in-Ok-write_whole.ensures.whole

pub returns-in-Err-write_whole-clause-part : goal.returns-in-Err-write_whole-clause-part
returns-in-Err-write_whole-clause-part g c = second-part c.args.output.now c.args.log.now c.args.out_text.now c.args.log_text.now _ _ _ c.requires c.in-Ok.ensures.whole c.in-Err-write_whole.ensures.part

pub returns-in-Err-clause-cause_at : goal.returns-in-Err-clause-cause_at
returns-in-Err-clause-cause_at g c = λ e. inl (at_once (g.F.Files.held c.args.files.now), c.in-Err.ensures.cause (err_of _ _ e))

pub returns-in-Err-write_whole-clause-cause_at : goal.returns-in-Err-write_whole-clause-cause_at
returns-in-Err-write_whole-clause-cause_at g c = λ e.
    inr (inl (
      log-stands c.args.output.now c.args.log.now c.args.out_text.now c.args.log_text.now _ _ _ c.requires c.in-Ok.ensures.whole c.in-Err-write_whole.ensures.part,
      rose_later _ _ _ (c.in-Ok.ensures.later.write c.args.output.now) (c.in-Err-write_whole.ensures.cause (err_of _ _ e)),
    ))
