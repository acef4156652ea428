use Rattle.std.proofs.Common.{inl, inr}
use Rattle.q_io.specs.Files.{bytes_at}
use Rattle.q_io.proofs.FaultCounts.{rose_later}
use Rattle.q_run_solve.specs.Reduces.{log_name}
use Rattle.q_run_solve.specs.Solves.{files_of}
use Rattle.q_run_solve.proofs.SolveParts.{solved-all, left-all, both-all, logged-all}
use Rattle.q_run_solve.proofs.RisenFaults.{read-is, write-is, both-at, cert-rose, both-rose, failed-is, unwritten-reads}
use Rattle.q_run_solve.proofs.solve.settle.Goals as goal

pub returns-in-Ok-clause-settles : goal.returns-in-Ok-clause-settles
returns-in-Ok-clause-settles g c =
    solved-all (files_of c.args.names) c.args.reduced.now c.conclude.result c.args.budget (g.F.Files.held c.args.files.now) (g.F.Files.held c.leave.new.files) (g.F.Files.held c.conclude.new.files) c.requires.output_cert c.requires.log_cert c.requires.made c.in-Ok.ensures.whole c.conclude.ensures.concludes

pub returns-in-Ok-clause-reading : goal.returns-in-Ok-clause-reading
returns-in-Ok-clause-reading g c = λ e. c.conclude.ensures.reading (read-is c.conclude.result e)

pub returns-in-Ok-clause-cause : goal.returns-in-Ok-clause-cause
returns-in-Ok-clause-cause g c =
    cert-rose g.F.Files.read_faults g.F.Files.write_faults c.args.names.output.now c.args.names.log.now c.args.names.cert.now c.args.files.now c.leave.new.files c.conclude.new.files c.conclude.result c.in-Ok.ensures.later c.conclude.ensures.cause

pub returns-in-Err-clause-settles : goal.returns-in-Err-clause-settles
returns-in-Err-clause-settles g c =
    left-all (files_of c.args.names) c.args.reduced.now c.unwritten.result c.in-Err.error c.args.budget (g.F.Files.held c.args.files.now) (g.F.Files.held c.leave.new.files) c.requires.output_cert c.requires.log_cert c.requires.made c.unwritten.ensures c.in-Err.ensures.part

pub returns-in-Err-clause-reading : goal.returns-in-Err-clause-reading
returns-in-Err-clause-reading g c = unwritten-reads c.unwritten.result c.in-Err.error c.unwritten.ensures

pub returns-in-Err-clause-cause : goal.returns-in-Err-clause-cause
returns-in-Err-clause-cause g c =
    both-rose g.F.Files.write_faults c.args.names.output.now c.args.names.log.now c.args.names.cert.now c.args.files.now c.leave.new.files c.unwritten.result c.in-Err.error c.unwritten.ensures c.in-Err.ensures.cause

pub returns-in-Ok-clause-cause_at : goal.returns-in-Ok-clause-cause_at
returns-in-Ok-clause-cause_at g c = λ e f.
    let w = write-is c.conclude.result e in
    inr (inr (inl (
      both-all (files_of c.args.names) c.args.reduced.now c.conclude.result c.args.budget (g.F.Files.held c.args.files.now) (g.F.Files.held c.leave.new.files) (g.F.Files.held c.conclude.new.files) c.requires.output_cert c.requires.log_cert c.requires.made w f c.in-Ok.ensures.whole c.conclude.ensures.concludes,
      rose_later (g.F.Files.write_faults c.args.files.now c.args.names.cert.now) (g.F.Files.write_faults c.leave.new.files c.args.names.cert.now) (g.F.Files.write_faults c.conclude.new.files c.args.names.cert.now) (c.in-Ok.ensures.later.write c.args.names.cert.now) (c.conclude.ensures.cause w),
    )))

pub returns-in-Err-clause-cause_at : goal.returns-in-Err-clause-cause_at
returns-in-Err-clause-cause_at g c = λ e f.
    both-at g.F.Files.write_faults (files_of c.args.names) (bytes_at c.args.reduced.now.memory log_name) (g.F.Files.held c.args.files.now) (g.F.Files.held c.leave.new.files) c.args.files.now c.leave.new.files
    (logged-all (files_of c.args.names) c.args.reduced.now (g.F.Files.held c.args.files.now) (g.F.Files.held c.leave.new.files) c.requires.output_cert c.requires.log_cert c.requires.made f)
    (c.in-Err.ensures.cause_at (failed-is c.unwritten.result c.in-Err.error c.unwritten.ensures e))
