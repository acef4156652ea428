use Rattle.std.proofs.Common.{◌≡◌, ◌∙◌, ◌++◌, ap, subst, refl, List, ℕ, Err}
use Rattle.q_command.specs.declared.status.Status.TheVariants as status
use Rattle.q_cnf.specs.Cnf.{cnf_text}
use Rattle.q_run_miter.specs.MiteredLines.{status_of_mitered}
use Rattle.q_run_miter.specs.declared.mitered.Mitered.{Mitered}
use Rattle.q_run_miter.proofs.MiterOutcome.{put-nothing, put-whole, put-part, write-fault, write-not_read}
use Rattle.q_run_miter.proofs.mitering.write_miter.Goals as goal

pub returns-in_default-clause-puts : goal.returns-in_default-clause-puts
returns-in_default-clause-puts g c = put-nothing (g.F.Files.held c.args.files.now) (g.F.Files.held c.args.files.now) c.args.clauses.now c.args.output.now refl

pub returns-in-Ok-write_whole-clause-puts : goal.returns-in-Ok-write_whole-clause-puts
returns-in-Ok-write_whole-clause-puts g c =
    let text : c.deref.result.now ≡ cnf_text c.args.clauses.now =
    c.deref.ensures.value ∙ c.in-Ok.ensures.ok ∙ ap (λ (xs : List ℕ). xs ++ cnf_text c.args.clauses.now) c.new-text.ensures.items in
    put-whole (g.F.Files.held c.args.files.now) (g.F.Files.held c.write_whole.new.files) c.len.result c.args.clauses.now c.args.output.now c.deref.result.now
    c.len.ensures c.in-Ok.ensures.variables text c.in-Ok-write_whole.ensures.whole

pub returns-clause-puts : goal.returns-clause-puts
returns-clause-puts g c =
    let text : c.deref.result.now ≡ cnf_text c.args.clauses.now =
    c.deref.ensures.value ∙ c.in-Ok.ensures.ok ∙ ap (λ (xs : List ℕ). xs ++ cnf_text c.args.clauses.now) c.new-text.ensures.items in
    put-part (g.F.Files.held c.args.files.now) (g.F.Files.held c.write_whole.new.files) c.in-Err.error c.unwritten.result c.args.clauses.now c.args.output.now c.deref.result.now
    c.unwritten.ensures text c.in-Err.ensures.part

pub returns-clause-cause : goal.returns-clause-cause
returns-clause-cause g c e =
    c.in-Err.ensures.cause (ap Err (write-fault c.in-Err.error (subst (λ (o : Mitered). status_of_mitered o ≡ status.WriteFault) c.unwritten.ensures e)))

pub returns-clause-reading : goal.returns-clause-reading
returns-clause-reading g c e = write-not_read c.in-Err.error (subst (λ (o : Mitered). status_of_mitered o ≡ status.ReadFault) c.unwritten.ensures e)
