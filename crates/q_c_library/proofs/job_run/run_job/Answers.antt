use Rattle.std.proofs.Common.{ap, ◌∙◌, map, string_bytes}
use Rattle.q_c_library.specs.Jobs.{HoldsGiven}
use Rattle.q_c_library.proofs.CommandFiles.{over}
use Rattle.q_c_library.proofs.job_run.run_job.Goals as goal

pub returns-in-Ok-command_listed-clause-ran : goal.returns-in-Ok-command_listed-clause-ran
returns-in-Ok-command_listed-clause-ran c =
    over _ _ (λ disk. HoldsGiven c.args.words.now disk) c.in-Ok.job.files c.in-Ok-command_listed.left.status c.in-Ok-command_listed.left.files c.in-Ok-command_listed.left.line (ap (λ ws. map (λ w. string_bytes w) ws) c.deref.ensures.value ∙ c.in-Ok.ensures.words) c.in-Ok.ensures.files c.in-Ok-command_listed.ensures
