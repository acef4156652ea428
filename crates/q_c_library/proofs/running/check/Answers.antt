use Rattle.std.proofs.Common.{ap, ◌∙◌, map, string_bytes}
use Rattle.std.proofs.lemmas.Result.{IfOk-weaker}
use Rattle.q_c_library.specs.Calls.{HoldsThree}
use Rattle.q_c_library.proofs.CommandFiles.{over}
use Rattle.q_c_library.proofs.running.check.Goals as goal

pub returns : goal.returns
returns c =
    IfOk-weaker c.command.result _ _
    (λ left h. over _ _ (λ disk. HoldsThree disk c.args.input.now c.args.output.now c.args.log.now) c.in_ok-files.files left.status left.files left.line (ap (λ ws. map (λ w. string_bytes w) ws) c.deref.ensures.value ∙ c.in_ok-words.ensures) c.in_ok-files.ensures h)
    c.command.ensures
