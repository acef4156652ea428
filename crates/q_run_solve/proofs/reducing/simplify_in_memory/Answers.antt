use Rattle.std.proofs.Common.{◌++◌, List, ap, ◌∙◌, refl, ℕ, false, Some, None}
use Rattle.q_dimacs.specs.Writing.{formula_text}
use Rattle.q_sched.specs.Alarms.{AlarmView}
use Rattle.q_simplify.specs.Results.{Simplifies, SimplifiesPart}
use Rattle.q_sched.proofs.AlarmTurns.{unless-silent}
use Rattle.q_run_solve.specs.Reduces.{out_name, log_name}
use Rattle.q_run_solve.proofs.SolveParts.{simplified-in}
use Rattle.q_run_solve.proofs.reducing.simplify_in_memory.Goals as goal

pub returns-in-Ok : goal.returns-in-Ok
returns-in-Ok g c =
    let never : AlarmView = record { asked = 0; rang = 0; limit = None; is_plain = false } in
    simplified-in c.args.formula c.put_file.new.self c.simplify.new.files c.in-Ok.field-0
    (c.in_ok-put_file.ensures.stored ∙ ap Some (c.deref.ensures.value ∙ c.in_ok-write.ensures.ok ∙ ap (λ (xs : List ℕ). xs ++ formula_text c.args.formula) c.new-text.ensures.items))
    c.usual.ensures (unless-silent (Simplifies _ c.args.formula c.in-Ok.field-0 out_name log_name c.put_file.new.self (Some c.simplify.new.files)) (SimplifiesPart _ c.args.formula c.in-Ok.field-0 out_name log_name c.put_file.new.self (Some c.simplify.new.files)) never never refl refl c.in-Ok.ensures.report)
