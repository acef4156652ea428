use Rattle.std.proofs.Common.{◌≡◌, ◌∙◌, ◌∷◌, [], refl, sym, ap, false, None}
use Rattle.q_sched.specs.Alarms.{AlarmView}
use Rattle.q_command.specs.Devices.{devices}
use Rattle.q_command.specs.Told.{Runs}
use Rattle.q_app.specs.Simplifying.{told_stopped}
use Rattle.q_app.specs.Told.{told}
use Rattle.q_app.specs.Words.{checking, simplifying, generating, options_of, nothing_set}
use Rattle.q_command.specs.Names.{three_of}
use Rattle.q_app.proofs.CommandSequence.{later-still, stops, goes_on, options-same}
use Rattle.q_sched.proofs.AlarmTurns.{unless-silent}
use Rattle.q_app.proofs.top.run_demo.Goals as goal

pub returns-then-not-passes : goal.returns-then-not-passes
returns-then-not-passes g c =
    stops (generating c.args.asked.scale c.args.asked.names.input.now) (simplifying (three_of c.args.asked.names) (options_of nothing_set)) (checking (three_of c.args.asked.names) ∷ []) _ _ _ c.run_generate-made.ensures.runs c.run_generate-made.ensures.later (sym c.passes.ensures ∙ c.if-not-passes.true)

pub returns-then-not-passes-2 : goal.returns-then-not-passes-2
returns-then-not-passes-2 g c =
    let never : AlarmView = record { asked = 0; rang = 0; limit = None; is_plain = false } in
    let n = three_of c.args.asked.names in
    let mid = devices g.F.Files g.S.Sink c.run_generate-made.new.files c.run_generate-made.new.out in
    let end = devices g.F.Files g.S.Sink c.run_simplify-simplified.new.files c.run_simplify-simplified.new.out in
    let did : Runs (told (simplifying n c.options-options.result)) mid c.run_simplify-simplified.result end =
    unless-silent (Runs (told (simplifying n c.options-options.result)) mid c.run_simplify-simplified.result end) (Runs (told_stopped n c.options-options.result) mid c.run_simplify-simplified.result end) never never refl refl c.run_simplify-simplified.ensures.runs in
    let options : c.options-options.result ≡ options_of nothing_set = c.options-options.ensures ∙ ap options_of c.none.ensures in
    goes_on (generating c.args.asked.scale c.args.asked.names.input.now) (simplifying (three_of c.args.asked.names) (options_of nothing_set)) (checking (three_of c.args.asked.names) ∷ []) _ _ _ _ _ c.run_generate-made.ensures.runs c.run_generate-made.ensures.later c.run_simplify-simplified.ensures.later (sym c.passes.ensures ∙ c.if-not-passes.false)
    (stops (simplifying (three_of c.args.asked.names) (options_of nothing_set)) (checking (three_of c.args.asked.names)) [] _ _ _ (options-same n _ _ mid end _ options did) c.run_simplify-simplified.ensures.later (sym c.passes-2.ensures ∙ c.if-not-passes-2.true))

pub returns : goal.returns
returns g c =
    let never : AlarmView = record { asked = 0; rang = 0; limit = None; is_plain = false } in
    let n = three_of c.args.asked.names in
    let mid = devices g.F.Files g.S.Sink c.run_generate-made.new.files c.run_generate-made.new.out in
    let end = devices g.F.Files g.S.Sink c.run_simplify-simplified.new.files c.run_simplify-simplified.new.out in
    let did : Runs (told (simplifying n c.options-options.result)) mid c.run_simplify-simplified.result end =
    unless-silent (Runs (told (simplifying n c.options-options.result)) mid c.run_simplify-simplified.result end) (Runs (told_stopped n c.options-options.result) mid c.run_simplify-simplified.result end) never never refl refl c.run_simplify-simplified.ensures.runs in
    let options : c.options-options.result ≡ options_of nothing_set = c.options-options.ensures ∙ ap options_of c.none.ensures in
    goes_on (generating c.args.asked.scale c.args.asked.names.input.now) (simplifying (three_of c.args.asked.names) (options_of nothing_set)) (checking (three_of c.args.asked.names) ∷ []) _ _ _ _ _ c.run_generate-made.ensures.runs c.run_generate-made.ensures.later (later-still _ _ _ c.run_simplify-simplified.ensures.later c.run_check.ensures.later) (sym c.passes.ensures ∙ c.if-not-passes.false)
    (goes_on (simplifying (three_of c.args.asked.names) (options_of nothing_set)) (checking (three_of c.args.asked.names)) [] _ _ _ _ _ (options-same n _ _ mid end _ options did) c.run_simplify-simplified.ensures.later c.run_check.ensures.later (sym c.passes-2.ensures ∙ c.if-not-passes-2.false) c.run_check.ensures.runs)
