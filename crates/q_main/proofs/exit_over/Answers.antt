use Rattle.std.proofs.Common.{◌≡◌, drop, refl, inl, ℕ, List, [], ◌∷◌, ◌∙◌, ap, subst}
use Rattle.std.specs.Process.{exit_status}
use Rattle.std.specs.declared.alloc.Global.{Global}
use Rattle.std.specs.declared.string.String.{String}
use Rattle.q_app.specs.Operands.{texts}
use Rattle.q_command.specs.Devices.{devices}
use Rattle.q_sched.specs.AlarmViews.{view_alarm}
use Rattle.q_main.specs.Exits.{DoesWith}
use Rattle.q_main.proofs.exit_over.Goals as goal

texts-behind : (xs : List (String Global)) → texts (drop 1 xs) ≡ drop 1 (texts xs)
texts-behind [] = refl
texts-behind (x ∷ xs) = refl

pub returns-in-Ok : goal.returns-in-Ok
returns-in-Ok g c =
    let e : texts c.words.result.now ≡ drop 1 (texts c.args.arguments.now) = ap texts c.words.ensures ∙ texts-behind c.args.arguments.now in
    inl (subst (λ (ws : List (List ℕ)). DoesWith ws (view_alarm g.A.Alarm c.args.alarm.now) (view_alarm g.A.Alarm c.run_guided.new.alarm) (devices g.F.Files g.S.Sink c.args.files.now c.args.out.now) (exit_status c.exit_of.result) (devices g.F.Files g.S.Sink c.run_guided.new.files c.run_guided.new.out)) e
    (record { given = c.in-Ok.status; keeps = c.in-Ok.ensures.keeps; alarm = c.in-Ok.ensures.alarm; code_is = c.exit_of.ensures }))
