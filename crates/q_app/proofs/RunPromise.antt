-- What a run promises, by what its commands do.
use Rattle.std.proofs.Common.{◌≡◌, ◌≤◌, ◌∙◌, sym, subst, List, [], ◌∷◌, Option, Some, None}
use Rattle.std.proofs.lemmas.Option.{IfSome_then}
use Rattle.q_simplify.specs.declared.options.Options.{Options}
use Rattle.q_command.specs.Names.{ThreeNames, three_of}
use Rattle.q_command.specs.declared.status.Status.{Status}
use Rattle.q_app.specs.declared.words.Command.{Command as Parsed}
use Rattle.q_app.specs.declared.words.Command.TheVariants.{Simplify, Demo}
use Rattle.q_app.specs.declared.words.Scale.{Scale}
use Rattle.q_app.specs.Operands.{Differ}
use Rattle.q_app.specs.Words.{Command, simplifying, demo, Request}
use Rattle.q_app.specs.Commands.{IsFit, commands_of}
use Rattle.q_command.specs.Devices.{Devices}
use Rattle.q_command.specs.Told.{Runs}
use Rattle.q_app.specs.Told.{told}
use Rattle.q_app.specs.Says.{InTurn}
use Rattle.q_app.specs.Promises.{SimplifyEnds, AnswerComes, DemoPasses}
use Rattle.q_app.proofs.VerifiedFiles.{AreReread}
use Rattle.q_app.proofs.ThreeCommands.{simplified}
use Rattle.q_app.proofs.FaultFree.{completes}
use Rattle.q_app.proofs.DemoPasses.{AreGenerated, demo-completes}

-- the only command of a request
the-command : (cs : List Command) (c : Command) (before : Devices) (given : Status) (after : Devices) → cs ≡ c ∷ [] → InTurn cs before given after → Runs (told c) before given after
the-command cs c before given after e h = subst (λ (ds : List Command). InTurn ds before given after) e h

requested : (r : Option (List Command)) (cs ds : List Command) → r ≡ Some cs → r ≡ Some ds → cs ≡ ds
requested r cs ds e f = let w : Some cs ≡ Some ds = sym e ∙ f in cc

-- the names of a simplification differ
pub differ-in : (k : Parsed) (n : ThreeNames) (o : Options) → IsFit k → commands_of k ≡ simplifying n o ∷ [] → Differ n
differ-in (Simplify m p) n o f e = let w : three_of m ≡ n = cc in subst (λ (x : ThreeNames). Differ x) w f
differ-in k n o f e = cc

pub simplify-ends : AreReread → (k : Parsed) (r : Request) (before : Devices) (given : Status) (after : Devices) → IsFit k → r ≡ Some (commands_of k) → InTurn (commands_of k) before given after → SimplifyEnds r before given after
simplify-ends reread k r before given after f e h n o w =
    let same : commands_of k ≡ simplifying n o ∷ [] = requested r (commands_of k) (simplifying n o ∷ []) e w in
    let d : Differ n = differ-in k n o f same in
    IfSome_then before.held (the-command (commands_of k) (simplifying n o) before given after same h).gives
    (λ disk g. simplified reread given o n.input n.output n.log disk after.held d.input_output d.input_log g)

pub answer-comes : (k : Parsed) (r : Request) (before : Devices) (given : Status) (after : Devices) → r ≡ Some (commands_of k) → InTurn (commands_of k) before given after → AnswerComes r before given after
answer-comes k r before given after e h c w =
    completes c before given after (the-command (commands_of k) c before given after (requested r (commands_of k) (c ∷ []) e w) h)

-- the scale of a demo is small, and its names differ
demo-in : (p : Parsed) (k : Scale) (n : ThreeNames) → IsFit p → commands_of p ≡ demo k n → (k.size ≤ 100000) × Differ n
demo-in (Demo j m) k n f e =
    let v : j ≡ k = cc in
    let w : three_of m ≡ n = cc in
    (subst (λ (x : Scale). x.size ≤ 100000) v f.0, subst (λ (x : ThreeNames). Differ x) w f.1)
demo-in p k n f e = cc

pub demo-passes : AreReread → AreGenerated → (p : Parsed) (r : Request) (before : Devices) (given : Status) (after : Devices) → IsFit p → r ≡ Some (commands_of p) → InTurn (commands_of p) before given after → DemoPasses r before given after
demo-passes reread made p r before given after f e h k n w =
    let same : commands_of p ≡ demo k n = requested r (commands_of p) (demo k n) e w in
    let d : (k.size ≤ 100000) × Differ n = demo-in p k n f same in
    demo-completes reread made k n before given after d.0 d.1 (subst (λ (cs : List Command). InTurn cs before given after) same h)

-- where the words ask for nothing, nothing is promised
pub nothing-asked : (r : Request) (cs : List Command) → None ≡ r → r ≡ Some cs → ⊥
nothing-asked r cs e f = let w : None ≡ Some cs = e ∙ f in cc
