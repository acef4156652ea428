use Rattle.std.proofs.Common.{subst, sym}
use Rattle.q_logic.specs.Prelude.{CertificateView, trees_of, Lawful}
use Rattle.q_rebuild.specs.Moves.{KeepsMoves}
use Rattle.q_rebuild.specs.Rebuilt.{IsRebuilt}
use Rattle.q_rebuild.specs.Refusals.{IsAccepted}
use Rattle.q_rebuild.proofs.whole.rebuild.Goals as goal

pub returns-clause-rebuilt : goal.returns-clause-rebuilt
returns-clause-rebuilt c =
    let same = c.in_ok-test.ensures.unchanged in
    let run = c.requires in
    let accepted : IsAccepted c.args.output.now c.test.new.given = subst (λ (g : CertificateView). IsAccepted c.args.output.now g) (sym same) c.in_ok-test.ensures.accepted in
    subst (λ (g : CertificateView). IsRebuilt c.args.input.now c.args.output.now c.args.undo.now g c.in_ok-made.made) same
    (c.in_ok-made.ensures c.args.output.now run.0 run.1 run.2 (c.fitting_circuits_are_lawful.ensures.lawful c.args.output.now.prefix accepted.fits))

pub returns-clause-moves : goal.returns-clause-moves
returns-clause-moves c =
    let same = c.in_ok-test.ensures.unchanged in
    let run = c.requires in
    let accepted : IsAccepted c.args.output.now c.test.new.given = subst (λ (g : CertificateView). IsAccepted c.args.output.now g) (sym same) c.in_ok-test.ensures.accepted in
    let lawful : Lawful c.args.output.now.prefix (trees_of c.test.new.given) = c.fitting_circuits_are_lawful.ensures.lawful c.args.output.now.prefix accepted.fits in
    let rebuilt : IsRebuilt c.args.input.now c.args.output.now c.args.undo.now c.test.new.given c.in_ok-made.made =
    c.in_ok-made.ensures c.args.output.now run.0 run.1 run.2 lawful in
    subst (λ (g : CertificateView). KeepsMoves c.args.input.now c.args.output.now c.args.undo.now g c.in_ok-made.made) same
    (c.keeping.ensures run.0 c.args.undo.now c.test.new.given c.in_ok-made.made run.1 run.2 lawful rebuilt)
