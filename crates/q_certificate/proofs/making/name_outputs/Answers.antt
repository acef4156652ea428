use Rattle.std.proofs.Common.{◌≡◌, ◌+◌, ◌++◌, ◌∷◌, [], get_or, take, sym, subst}
use Rattle.std.proofs.lemmas.List.{take_more}
use Rattle.q_logic.specs.Prelude.{Prefix}
use Rattle.q_certificate.specs.Made.{IsNamed}
use Rattle.q_certificate.proofs.PrefixInputs.{no_bound, name-new, named-there, named-forall, named-exists, looked-up}
use Rattle.q_certificate.proofs.making.name_outputs.Goals.{in-Forall, in-Exists+in_ok-name-in-Exists}
use Rattle.q_certificate.proofs.making.name_outputs.Goals as goal

pub name-requires-clause-var : goal.name-requires-clause-var
name-requires-clause-var c = name-new c.args.aig c.loop-bound.certificate c.args.circuits.now.items c.args.prefix.now c.loop-bound.bound-index c.requires.distinct c.loop-bound-test.true c.loop-bound.invariant

pub name-requires-clause-lit : goal.name-requires-clause-lit
name-requires-clause-lit c = named-there c.args.aig c.loop-bound.certificate c.args.circuits.now.items (take c.loop-bound.bound-index c.args.prefix.now) (get_or c.args.prefix.now c.loop-bound.bound-index no_bound).var c.unwrap_or-lit.result c.loop-bound.invariant c.requires.literals (looked-up c.look.result _ c.unwrap_or-lit.result c.unwrap_or-lit.ensures c.look.ensures)

pub loop-bound-preserved : goal.loop-bound-preserved
loop-bound-preserved c =
    let e : take (c.loop-bound.bound-index + 1) c.args.prefix.now ≡ take c.loop-bound.bound-index c.args.prefix.now ++ get_or c.args.prefix.now c.loop-bound.bound-index no_bound ∷ [] = take_more c.args.prefix.now c.loop-bound.bound-index no_bound c.loop-bound-test.true in
    subst (λ (P : Prefix). IsNamed c.args.aig c.match-bound.certificate c.args.circuits.now.items P) (sym e) (elim c.match-bound.branch [
      | in-Forall w ↦
          rw (w.certificate-is) (named-forall c.args.aig c.loop-bound.certificate c.args.circuits.now.items (take c.loop-bound.bound-index c.args.prefix.now) (get_or c.args.prefix.now c.loop-bound.bound-index no_bound) w.in-Forall.is c.loop-bound.invariant)
      | in-Exists+in_ok-name-in-Exists w ↦
          rw (w.certificate-is) (named-exists c.args.aig c.loop-bound.certificate w.name.new.self c.args.circuits.now.items (take c.loop-bound.bound-index c.args.prefix.now) (get_or c.args.prefix.now c.loop-bound.bound-index no_bound) w.unwrap_or-lit.result w.in-Exists.is c.loop-bound.invariant (looked-up w.look.result _ w.unwrap_or-lit.result w.unwrap_or-lit.ensures w.look.ensures) w.in_ok-name-in-Exists.ensures.inputs w.in_ok-name-in-Exists.ensures.gates w.in_ok-name-in-Exists.ensures.outputs)
    ])
