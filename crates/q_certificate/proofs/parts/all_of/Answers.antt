use Rattle.std.proofs.Common.{◌≡◌, ◌+◌, ◌++◌, ◌∷◌, [], take, sym, subst, List, inl}
use Rattle.q_logic.specs.Prelude.{Clause}
use Rattle.q_logic.proofs.Common.{take-slice_get}
use Rattle.q_certificate.specs.Growing.{IsAllOf}
use Rattle.q_certificate.proofs.CircuitParts.{all-more}
use Rattle.q_certificate.proofs.parts.all_of.Goals as goal

pub loop-i-preserved : goal.loop-i-preserved
loop-i-preserved c =
    let e : take (c.loop-i.i + 1) c.args.outer.now ≡ take c.loop-i.i c.args.outer.now ++ c.clause.result.now ∷ [] = take-slice_get c.args.outer.now c.loop-i.i c.clause.result.now c.clause.ensures in
    subst (λ (Os : List Clause). IsAllOf c.args.aig.now c.and.new.self c.args.tables.now.inputs.items c.args.tables.now.circuits.items Os c.in_ok-all.all) (sym e)
    (all-more c.args.aig.now c.loop-i.aig c.some_of.new.aig c.and.new.self c.args.tables.now.inputs.items c.args.tables.now.circuits.items (take c.loop-i.i c.args.outer.now) c.clause.result.now c.loop-i.all c.in_ok-some.some c.in_ok-all.all c.requires.inputs c.requires.circuits c.loop-i.invariant c.in_ok-some.ensures c.in_ok-all.ensures.conjunction (λ h. c.in_ok-all.ensures.folded (inl h)))
