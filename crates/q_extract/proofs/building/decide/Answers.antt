use Rattle.std.proofs.Common.{◌≡◌, subst, slice_get, Some, refl}
use Rattle.q_extract.specs.Saying.{said_in}
use Rattle.q_extract.specs.Merges.{merge_circuits}
use Rattle.q_extract.specs.Rows.{IsLast, fall_value, guards_in}
use Rattle.q_extract.proofs.Merged.{nodes-kept, value-var}
use Rattle.q_extract.proofs.Walked.{get-is, last-below, last-var, part-more, part-end, ended}
use Rattle.q_extract.proofs.building.decide.Goals as goal

pub make-requires-clause-guard : goal.make-requires-clause-guard
make-requires-clause-guard c =
    let row = c.args.drops.now.row.items in
    let lt = last-below row c.args.var c.loop-at.end c.loop-at.at c.in-Some.place c.loop-at.invariant.last c.in-Some.is in
    c.requires.drops.within c.in-Some.place c.index-fall.result.now (get-is row c.in-Some.place c.index-fall.result.now lt c.index-fall.ensures)

pub make-requires-clause-nodes : goal.make-requires-clause-nodes
make-requires-clause-nodes c =
    nodes-kept c.args.aig.now c.loop-at.aig (merge_circuits c.args.drops.now.merges.items) c.args.nodes.now c.loop-at.invariant.part.grown.kept c.requires.nodes

pub loop-at-preserved : goal.loop-at-preserved
loop-at-preserved c =
    let row = c.args.drops.now.row.items in
    let guards = guards_in c.args.drops.now in
    let v = fall_value (merge_circuits c.args.drops.now.merges.items) (said_in c.args.drops.now.said) in
    let lt = last-below row c.args.var c.loop-at.end c.loop-at.at c.in-Some.place c.loop-at.invariant.last c.in-Some.is in
    let at : slice_get row c.in-Some.place ≡ Some c.index-fall.result.now = get-is row c.in-Some.place c.index-fall.result.now lt c.index-fall.ensures in
    let x = last-var row c.args.var c.loop-at.end c.loop-at.at c.in-Some.place c.index-fall.result.now c.loop-at.invariant.last c.in-Some.is at in
    record {
      part = part-more c.args.aig.now c.loop-at.aig c.make.new.aig c.args.tables.now.inputs.items c.args.tables.now.circuits.items c.args.held.now.items c.loop-at.held.items c.make.new.held.items c.args.var v guards row c.loop-at.end c.in-Some.place c.loop-at.circuit c.in_ok-circuit.circuit c.index-fall.result.now
          (λ g. value-var (merge_circuits c.args.drops.now.merges.items) (said_in c.args.drops.now.said g.guard) g.lit) c.requires.inputs c.requires.circuits c.loop-at.invariant.part (subst (IsLast row c.args.var c.loop-at.end) c.in-Some.is c.loop-at.invariant.last) at c.in_ok-circuit.ensures;
      last = subst (λ y. IsLast row y c.in-Some.place c.index-fall.result.now.before) x (c.requires.drops.chained.links c.in-Some.place c.index-fall.result.now at);
    }

pub returns : goal.returns
returns c =
    let row = c.args.drops.now.row.items in
    let v = fall_value (merge_circuits c.args.drops.now.merges.items) (said_in c.args.drops.now.said) in
    part-end c.args.aig.now c.loop-at.aig c.args.tables.now.inputs.items c.args.tables.now.circuits.items c.args.held.now.items c.loop-at.held.items c.args.var v (guards_in c.args.drops.now) row _ c.loop-at.end c.loop-at.circuit
    (λ g. value-var (merge_circuits c.args.drops.now.merges.items) (said_in c.args.drops.now.said g.guard) g.lit) refl c.loop-at.invariant.part (subst (IsLast row c.args.var c.loop-at.end) (ended c.loop-at.at c.in_default.not-Some) c.loop-at.invariant.last)
