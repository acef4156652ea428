use Rattle.std.proofs.Common.{◌≡◌, ◌+◌, ◌≤◌, ◌++◌, ◌∷◌, [], take, length, slice_get, Some, arith, sym, ap, subst, List}
use Rattle.std.proofs.lemmas.List.{length_push, take_all}
use Rattle.q_logic.proofs.Common.{taken}
use Rattle.q_certificate.proofs.LiteralRows.{literals-kept}
use Rattle.q_extract.specs.declared.said.Merge.{Merge}
use Rattle.q_extract.specs.Merges.{IsMerging, IsSaidBelow}
use Rattle.q_extract.proofs.Merged.{merging-start, merging-more}
use Rattle.q_extract.proofs.Walked.{get-is, take-none}
use Rattle.q_extract.proofs.merging.merge_nodes.Goals as goal

pub loop-merge-init : goal.loop-merge-init
loop-merge-init c = record {
  merging =
      subst (λ (ms : List Merge). IsMerging c.args.aig.now c.args.aig.now c.args.tables.now.inputs.items c.args.tables.now.circuits.items ms c.new-nodes.result.items) (sym (take-none c.args.merges.now))
      (merging-start c.args.aig.now c.args.tables.now.inputs.items c.args.tables.now.circuits.items c.new-nodes.result.items c.new-nodes.ensures.items);
  count = ap length c.new-nodes.ensures.items;
}

pub merge_node-requires-clause-inputs : goal.merge_node-requires-clause-inputs
merge_node-requires-clause-inputs c = literals-kept c.args.aig.now c.loop-merge.aig c.args.tables.now.inputs.items c.loop-merge.invariant.merging.grown.kept c.requires.inputs

pub merge_node-requires-clause-circuits : goal.merge_node-requires-clause-circuits
merge_node-requires-clause-circuits c = literals-kept c.args.aig.now c.loop-merge.aig c.args.tables.now.circuits.items c.loop-merge.invariant.merging.grown.kept c.requires.circuits

pub merge_node-requires-clause-nodes : goal.merge_node-requires-clause-nodes
merge_node-requires-clause-nodes c = rw c.deref.ensures.value c.loop-merge.invariant.merging.literals

pub merge_node-requires-clause-first : goal.merge_node-requires-clause-first
merge_node-requires-clause-first c =
    let at : slice_get c.args.merges.now c.loop-merge.merge-index ≡ Some c.merge-item.result = get-is c.args.merges.now c.loop-merge.merge-index c.merge-item.result c.loop-merge-test.true c.merge-item.is in
    rw c.deref.ensures.value (subst (λ n. IsSaidBelow n c.merge-item.result.first) (sym c.loop-merge.invariant.count) (c.requires.merges c.loop-merge.merge-index c.merge-item.result at).0)

pub merge_node-requires-clause-second : goal.merge_node-requires-clause-second
merge_node-requires-clause-second c =
    let at : slice_get c.args.merges.now c.loop-merge.merge-index ≡ Some c.merge-item.result = get-is c.args.merges.now c.loop-merge.merge-index c.merge-item.result c.loop-merge-test.true c.merge-item.is in
    rw c.deref.ensures.value (subst (λ n. IsSaidBelow n c.merge-item.result.second) (sym c.loop-merge.invariant.count) (c.requires.merges c.loop-merge.merge-index c.merge-item.result at).1)

pub loop-merge-preserved : goal.loop-merge-preserved
loop-merge-preserved c =
    let ms = c.args.merges.now in
    let i = c.loop-merge.merge-index in
    let m = c.merge-item.result in
    let e : take (i + 1) ms ≡ take i ms ++ m ∷ [] = taken ms i m c.loop-merge-test.true c.merge-item.is in
    record {
      merging = subst (λ (xs : List Merge). IsMerging c.args.aig.now c.merge_node.new.aig c.args.tables.now.inputs.items c.args.tables.now.circuits.items xs c.push.new.self.items) (sym e)
          (merging-more c.args.aig.now c.loop-merge.aig c.merge_node.new.aig c.args.tables.now.inputs.items c.args.tables.now.circuits.items (take i ms) m c.loop-merge.nodes.items c.push.new.self.items c.in_ok-lit.lit
          c.requires.inputs c.requires.circuits c.loop-merge.invariant.merging (rw c.deref.ensures.value at c.in_ok-lit.ensures) c.in_ok-push.ensures.items);
      count =
          let n : length c.loop-merge.nodes.items ≡ i = c.loop-merge.invariant.count in
          let l = length_push c.loop-merge.nodes.items c.in_ok-lit.lit in
          let p : length c.push.new.self.items ≡ length (c.loop-merge.nodes.items ++ c.in_ok-lit.lit ∷ []) = ap length c.in_ok-push.ensures.items in
          omega arith;
    }

pub returns : goal.returns
returns c =
    let le : length c.args.merges.now ≤ c.loop-merge.merge-index = c.loop-merge-test.false in
    subst (λ (ms : List Merge). IsMerging c.args.aig.now c.loop-merge.aig c.args.tables.now.inputs.items c.args.tables.now.circuits.items ms c.loop-merge.nodes.items)
    (take_all c.loop-merge.merge-index c.args.merges.now le) c.loop-merge.invariant.merging
