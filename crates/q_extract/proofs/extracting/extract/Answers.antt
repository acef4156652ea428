use Rattle.std.proofs.Common.{◌<◌, ◌≤◌, ◌∙◌, get_or, length, refl, sym, subst, List, ℕ, Option}
use Rattle.std.proofs.lemmas.List.{take_more}
use Rattle.q_logic.specs.Prelude.{is_universal}
use Rattle.q_logic.specs.declared.formulas.Bound.{Bound}
use Rattle.q_logic.specs.declared.formulas.Quant.TheVariants.{Exists}
use Rattle.q_certificate.specs.Prelude.{IsNamed}
use Rattle.q_extract.specs.Merges.{merge_circuits}
use Rattle.q_extract.specs.Rows.{guards_in, drops_in}
use Rattle.q_extract.specs.Built.{IsNoneHeld}
use Rattle.q_extract.proofs.Merged.{merging-nodes, nodes-kept}
use Rattle.q_extract.proofs.Chained.{guards-many}
use Rattle.q_extract.proofs.Walked.{any-default}
use Rattle.q_extract.proofs.Entered.{base-is, opened-at, built-start, built-more, extracted, extracted-shared}
use Rattle.q_extract.proofs.extracting.extract.Goals as goal

pub loop-i-init : goal.loop-i-init
loop-i-init c =
    let P = c.args.prefix.now in
    let ms = c.args.drops.now.merges.items in
    let opened = c.in_ok-inputs.ensures in
    let base = base-is P c.open_inputs.new.aig c.merge_nodes.new.aig c.in_ok-inputs.inputs.items (length ms) opened (rw c.deref.ensures.value at c.in_ok-nodes.ensures.grown) in
    let none = subst (λ n. IsNoneHeld n c.in_ok-held.held.items) (c.len.ensures ∙ sym (guards-many c.args.drops.now)) c.in_ok-held.ensures in
    record {
      same = refl;
      none = none;
      base = base;
      nodes = merging-nodes c.open_inputs.new.aig c.merge_nodes.new.aig c.in_ok-inputs.inputs.items _ ms c.in_ok-nodes.nodes.items (is_universal P)
          (opened-at P c.open_inputs.new.aig c.in_ok-inputs.inputs.items _ opened c.new.ensures) c.requires.pivots (rw c.deref.ensures.value at c.in_ok-nodes.ensures);
      built = built-start P (guards_in c.args.drops.now) (drops_in c.args.drops.now) c.merge_nodes.new.aig c.in_ok-inputs.inputs.items _ c.in_ok-held.held.items (length ms) c.new.ensures base none;
    }

pub enter-requires-clause-nodes : goal.enter-requires-clause-nodes
enter-requires-clause-nodes c =
    let ms = c.args.drops.now.merges.items in
    rw c.deref-in-loop-i.ensures.value (nodes-kept c.merge_nodes.new.aig c.loop-i.aig (merge_circuits ms) c.in_ok-nodes.nodes.items c.loop-i.invariant.built.grown.kept c.loop-i.invariant.nodes)

pub loop-i-preserved : goal.loop-i-preserved
loop-i-preserved c =
    let P = c.args.prefix.now in
    let lt : c.loop-i.i < length P = c.loop-i-test.true in
    let none : Bound = record { quant = Exists; var = 0 } in
    let b : Bound = get_or P c.loop-i.i none in
    record {
      same = c.in_ok-enter.ensures.inputs ∙ c.loop-i.invariant.same;
      none = c.loop-i.invariant.none;
      base = c.loop-i.invariant.base;
      nodes = c.loop-i.invariant.nodes;
      built = built-more P (guards_in c.args.drops.now) (drops_in c.args.drops.now) c.loop-i.i b c.merge_nodes.new.aig c.loop-i.aig c.enter.new.aig c.in_ok-inputs.inputs.items c.loop-i.tables.circuits.items c.enter.new.tables.circuits.items c.in_ok-held.held.items c.loop-i.held.items c.enter.new.held.items
          c.requires.distinct c.requires.behind lt (any-default P c.loop-i.i none b lt) (take_more P c.loop-i.i none lt) c.loop-i.invariant.built
          (rw c.loop-i.invariant.same at c.in_ok-enter.ensures.next);
    }

pub returns-clause-extracted : goal.returns-clause-extracted
returns-clause-extracted c =
    let P = c.args.prefix.now in
    let le : length P ≤ c.loop-i.i = c.loop-i-test.false in
    extracted P (guards_in c.args.drops.now) (drops_in c.args.drops.now) c.merge_nodes.new.aig c.loop-i.aig c.in_ok-made.made c.in_ok-inputs.inputs.items c.loop-i.tables.circuits.items c.in_ok-held.held.items c.loop-i.held.items c.loop-i.i (length c.args.drops.now.merges.items) c.requires.distinct c.requires.behind c.loop-i.invariant.base le c.loop-i.invariant.built
    c.in_ok-made.ensures

pub returns-clause-shared : goal.returns-clause-shared
returns-clause-shared c =
    let P = c.args.prefix.now in
    let le : length P ≤ c.loop-i.i = c.loop-i-test.false in
    extracted-shared P (guards_in c.args.drops.now) (drops_in c.args.drops.now) c.merge_nodes.new.aig c.loop-i.aig c.in_ok-made.made c.in_ok-inputs.inputs.items c.loop-i.tables.circuits.items c.in_ok-held.held.items c.loop-i.held.items c.loop-i.i (length c.args.drops.now.merges.items) c.requires.distinct c.loop-i.invariant.base le c.loop-i.invariant.built
    c.in_ok-made.ensures c.loop-i.invariant.none
