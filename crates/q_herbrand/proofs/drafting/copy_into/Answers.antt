use Rattle.std.proofs.Common.{subst, length}
use Rattle.q_aig.specs.Prelude.{Net, net_of}
use Rattle.q_certificate.specs.Prelude.{AreMarked, AreCopied, ArePlaced}
use Rattle.q_herbrand.specs.Drafted.{AreMerged}
use Rattle.q_herbrand.proofs.FirstDraft.{copied-into}
use Rattle.q_herbrand.proofs.drafting.copy_into.Goals as goal

pub returns : goal.returns
returns c =
    let e = c.aig-old.ensures in
    let marked : AreMarked c.args.given.now.gates c.outputs-outputs.result.now c.in_ok-marks.marks.items =
    subst (λ (n : Net). AreMarked n.gates c.outputs-outputs.result.now c.in_ok-marks.marks.items) e
    c.in_ok-marks.ensures.marked in
    let copied = rw (c.deref.ensures.value) at c.in_ok-gates.ensures in
    let copied2 : AreCopied (net_of c.args.given.now) c.in_ok-marks.marks.items c.args.inputs.now.items c.args.aig.now
    c.copy_gates.new.aig c.in_ok-gates.gates.items (length c.args.given.now.gates) =
    subst (λ (n : Net). AreCopied n c.in_ok-marks.marks.items c.args.inputs.now.items c.args.aig.now
    c.copy_gates.new.aig c.in_ok-gates.gates.items (length n.gates)) e copied in
    let placed = rw (c.deref-2.ensures.value) at c.in_ok-circuits.ensures in
    let placed2 : ArePlaced (net_of c.args.given.now) c.args.inputs.now.items c.in_ok-gates.gates.items
    c.outputs-outputs.result.now c.outputs-outputs.result.now c.in_ok-circuits.circuits.items =
    subst (λ (n : Net). ArePlaced n c.args.inputs.now.items c.in_ok-gates.gates.items
    c.outputs-outputs.result.now c.outputs-outputs.result.now c.in_ok-circuits.circuits.items) e placed in
    let merged : AreMerged c.in_ok-circuits.circuits.items c.args.inputs.now.items c.in_ok-row.row.items =
    c.in_ok-row.ensures in
    copied-into c.args.aig.now c.copy_gates.new.aig c.args.inputs.now.items c.in_ok-circuits.circuits.items
    c.in_ok-row.row.items c.args.given.now c.outputs-outputs.result.now c.in_ok-marks.marks.items
    c.in_ok-gates.gates.items c.requires.inputs c.outputs-outputs.ensures.value c.outputs-outputs.ensures.lawful marked
    copied2 placed2 merged
