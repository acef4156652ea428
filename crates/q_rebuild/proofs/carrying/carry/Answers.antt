use Rattle.std.proofs.Common.{subst, length}
use Rattle.q_aig.specs.Prelude.{Net, net_of}
use Rattle.q_certificate.specs.Prelude.{AreMarked, AreCopied, ArePlaced, IsOpened, IsNamed}
use Rattle.q_certificate.proofs.LiteralRows.{literals-kept}
use Rattle.q_rebuild.proofs.RebuiltCircuits.{rebuilt}
use Rattle.q_rebuild.proofs.carrying.carry.Goals as goal

pub take_back-requires-clause-circuits : goal.take_back-requires-clause-circuits
take_back-requires-clause-circuits c =
    let copied = rw (c.deref.ensures.value) at c.in_ok-row.ensures in
    let placed = rw (c.deref-2.ensures.value) at c.in_ok-circuits.ensures in
    placed.literals c.copy_gates.new.aig (literals-kept c.open_inputs.new.aig c.copy_gates.new.aig c.in_ok-inputs.inputs.items copied.grown.kept c.in_ok-inputs.ensures.literals) copied.there

pub returns : goal.returns
returns c = λ G ss run undos lawful.
    let old : Net = net_of c.args.given.now in
    let e = c.aig-old.ensures in
    let opened : IsOpened c.open_inputs.new.aig c.in_ok-inputs.inputs.items c.args.input.now.prefix = subst (IsOpened c.open_inputs.new.aig c.in_ok-inputs.inputs.items) c.prefix-prefix.ensures.value c.in_ok-inputs.ensures in
    let marked : AreMarked c.args.given.now.gates c.outputs-outputs.result.now c.in_ok-marks.marks.items = subst (λ (n : Net). AreMarked n.gates c.outputs-outputs.result.now c.in_ok-marks.marks.items) e c.in_ok-marks.ensures.marked in
    let copied = rw (c.deref.ensures.value) at c.in_ok-row.ensures in
    let copied2 : AreCopied (net_of c.args.given.now) c.in_ok-marks.marks.items c.in_ok-inputs.inputs.items c.open_inputs.new.aig c.copy_gates.new.aig c.in_ok-row.row.items (length c.args.given.now.gates) = subst (λ (n : Net). AreCopied n c.in_ok-marks.marks.items c.in_ok-inputs.inputs.items c.open_inputs.new.aig c.copy_gates.new.aig c.in_ok-row.row.items (length n.gates)) e copied in
    let placed = rw (c.deref-2.ensures.value) at c.in_ok-circuits.ensures in
    let placed2 : ArePlaced (net_of c.args.given.now) c.in_ok-inputs.inputs.items c.in_ok-row.row.items c.outputs-outputs.result.now c.outputs-outputs.result.now c.in_ok-circuits.circuits.items = subst (λ (n : Net). ArePlaced n c.in_ok-inputs.inputs.items c.in_ok-row.row.items c.outputs-outputs.result.now c.outputs-outputs.result.now c.in_ok-circuits.circuits.items) e placed in
    let named : IsNamed c.take_back.new.aig c.in_ok-made.made c.take_back.new.tables.circuits.items c.args.input.now.prefix = subst (IsNamed c.take_back.new.aig c.in_ok-made.made c.take_back.new.tables.circuits.items) c.prefix-prefix.ensures.value c.in_ok-made.ensures in
    rebuilt c.args.input.now G ss c.args.undo.now c.args.given.now c.in_ok-made.made c.outputs-outputs.result.now c.open_inputs.new.aig c.copy_gates.new.aig c.take_back.new.aig c.in_ok-inputs.inputs.items c.in_ok-circuits.circuits.items c.take_back.new.tables.circuits.items c.in_ok-marks.marks.items c.in_ok-row.row.items
    c.prefix-prefix.ensures.proper.formula run undos lawful c.outputs-outputs.ensures.value c.outputs-outputs.ensures.lawful opened marked copied2 placed2 c.in_ok-take_back.ensures.undone named
