use Rattle.std.proofs.Common.{◌≡◌, ◌≤◌, ℕ, ◌+◌, ◌-◌, ◌∷◌, drop, length, map, sym, subst, ap, ◌∙◌, List, Option, arith}
use Rattle.std.proofs.lemmas.List.{length-map}
use Rattle.q_logic.specs.Reversals.{Reversal}
use Rattle.q_certificate.proofs.LongerLists.{drop-mapped}
use Rattle.q_herbrand.specs.Entries.{entry_of}
use Rattle.q_herbrand.specs.Following.{IsReady, IsTaken, AreTaken}
use Rattle.q_herbrand.proofs.SlotCircuits.{taken-more}
use Rattle.q_herbrand.proofs.entries.take_all.Goals as goal

pub take_entry-requires : goal.take_entry-requires
take_entry-requires c =
    subst (λ v. IsReady c.loop-i.aig v.items c.loop-i.tables.circuits.items c.loop-i.slots)
    (sym c.loop-i.invariant.same) c.loop-i.invariant.done.ready

pub loop-i-preserved : goal.loop-i-preserved
loop-i-preserved c =
    let e = c.as_slice-entries.ensures in
    let len : length (map entry_of c.as_slice-entries.result.now) ≡ length c.as_slice-entries.result.now =
    length-map c.as_slice-entries.result.now entry_of in
    let len2 : length (map entry_of c.as_slice-entries.result.now) ≡ length c.args.reversals.now = ap length e in
    let b : c.loop-i.i ≤ length c.args.reversals.now = c.loop-i.invariant.bound in
    let back : c.loop-i.i - 1 + 1 ≡ c.loop-i.i = omega arith in
    let d : drop (c.loop-i.i - 1) c.args.reversals.now ≡ entry_of c.index-entries-i.result ∷ drop
    (c.loop-i.i - 1 + 1) c.args.reversals.now = drop-mapped entry_of c.as_slice-entries.result.now
    c.args.reversals.now (c.loop-i.i - 1) c.index-entries-i.result e (omega arith) c.index-entries-i.is in
    let d2 : drop (c.loop-i.i - 1) c.args.reversals.now ≡ entry_of c.index-entries-i.result ∷ drop c.loop-i.i
    c.args.reversals.now = d ∙ ap (λ (n : ℕ). entry_of c.index-entries-i.result ∷ drop n c.args.reversals.now)
    back in
    let same : c.loop-i.tables.inputs ≡ c.args.tables.now.inputs = c.loop-i.invariant.same in
    let u : IsTaken c.loop-i.aig c.take_entry.new.aig c.args.tables.now.inputs.items
    c.loop-i.tables.circuits.items c.take_entry.new.tables.circuits.items c.loop-i.slots c.take_entry.new.slots
    (entry_of c.index-entries-i.result) =
    subst (λ (ins : List (Option ℕ)). IsTaken c.loop-i.aig c.take_entry.new.aig ins
    c.loop-i.tables.circuits.items c.take_entry.new.tables.circuits.items c.loop-i.slots c.take_entry.new.slots
    (entry_of c.index-entries-i.result)) (ap (λ v. v.items) same) c.in_ok-take_entry.ensures.taken in
    record {
      bound = omega arith;
      same = c.in_ok-take_entry.ensures.inputs ∙ same;
      done = subst (λ (rs : List Reversal). AreTaken c.args.aig.now c.take_entry.new.aig
          c.args.tables.now.inputs.items c.args.tables.now.circuits.items c.take_entry.new.tables.circuits.items
          c.args.slots.now c.take_entry.new.slots rs) (sym d2)
          (taken-more c.args.aig.now c.loop-i.aig c.take_entry.new.aig c.args.tables.now.inputs.items
          c.args.tables.now.circuits.items c.loop-i.tables.circuits.items c.take_entry.new.tables.circuits.items
          c.args.slots.now c.loop-i.slots c.take_entry.new.slots (entry_of c.index-entries-i.result)
          (drop c.loop-i.i c.args.reversals.now) c.loop-i.invariant.done u);
    }
