use Rattle.std.proofs.Common.{◌≡◌, ◌≤◌, ℕ, ◌+◌, ◌-◌, ◌∷◌, drop, length, map, sym, subst, ap, ◌∙◌, List, Option, arith}
use Rattle.std.proofs.lemmas.List.{length-map}
use Rattle.q_logic.specs.Prelude.{UndoEntry}
use Rattle.q_judge.specs.Entries.{entry_of}
use Rattle.q_certificate.specs.Prelude.{IsUndone}
use Rattle.q_rebuild.specs.TakenBack.{AreUndone}
use Rattle.q_certificate.proofs.LongerLists.{drop-mapped}
use Rattle.q_rebuild.proofs.UndoEntries.{are-more}
use Rattle.q_rebuild.proofs.entries.take_back.Goals as goal

pub loop-i-preserved : goal.loop-i-preserved
loop-i-preserved c =
    let e = c.as_slice-entries.ensures in
    let len : length (map entry_of c.as_slice-entries.result.now) ≡ length c.as_slice-entries.result.now = length-map c.as_slice-entries.result.now entry_of in
    let len2 : length (map entry_of c.as_slice-entries.result.now) ≡ length c.args.undo.now = ap length e in
    let b : c.loop-i.i ≤ length c.args.undo.now = c.loop-i.invariant.bound in
    let back : c.loop-i.i - 1 + 1 ≡ c.loop-i.i = omega arith in
    let d : drop (c.loop-i.i - 1) c.args.undo.now ≡ entry_of c.index-entries-i.result ∷ drop (c.loop-i.i - 1 + 1) c.args.undo.now = drop-mapped entry_of c.as_slice-entries.result.now c.args.undo.now (c.loop-i.i - 1) c.index-entries-i.result e (omega arith) c.index-entries-i.is in
    let d2 : drop (c.loop-i.i - 1) c.args.undo.now ≡ entry_of c.index-entries-i.result ∷ drop c.loop-i.i c.args.undo.now = d ∙ ap (λ (n : ℕ). entry_of c.index-entries-i.result ∷ drop n c.args.undo.now) back in
    let same : c.loop-i.tables.inputs ≡ c.args.tables.now.inputs = c.loop-i.invariant.same in
    let u : IsUndone c.loop-i.aig c.undo_entry.new.aig c.args.tables.now.inputs.items c.loop-i.tables.circuits.items c.undo_entry.new.tables.circuits.items (entry_of c.index-entries-i.result) = subst (λ (ins : List (Option ℕ)). IsUndone c.loop-i.aig c.undo_entry.new.aig ins c.loop-i.tables.circuits.items c.undo_entry.new.tables.circuits.items (entry_of c.index-entries-i.result)) (ap (λ v. v.items) same) c.in_ok-undo_entry.ensures.undone in
    record {
      bound = omega arith;
      same = c.in_ok-undo_entry.ensures.inputs ∙ same;
      done = subst (λ (us : List UndoEntry). AreUndone c.args.aig.now c.undo_entry.new.aig c.args.tables.now.inputs.items c.args.tables.now.circuits.items c.undo_entry.new.tables.circuits.items us) (sym d2)
          (are-more c.args.aig.now c.loop-i.aig c.undo_entry.new.aig c.args.tables.now.inputs.items c.args.tables.now.circuits.items c.loop-i.tables.circuits.items c.undo_entry.new.tables.circuits.items (entry_of c.index-entries-i.result) (drop c.loop-i.i c.args.undo.now) c.loop-i.invariant.done u);
    }
