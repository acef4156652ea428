use Rattle.std.proofs.Common.{length, take, drop}
use Rattle.q_pages.specs.Rows.{KeepsPages}
use Rattle.q_judge.proofs.ScopedPrefix.{IsScoping}
use Rattle.q_judge.proofs.bindings.binding_all.Given as goal

abbrev pub invariant-loop-i : goal.invariant-loop-i
invariant-loop-i l = KeepsPages l.fn.bindings l.bindings
    × IsScoping (take l.i l.prefix) (drop l.i l.prefix) (length l.fn.bindings.items) (length l.fn.counts.items) l.bindings.items l.counts.items l.numbering.last l.numbering.rank
