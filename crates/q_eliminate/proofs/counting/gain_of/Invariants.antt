use Rattle.std.proofs.Common.{drop}
use Rattle.q_logic.specs.Prelude.{resolve_all, clauses_at}
use Rattle.q_kernel.specs.Prelude.{slots}
use Rattle.q_eliminate.specs.Gains.{no_gain}
use Rattle.q_eliminate.proofs.GainCounts.{IsGaining}
use Rattle.q_eliminate.proofs.counting.gain_of.Given as goal

abbrev pub invariant-loop-id : goal.invariant-loop-id
invariant-loop-id l = IsGaining no_gain l.gain l.fn.bound (resolve_all l.fn.lit (clauses_at (slots l.kernel) l.ids) (clauses_at (slots l.kernel) l.others)) (resolve_all l.fn.lit (clauses_at (slots l.kernel) (drop l.id-index l.ids)) (clauses_at (slots l.kernel) l.others))
