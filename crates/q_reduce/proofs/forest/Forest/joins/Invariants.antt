use Rattle.q_kernel.specs.Prelude.{slots}
use Rattle.q_reduce.specs.Paths.{Leads}
use Rattle.q_reduce.proofs.forest.Forest.joins.Given as goal

abbrev pub invariant-loop : goal.invariant-loop
invariant-loop l = record {
  near : Leads l.kernel.prefix (slots l.kernel) l.lit l.near → Leads l.kernel.prefix (slots l.kernel) l.lit l.c;
  far : Leads l.kernel.prefix (slots l.kernel) l.lit l.far;
}
