use Rattle.std.proofs.Common.{All}
use Rattle.q_kernel.specs.Prelude.{slots}
use Rattle.q_watch.specs.Watches.{AreRightFor}
use Rattle.q_blocked.specs.Units.{AreRight}
use Rattle.q_blocked.specs.Notes.{AreApart}
use Rattle.q_blocked.proofs.BlockedSearch.{IsTried}
use Rattle.q_blocked.proofs.find.find_from.Given as goal

abbrev pub invariant-loop-c : goal.invariant-loop-c
invariant-loop-c l = record { tried : All (λ c. IsTried l.kernel c) l.yielded; units : AreRight (slots l.kernel) l.search.units; watches : AreRightFor l.kernel l.search.watches; apart : AreApart l.kernel l.search.apart }
