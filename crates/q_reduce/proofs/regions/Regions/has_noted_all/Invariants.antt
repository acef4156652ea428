use Rattle.std.proofs.Common.{◌≡◌, true, take}
use Rattle.q_logic.specs.Prelude.{Literal, IsIn}
use Rattle.q_reduce.specs.Regions.{is_covered, key_of}
use Rattle.q_reduce.proofs.regions.Regions.has_noted_all.Given as goal

abbrev pub invariant-loop-l : goal.invariant-loop-l
invariant-loop-l l = (k : Literal) → IsIn k (take l.l-index l.clause) → is_covered l.self k.var ≡ true → IsIn (key_of k l.region) l.self.keys
