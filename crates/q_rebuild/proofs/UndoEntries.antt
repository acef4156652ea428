-- An undo list, one entry further.
use Rattle.std.proofs.Common.{ℕ, ◌+◌, List, [], ◌∷◌, Option, arith}
use Rattle.q_logic.specs.Prelude.{UndoEntry, Back}
use Rattle.q_aig.specs.Prelude.{Net}
use Rattle.q_certificate.specs.Prelude.{weight, AreLiterals, IsUndone}
use Rattle.q_certificate.proofs.CircuitParts.{grown-none, grown-then}
use Rattle.q_rebuild.specs.TakenBack.{weights, AreUndone}

pub are-none : (a : Net) (ins tb : List (Option ℕ)) → AreLiterals a tb → AreUndone a a ins tb tb []
are-none a ins tb lt = record { grown = grown-none a; literals = lt; at = λ U c g v. g }

pub are-more : (old now new : Net) (ins tb tb1 tb2 : List (Option ℕ)) (u : UndoEntry) (us : List UndoEntry) → AreUndone old now ins tb tb1 us → IsUndone now new ins tb1 tb2 u → AreUndone old new ins tb tb2 (u ∷ us)
are-more old now new ins tb tb1 tb2 u us s t = record {
  grown = grown-then old now new (weights us) (weight u) (weight u + weights us) s.grown t.grown (omega arith);
  literals = t.literals;
  at = λ U c g v. t.at U (Back us c) (s.at U c g v.1) v.0;
}
