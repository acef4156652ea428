use Rattle.std.proofs.Common.{◌≡◌, ◌<◌, ◌++◌, ◌∷◌, [], length, take, slice_get, Some}
use Rattle.q_long.specs.Decided.{drops_of}
use Rattle.q_extract.specs.Rows.{IsMore, values_next}
use Rattle.q_extract.proofs.drops.take_away.Given as goal

abbrev pub invariant-loop-lit : goal.invariant-loop-lit
invariant-loop-lit l = record {
  more : IsMore l.fn.drops l.drops (drops_of (values_next l.fn.drops (take l.lit-index l.taken)) (values_next l.fn.drops l.kept));
  guards : l.drops.guards ≡ l.fn.drops.guards ++ l.kept ∷ [];
  here : slice_get l.drops.guards l.guard ≡ Some l.kept;
  within : l.guard < length l.drops.guards;
  place : l.guard ≡ length l.fn.drops.guards;
}
