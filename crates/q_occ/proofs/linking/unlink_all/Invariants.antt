use Rattle.std.proofs.Common.{◌≡◌, length}
use Rattle.q_occ.specs.Places.{IsUnlinkedUpto}
use Rattle.q_occ.proofs.linking.unlink_all.Given as goal

abbrev pub invariant-loop-k : goal.invariant-loop-k
invariant-loop-k l = record {
  unlinked : IsUnlinkedUpto l.fn.rings l.rings l.start l.k;
  owners : l.rings.owners ≡ l.fn.rings.owners;
  heads : length l.rings.lists ≡ length l.fn.rings.lists;
}
