use Rattle.std.proofs.Common.{◌≡◌, length}
use Rattle.q_occ.specs.Places.{IsLinkedUpto, AreOwnedUpto}
use Rattle.q_occ.proofs.linking.link_all.Given as goal

abbrev pub invariant-loop-k : goal.invariant-loop-k
invariant-loop-k l = record {
  linked : IsLinkedUpto l.fn.rings l.rings l.lits l.start l.k;
  owned : AreOwnedUpto l.fn.rings.owners l.rings.owners l.start l.k l.id;
  heads : length l.rings.lists ≡ length l.fn.rings.lists;
  room : length l.rings.owners ≡ length l.fn.rings.owners;
}
