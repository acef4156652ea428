use Rattle.std.proofs.Common.{◌≡◌, ℕ, Bool, take}
use Rattle.q_kernel.specs.Uses.{AreUses}
use Rattle.q_kernel.specs.Listing.{without_clause, AreGrouped}
use Rattle.q_kernel.proofs.variables.vanish_all.Given as goal

abbrev pub invariant-loop-lit : goal.invariant-loop-lit
invariant-loop-lit l = record {
  grouped : AreGrouped l.uses l.prefix.bounds;
  occurring : (occ : ℕ → Bool) → AreUses l.initial.uses l.prefix.bounds occ → AreUses l.uses l.prefix.bounds (without_clause (take l.lit-index l.lits) l.occ occ);
  room : l.uses.room ≡ l.initial.uses.room;
}
