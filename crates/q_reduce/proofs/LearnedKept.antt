-- What a search has learned stays right where the formula is the same.
use Rattle.std.proofs.Common.{◌≡◌, sym, subst}
use Rattle.q_logic.specs.Prelude.{Prefix, Slots, live}
use Rattle.q_kernel.specs.Prelude.{Seen, slots}
use Rattle.q_reduce.specs.Regions.{AreRegions}
use Rattle.q_reduce.specs.Forests.{IsForest}
use Rattle.q_reduce.specs.Learned.{Learned, IsFitFor}

pub fit-same : (j k : Seen) (s : Learned) → k.prefix ≡ j.prefix → slots k ≡ slots j → IsFitFor j s → IsFitFor k s
fit-same j k s p e h = record {
  regions = λ R m. subst (λ (P : Prefix). AreRegions P (live (slots k)) R) (sym p) (subst (λ (N : Slots). AreRegions j.prefix (live N) R) (sym e) (h.regions R m));
  forests = λ F m. subst (λ (P : Prefix). IsForest P (slots k) F) (sym p) (subst (λ (N : Slots). IsForest j.prefix N F) (sym e) (h.forests F m));
}
