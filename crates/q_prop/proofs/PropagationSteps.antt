-- Propagation goes on over the watched clauses.
use Rattle.std.proofs.Common.{◌≡◌, ℕ, List, Option, refl, ◌∙◌}
use Rattle.q_logic.specs.Prelude.{Literal}
use Rattle.q_prop.specs.Slots.{filled, without}
use Rattle.q_prop.specs.Watched.{IsCovered, IsMoved, IsAdvanced}
use Rattle.q_prop.specs.Working.{IsGrown}
use Rattle.q_prop.specs.declared.watched.Watched.{Watched}
use Rattle.q_prop.proofs.PropagationEnd.{IsReached-refl, IsReached-trans, IsReached-grown, IsReached-within, IsKept-refl, IsKept-trans}
use Rattle.q_prop.proofs.WatchLemmas.{IsWithin}

-- no pair has moved
pub moved-rows : (known : List Literal) (old new : Watched) → new.clauses.slots ≡ old.clauses.slots → new.clauses.pairs ≡ old.clauses.pairs → IsCovered new → IsMoved known old new
moved-rows known old new same pairs covered' = record {
  same = same;
  kept = rw pairs (IsKept-refl old.clauses.slots known old.clauses.pairs);
  covered = covered';
}

pub moved-trans : (known more : List Literal) (a b c : Watched) → IsWithin known more → IsMoved known a b → IsMoved more b c → IsMoved known a c
moved-trans known more a b c w k l = record {
  same = l.same ∙ k.same;
  kept = IsKept-trans a.clauses.slots known more a.clauses.pairs b.clauses.pairs c.clauses.pairs w k.kept (rw k.same at l.kept);
  covered = l.covered;
}

-- what is kept under more literals is kept under fewer
pub moved-fewer : (few more : List Literal) (a b : Watched) → IsWithin few more → IsMoved more a b → IsMoved few a b
moved-fewer few more a b w k = record {
  same = k.same;
  kept = IsKept-trans a.clauses.slots few more a.clauses.pairs a.clauses.pairs b.clauses.pairs w (IsKept-refl a.clauses.slots few a.clauses.pairs) k.kept;
  covered = k.covered;
}

pub advanced-rows : (skip : Option ℕ) (old new : Watched) (known : List Literal) → new.clauses.slots ≡ old.clauses.slots → new.clauses.pairs ≡ old.clauses.pairs → IsCovered new → IsAdvanced skip old known new known
advanced-rows skip old new known same pairs covered' = record {
  reached = IsReached-refl (filled (without old.clauses.slots skip)) known;
  moved = moved-rows known old new same pairs covered';
}

pub advanced-refl : (skip : Option ℕ) (w : Watched) (known : List Literal) → IsCovered w → IsAdvanced skip w known w known
advanced-refl skip w known covered' = advanced-rows skip w w known refl refl covered'

pub advanced-grown : (skip : Option ℕ) (w : Watched) (known more : List Literal) → IsCovered w → IsGrown (filled (without w.clauses.slots skip)) known more → IsAdvanced skip w known w more
advanced-grown skip w known more covered' g = record {
  reached = IsReached-grown (filled (without w.clauses.slots skip)) known known more (IsReached-refl (filled (without w.clauses.slots skip)) known) g;
  moved = moved-rows known w w refl refl covered';
}

pub advanced-trans : (skip : Option ℕ) (a : Watched) (k : List Literal) (b : Watched) (l : List Literal) (c : Watched) (m : List Literal) → IsAdvanced skip a k b l → IsAdvanced skip b l c m → IsAdvanced skip a k c m
advanced-trans skip a k b l c m x y = record {
  reached = IsReached-trans (filled (without a.clauses.slots skip)) k l m x.reached (rw x.moved.same at y.reached);
  moved = moved-trans k l a b c (IsReached-within (filled (without a.clauses.slots skip)) k l x.reached) x.moved y.moved;
}
