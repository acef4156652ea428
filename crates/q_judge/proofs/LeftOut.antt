-- What stands in slots of which one may be left out.
use Rattle.std.proofs.Common.{ℕ, List, Option, None, Some, MatchOption, subst, Contains}
use Rattle.q_logic.specs.Prelude.{Literal, Clause, Prefix, IsIn, Slots, Closed, Within}
use Rattle.q_logic.proofs.Common.{IsIn-Contains, Contains-IsIn}
use Rattle.q_prop.specs.Holders.{IsHolder}
use Rattle.q_prop.specs.Lists.{IsDistinct}
use Rattle.q_prop.specs.Slots.{Holds, filled, without}
use Rattle.q_prop.proofs.SlotLemmas.{without-le}
use Rattle.q_prop.proofs.BucketLemmas.{same-clause}
use Rattle.q_judge.specs.Warrants.{AreSlotsOf}
use Rattle.q_judge.proofs.SlotCollections.{held-in, left-in}

pub closed-left : (P : Prefix) (s : Slots) (skip : Option ℕ) → Closed P (filled s) → Closed P (filled (without s skip))
closed-left P s skip h D m = h D (left-in s skip D m)

-- what is in a slot has all its variables in the prefix
pub slot-within : {A : Type 0} (P : Prefix) (s : Slots) (n : ℕ) (f : A → Clause) (N : Type 0) (o : Option A) → Closed P (filled s) → MatchOption o N (λ r. Holds s n (f r)) → MatchOption o N (λ r. Holds s n (f r) × Within P (f r))
slot-within P s n f N None h none = none
slot-within P s n f N (Some r) h e = (e, h (f r) (held-in s n (f r) e))

-- the slots that hold a literal, the one that is left out among them
pub slots-left : (s : Slots) (skip : Option ℕ) (m : Literal) (slots : List ℕ) → ((n : ℕ) → (Contains slots n → IsHolder s n m) × (IsHolder s n m → Contains slots n)) → IsDistinct slots → AreSlotsOf (without s skip) m slots
slots-left s skip m slots h o = record {
  all_there = λ n D e i. (h n).1 (D, without-le s skip n D e, IsIn-Contains m D i);
  no_other = λ n D i e.
      let r = (h n).0 i in
      subst (λ (E : Clause). IsIn m E) (same-clause s n r.0 D r.1 (without-le s skip n D e)) (Contains-IsIn m r.0 r.2);
  once = o;
}
