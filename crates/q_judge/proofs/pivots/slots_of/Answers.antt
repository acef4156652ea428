use Rattle.std.proofs.Common.{ℕ, List, Contains}
use Rattle.q_logic.specs.Prelude.{Literal, Slots}
use Rattle.q_logic.proofs.Common.{IsIn-Contains, Contains-IsIn}
use Rattle.q_prop.specs.Holders.{IsHolder}
use Rattle.q_prop.specs.Lists.{IsDistinct}
use Rattle.q_judge.specs.Warrants.{AreHolders}
use Rattle.q_judge.proofs.pivots.slots_of.Goals as goal

listed : (s : Slots) (m : Literal) (slots : List ℕ) → ((n : ℕ) → (Contains slots n → IsHolder s n m) × (IsHolder s n m → Contains slots n)) → IsDistinct slots → AreHolders s m slots
listed s m slots h o = record {
  all_there = λ n D e i. (h n).1 (D, e, IsIn-Contains m D i);
  no_other = λ n i. let r = (h n).0 i in (r.0, r.1, Contains-IsIn m r.0 r.2);
  once = o;
}

pub returns : goal.returns
returns c = listed c.args.store.now c.args.lit c.holders.result.now c.holders.ensures.members c.holders.ensures.once
