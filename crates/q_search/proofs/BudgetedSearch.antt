-- A search within its budget.
use Rattle.std.proofs.Common.{ℕ, zero, suc, ◌+◌, Bool, true, false, Option, Some, None, refl, arith}
use Rattle.q_logic.specs.Prelude.{Node, Tally, one_more, leaf}
use Rattle.q_search.specs.Budgets.{IsBelow, IsPayment, IsLeft, IsOnTheWay}

-- At the start all is to come.
pub way-start : (n : Option ℕ) (t : Tally) → IsOnTheWay n n t t
way-start n t = record { won = refl; last = refl; paid = same n }
  where
    same : (n : Option ℕ) → IsLeft n n t.decisions t.decisions
    same None = tt
    same (Some k) = omega arith

-- One decision is paid.
pub way-down : (n k m : Option ℕ) (t all : Tally) → IsOnTheWay n k (one_more t) all → IsPayment k m true → IsOnTheWay n m t all
way-down n k m t all w p = record { won = w.won; last = w.last; paid = go n k m w.paid p }
  where
    go : (n k m : Option ℕ) → IsLeft n k (1 + t.decisions) all.decisions → IsPayment k m true → IsLeft n m t.decisions all.decisions
    go None None m l p = rw p.0 tt
    go None (Some k) m l p = absurd l
    go (Some n) None m l p = absurd l
    go (Some n) (Some zero) m l p = absurd (cc (p.1))
    go (Some n) (Some (suc k)) m l p = rw p.0 (omega arith)

-- Nothing is left to pay with.
pub way-out : (n k m : Option ℕ) (t all : Tally) → IsOnTheWay n k (one_more t) all → IsPayment k m false → IsBelow n all.decisions
way-out n k m t all w p = go n k w.paid p
  where
    go : (n k : Option ℕ) → IsLeft n k (1 + t.decisions) all.decisions → IsPayment k m false → IsBelow n all.decisions
    go None None l p = absurd (cc (p.1))
    go None (Some k) l p = absurd l
    go (Some n) None l p = absurd l
    go (Some n) (Some zero) l p = omega arith
    go (Some n) (Some (suc k)) l p = absurd (cc (p.1))

-- Nothing is to come.
pub way-end : (n k : Option ℕ) (w : Bool) (B : Node) (all : Tally) → IsOnTheWay n k (leaf w B) all → IsBelow n all.decisions → ⊥
way-end n k w B all h b = go n k h.paid b
  where
    go : (n k : Option ℕ) → IsLeft n k 0 all.decisions → IsBelow n all.decisions → ⊥
    go None k l b = b
    go (Some n) None l b = l
    go (Some n) (Some k) l b = omega arith
