-- Where a clause begins and ends in the row of literals, and what comes of one more.
use Rattle.std.proofs.Common.{◌≡◌, ◌≢◌, ℕ, zero, suc, ◌-◌, ◌<◌, ◌≤◌, List, [], ◌∷◌, ◌++◌, Some, length, get_or, slice_range, slice_get, refl, ap, not-suc-le-zero, le_of_suc-le-suc, le_trans, sub-one, arith}
use Rattle.std.proofs.lemmas.Grind.{common_steps}
use Rattle.q_logic.specs.Prelude.{Literal}
use Rattle.q_logic.specs.Parts.{AreEnds, clauses_between, start_of}

pub length-clauses_between : (lits : List Literal) (from : ℕ) (ends : List ℕ) →
    length (clauses_between lits from ends) ≡ length ends
length-clauses_between lits from [] = refl
length-clauses_between lits from (e ∷ ends) = ap suc (length-clauses_between lits e ends)

AreEnds-from : (from : ℕ) (ends : List ℕ) (n : ℕ) → AreEnds from ends n → from ≤ n
AreEnds-from from [] n h = omega arith
AreEnds-from from (e ∷ ends) n h = le_trans h.0 (AreEnds-from e ends n h.1)

pub AreEnds-start : (from : ℕ) (ends : List ℕ) (n k : ℕ) → AreEnds from ends n → k < length ends →
    start_of from ends k ≤ get_or ends k 0
AreEnds-start from [] n k h l = absurd (not-suc-le-zero l)
AreEnds-start from (e ∷ ends) n zero h l = h.0
AreEnds-start from (e ∷ ends) n (suc k) h l = AreEnds-start e ends n k h.1 (le_of_suc-le-suc l)

pub AreEnds-end : (from : ℕ) (ends : List ℕ) (n k : ℕ) → AreEnds from ends n → k < length ends →
    get_or ends k 0 ≤ n
AreEnds-end from [] n k h l = absurd (not-suc-le-zero l)
AreEnds-end from (e ∷ ends) n zero h l = AreEnds-from e ends n h.1
AreEnds-end from (e ∷ ends) n (suc k) h l = AreEnds-end e ends n k h.1 (le_of_suc-le-suc l)

pub slice_get-clauses_between : (lits : List Literal) (from : ℕ) (ends : List ℕ) (k : ℕ) → k < length ends →
    slice_get (clauses_between lits from ends) k ≡
    Some (slice_range lits (start_of from ends k) (get_or ends k 0))
slice_get-clauses_between lits from [] k l = absurd (not-suc-le-zero l)
slice_get-clauses_between lits from (e ∷ ends) zero l = refl
slice_get-clauses_between lits from (e ∷ ends) (suc k) l =
    slice_get-clauses_between lits e ends k (le_of_suc-le-suc l)

start_of-suc : (from : ℕ) (ends : List ℕ) (k : ℕ) → k < length ends →
    start_of from ends (suc k) ≡ get_or ends k 0
start_of-suc from [] k l = absurd (not-suc-le-zero l)
start_of-suc from (e ∷ ends) zero l = refl
start_of-suc from (e ∷ ends) (suc k) l = start_of-suc e ends k (le_of_suc-le-suc l)

pub start_of-later : (from : ℕ) (ends : List ℕ) (k : ℕ) → k ≢ 0 → k < length ends →
    start_of from ends k ≡ get_or ends (k - 1) 0
start_of-later from ends zero n l = absurd (n refl)
start_of-later from ends (suc k) n l = rw sub-one (start_of-suc from ends k (omega arith))

-- one more clause behind the others

pub ends-push : (from : ℕ) (ends : List ℕ) (n m : ℕ) → AreEnds from ends n → n ≤ m → AreEnds from (ends ++ m ∷ []) m
ends-push from [] n m h l = (omega arith, refl)
ends-push from (e ∷ ends) n m h l = (h.0, ends-push e ends n m h.1 l)

range-front : (xs ys : List Literal) (a b : ℕ) → b ≤ length xs → slice_range (xs ++ ys) a b ≡ slice_range xs a b
range-front xs ys a b h = grind (arith, common_steps)

pub range-back : (xs ys : List Literal) → slice_range (xs ++ ys) (length xs) (length (xs ++ ys)) ≡ ys
range-back xs ys = grind (arith, common_steps)

pub clauses-push : (lits c : List Literal) (from : ℕ) (ends : List ℕ) → AreEnds from ends (length lits) →
    clauses_between (lits ++ c) from (ends ++ length (lits ++ c) ∷ []) ≡ clauses_between lits from ends ++ c ∷ []
clauses-push lits c from [] h = rw h (ap (λ d. d ∷ []) (range-back lits c))
clauses-push lits c from (e ∷ ends) h =
    let f = range-front lits c from e (AreEnds-from e ends (length lits) h.1) in
    rw (f, clauses-push lits c e ends h.1) refl
