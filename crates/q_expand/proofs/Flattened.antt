-- What is made clause by clause does not depend on the order of the clauses.
use Rattle.std.proofs.Common.{◌≡◌, ◌+◌, ℕ, Bool, true, false, cond, List, [], ◌∷◌, ◌++◌, refl, sym, ◌∙◌, ap, inl, inr, arith, true≢false, append_assoc, Some, None, Option}
use Rattle.q_logic.specs.Prelude.{Literal, Clause, Matrix, IsIn, without, copies, has, each_without, positive, clause_eq, Slots, slot, set_slot, live, put_first, clauses_at, shares}
use Rattle.q_logic.proofs.Common.{weight, SameClauses, copies-append, flat, flat-same}
use Rattle.q_logic.proofs.HintChains.{live-number}
use Rattle.q_kernel.specs.Lists.{Has, AreApart}
use Rattle.q_expand.specs.Dependents.{weigh, tally}
use Rattle.q_expand.proofs.ClauseWeights.{weight-gone, tally-without, slot-fewer}
use Rattle.q_expand.proofs.ExpansionRun.{parted_one, parted}

-- a literal leaves the same clauses
without-flat : (l : Literal) (X : Matrix) → flat (λ D. without l D ∷ []) X ≡ each_without l X
without-flat l [] = refl
without-flat l (D ∷ X) = ap (λ (Y : Matrix). without l D ∷ Y) (without-flat l X)

pub each_without-same : (l : Literal) (X Y : Matrix) → SameClauses X Y → SameClauses (each_without l X) (each_without l Y)
each_without-same l X Y s C = ap (copies C) (sym (without-flat l X)) ∙ (flat-same (λ D. without l D ∷ []) X Y s C ∙ ap (copies C) (without-flat l Y))

-- the same clauses are parted into the same
parted-flat : (u : ℕ) (V : List ℕ) (t : ℕ) (X : Matrix) → flat (parted_one u V t) X ≡ parted u V t X
parted-flat u V t [] = refl
parted-flat u V t (D ∷ X) = ap (λ (Y : Matrix). parted_one u V t D ++ Y) (parted-flat u V t X)

pub parted-same : (u : ℕ) (V : List ℕ) (t : ℕ) (X Y : Matrix) → SameClauses X Y → SameClauses (parted u V t X) (parted u V t Y)
parted-same u V t X Y s C = ap (copies C) (sym (parted-flat u V t X)) ∙ (flat-same (parted_one u V t) X Y s C ∙ ap (copies C) (parted-flat u V t Y))

pub parted-append : (u : ℕ) (V : List ℕ) (t : ℕ) (X Y : Matrix) → parted u V t (X ++ Y) ≡ parted u V t X ++ parted u V t Y
parted-append u V t [] Y = refl
parted-append u V t (D ∷ X) Y = ap (λ (Z : Matrix). parted_one u V t D ++ Z) (parted-append u V t X Y) ∙ sym (append_assoc (parted_one u V t D) (parted u V t X) (parted u V t Y))

-- clauses without copied variables stay as they are
pub parted-stays : (u : ℕ) (V : List ℕ) (t : ℕ) (R : Matrix) → ((D : Clause) → IsIn D R → shares V D ≡ false) → parted u V t R ≡ R
parted-stays u V t [] h = refl
parted-stays u V t (D ∷ R) h = ap (λ (Z : Matrix). Z ++ parted u V t R) (one (has (positive u) D) (shares V D) (h D (inl refl))) ∙ ap (λ (Z : Matrix). D ∷ Z) (parted-stays u V t R (λ E m. h E (inr m)))
  where
    one : (a b : Bool) → b ≡ false → cond a (D ∷ []) (cond b (cond (has (Rattle.q_logic.proofs.ExpandLinks.minus u) D) (Rattle.q_expand.specs.Steps.over_copies u V t D ∷ []) (Rattle.q_logic.specs.Clauses.insert (positive u) D ∷ Rattle.q_expand.specs.Steps.over_copies u V t D ∷ [])) (D ∷ [])) ≡ D ∷ []
    one true b e = refl
    one false true e = absurd (true≢false e)
    one false false e = refl

-- The clauses of some ids, and all others.
abbrev pub apart_from : List ℕ → Slots → Slots
apart_from [] N = N
apart_from (c ∷ cs) N = apart_from cs (set_slot c None N)

tally-beside : (w : Clause → ℕ) (cs : List ℕ) (N : Slots) → AreApart cs → weight w (live N) ≡ tally w N cs + weight w (live (apart_from cs N))
tally-beside w [] N a = omega arith
tally-beside w (c ∷ cs) N a =
    let i = tally-beside w cs (set_slot c None N) a.1 in
    let e = tally-without w N c cs a.0 in
    let f = weight-gone w N c in
    omega arith

abbrev counts : Clause → Clause → ℕ
counts C D = cond (clause_eq D C) 1 0

copies-weight : (C : Clause) (X : Matrix) → copies C X ≡ weight (counts C) X
copies-weight C [] = refl
copies-weight C (D ∷ X) = go (clause_eq D C) (copies-weight C X)
  where
    go : (b : Bool) → copies C X ≡ weight (counts C) X → cond b (copies C X + 1) (copies C X) ≡ cond b 1 0 + weight (counts C) X
    go true i = omega arith
    go false i = omega arith

pub weight-clauses : (w : Clause → ℕ) (N : Slots) (cs : List ℕ) → weight w (clauses_at N cs) ≡ tally w N cs
weight-clauses w N [] = refl
weight-clauses w N (c ∷ cs) = go (slot N c) (weight-clauses w N cs)
  where
    go : (o : Option Clause) → weight w (clauses_at N cs) ≡ tally w N cs → weight w (put_first o (clauses_at N cs)) ≡ weigh w o + tally w N cs
    go None i = omega arith
    go (Some C) i = omega arith

pub clauses-beside : (cs : List ℕ) (N : Slots) → AreApart cs → SameClauses (live N) (clauses_at N cs ++ live (apart_from cs N))
clauses-beside cs N a C =
    let e = copies-weight C (live N) in
    let f = copies-weight C (clauses_at N cs) in
    let g = copies-weight C (live (apart_from cs N)) in
    let h = tally-beside (counts C) cs N a in
    let i = weight-clauses (counts C) N cs in
    let j = copies-append C (clauses_at N cs) (live (apart_from cs N)) in
    omega arith

beside-slot : (cs : List ℕ) (N : Slots) (c : ℕ) (C : Clause) → slot (apart_from cs N) c ≡ Some C → (slot N c ≡ Some C) × (Has cs c → ⊥)
beside-slot [] N c C e = (e, λ h. h)
beside-slot (d ∷ cs) N c C e =
    let r = beside-slot cs (set_slot d None N) c C e in
    let s = slot-fewer d c N C r.0 in
    (s.1, λ h. elim h [ inl f ↦ s.0 f | inr g ↦ r.1 g ])

pub beside-from : (cs : List ℕ) (N : Slots) (C : Clause) → IsIn C (live (apart_from cs N)) → (c : ℕ) × (slot N c ≡ Some C) × (Has cs c → ⊥)
beside-from cs N C m = let r = live-number (apart_from cs N) C m in let s = beside-slot cs N r.0 C r.1 in (r.0, s.0, s.1)
