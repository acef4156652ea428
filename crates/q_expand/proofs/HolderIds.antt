-- A literal has as many ids as clauses hold it.
use Rattle.std.proofs.Common.{◌≡◌, ◌<◌, ◌+◌, ℕ, zero, suc, Bool, true, false, cond, List, [], ◌∷◌, length, get_or, Some, refl, sym, ◌∙◌, ap, subst, inl, inr, arith}
use Rattle.std.proofs.lemmas.List.Elements.{All-contains}
use Rattle.std.specs.List.{AllByRecursion}
use Rattle.q_logic.specs.Prelude.{Literal, Clause, Matrix, IsIn, has, with_literal, Slots, slot, live}
use Rattle.q_logic.proofs.Common.{weight, has-IsIn, IsIn-has}
use Rattle.q_kernel.specs.Lists.{Has}
use Rattle.q_kernel.specs.Prelude.{Seen, slots, IsSound, HoldsLiteral, holders_of, IsHolder}
use Rattle.q_kernel.proofs.HolderLists.{holders-hold, holders-all, holders-once}
use Rattle.q_kernel.proofs.DistinctMembers.{Contains-Has, Has-Contains}
use Rattle.q_expand.specs.Dependents.{weigh, tally}
use Rattle.q_expand.proofs.ClauseWeights.{tally-all}

pub below-member : (R : Literal → Type 0) (C : Clause) (k : Literal) → AllByRecursion R C → IsIn k C → R k
below-member R [] k a m = absurd m
below-member R (j ∷ C) k a (inl e) = subst R (sym e) a.0
below-member R (j ∷ C) k a (inr m) = below-member R C k a.1 m

abbrev pick : Bool → ℕ
pick true = 1
pick false = 0

abbrev ones : Literal → Clause → ℕ
ones l C = pick (has l C)

with-weight : (l : Literal) (X : Matrix) → weight (ones l) X ≡ length (with_literal l X)
with-weight l [] = refl
with-weight l (C ∷ X) = go (has l C) (with-weight l X)
  where
    go : (b : Bool) → weight (ones l) X ≡ length (with_literal l X) → pick b + weight (ones l) X ≡ length (cond b (C ∷ with_literal l X) (with_literal l X))
    go true i = omega arith
    go false i = omega arith

tally-ones : (w : Clause → ℕ) (N : Slots) (cs : List ℕ) → ((c : ℕ) → Has cs c → weigh w (slot N c) ≡ 1) → tally w N cs ≡ length cs
tally-ones w N [] h = refl
tally-ones w N (c ∷ cs) h = let i = tally-ones w N cs (λ d m. h d (inr m)) in let e = h c (inl refl) in omega arith

pub holders-counted : (k : Seen) (l : Literal) → IsSound k → length (holders_of k l) ≡ length (with_literal l (live (slots k)))
holders-counted k l s =
    sym (tally-ones (ones l) (slots k) (holders_of k l) held) ∙ (tally-all (ones l) (holders_of k l) (slots k) (holders-once k l s) rest ∙ with-weight l (live (slots k)))
  where
    held : (c : ℕ) → Has (holders_of k l) c → weigh (ones l) (slot (slots k) c) ≡ 1
    held c h =
        let i : IsHolder k l c = All-contains (λ d. IsHolder k l d) (holders_of k l) c (holders-hold k l s) (Has-Contains (holders_of k l) c h) in
        let m : HoldsLiteral k c l = i.holds in
        ap (weigh (ones l)) m.1 ∙ ap pick (IsIn-has l m.0 m.2)

    rest : (c : ℕ) (C : Clause) → slot (slots k) c ≡ Some C → (Has (holders_of k l) c → ⊥) → ones l C ≡ 0
    rest c C e n = go (has l C) refl
      where
        go : (b : Bool) → has l C ≡ b → pick b ≡ 0
        go false f = refl
        go true f = absurd (n (Contains-Has (holders_of k l) c (holders-all k l c s (C, e, has-IsIn l C f))))
