-- Clauses that are read place by place.
use Rattle.std.proofs.Common.{true≢false, cond, ◌≡◌, ℕ, ◌+◌, ◌<◌, Bool, true, false, ◌&&◌, ◌||◌, length, drop, get_or, Some, slice_get, refl, sym, ap, ◌∙◌}
use Rattle.std.proofs.lemmas.Option.{get_or_from_slice_get, slice_get_within}
use Rattle.q_logic.specs.Prelude.{Literal, negation, Clause, Matrix, IsIn, has, Node}
use Rattle.q_logic.proofs.Common.{has-IsIn, IsIn-has}
use Rattle.q_logic.specs.declared.verdict.Verdict.{Verdict}
use Rattle.q_logic.specs.Branches.{first_false, is_false, Claim, is_missing, both_missing, clause_verdict}
use Rattle.q_search.proofs.PathValues.{drop-step}

-- A test of membership, told by a search.
pub has-told : (l : Literal) (C : Clause) (b : Bool) → (b ≡ true → IsIn l C) → (IsIn l C → b ≡ true) → b ≡ has l C
has-told l C b f g = go b refl (has l C) refl
  where
    go : (x : Bool) → b ≡ x → (y : Bool) → has l C ≡ y → x ≡ y
    go true e true h = refl
    go true e false h = absurd (true≢false (sym (IsIn-has l C (f e)) ∙ h))
    go false e true h = absurd (true≢false (sym (g (has-IsIn l C h)) ∙ e))
    go false e false h = refl

pub both-step : (q : Claim) (C : Clause) (i : ℕ) (x : Literal) → i < length C → x ≡ get_or C i x →
    both_missing q (drop i C) ≡ (is_missing q x.var && has (negation x) (drop (i + 1) C)) || both_missing q (drop (i + 1) C)
both-step q C i x h e = drop-step (both_missing q) C i x h e

pub first-step : (q : Claim) (n : Node) (X : Matrix) (i : ℕ) (C : Clause) (v : Verdict) → slice_get X i ≡ Some C →
    v ≡ clause_verdict q n.rest n.values C → first_false q n (drop i X) ≡ cond (is_false v) C (first_false q n (drop (i + 1) X))
first-step q n X i C v g e =
    drop-step (first_false q n) X i C (slice_get_within X i C g) (sym (get_or_from_slice_get X i C C g))
    ∙ ap (λ x. cond (is_false x) C (first_false q n (drop (i + 1) X))) (sym e)
