use Rattle.std.proofs.Common.{◌≡◌, ◌<◌, ℕ, suc, List, [], ◌∷◌, length, slice_get, refl, arith}
use Rattle.q_judge.proofs.scope.are_equal.Goals as goal

-- lists with the same element at each place are the same
same_list : {X : Type 0} (xs ys : List X) → length xs ≡ length ys → ((k : ℕ) → k < length xs → slice_get xs k ≡ slice_get ys k) → xs ≡ ys
same_list [] [] l h = refl
same_list [] (y ∷ ys) l h = absurd (omega arith)
same_list (x ∷ xs) [] l h = absurd (omega arith)
same_list (x ∷ xs) (y ∷ ys) l h =
    let first = h 0 (omega arith) in
    let rest : xs ≡ ys = same_list xs ys (omega arith) (λ k b. h (suc k) (omega (arith, b))) in
    cc

pub returns : goal.returns
returns c =
    λ e. same_list c.args.own.now c.args.others.now (omega arith) (λ k b. c.loop-place.invariant k (omega (arith, b)))
