-- Loops that take the steps of a list, turn by turn.
use Rattle.std.proofs.Common.{◌≡◌, ◌≤◌, ◌<◌, ◌+◌, ℕ, zero, suc, List, [], ◌∷◌, ◌++◌, take, drop, get_or, length, sym, ◌∙◌, ap, subst, arith, append_assoc, append-nil, add-one, add-zero}
use Rattle.q_logic.specs.Prelude.{ProofStep}
use Rattle.q_kernel.specs.Prelude.{Seen}
use Rattle.q_logic.proofs.Common.{taken-all}
use Rattle.q_expand.specs.Tracks.{CanTake, HasTaken}
use Rattle.q_expand.specs.Steps.{each_with}
use Rattle.q_expand.proofs.StepQueue.{took-through, took-same, can-rest, can-first, can-same}

module _ (f : ℕ → ℕ → List ProofStep) where
  split : (V : List ℕ) (t i : ℕ) → i < length V → each_with f V t ≡ each_with f (take i V) t ++ (f (get_or V i 0) (t + i) ++ each_with f (drop (suc i) V) (t + i + 1))
  split [] t i h = absurd (omega arith)
  split (x ∷ V) t zero h = let e = add-zero t in ap (λ (n : ℕ). f x n ++ each_with f V (n + 1)) (sym e)
  split (x ∷ V) t (suc i) h =
      let e : t + 1 + i ≡ t + suc i = omega arith in
      let s = split V (t + 1) i (omega arith) in
      ap (λ (ss : List ProofStep). f x t ++ ss) (s ∙ ap (λ (n : ℕ). each_with f (take i V) (t + 1) ++ (f (get_or V i 0) n ++ each_with f (drop (suc i) V) (n + 1))) e)
      ∙ sym (append_assoc (f x t) (each_with f (take i V) (t + 1)) (f (get_or V i 0) (t + suc i) ++ each_with f (drop (suc i) V) (t + suc i + 1)))

  more : (V : List ℕ) (t i : ℕ) → i < length V → each_with f (take (suc i) V) t ≡ each_with f (take i V) t ++ f (get_or V i 0) (t + i)
  more [] t i h = absurd (omega arith)
  more (x ∷ V) t zero h = let e = add-zero t in append-nil (f x t) ∙ ap (f x) (sym e)
  more (x ∷ V) t (suc i) h =
      let e : t + 1 + i ≡ t + suc i = omega arith in
      let s = more V (t + 1) i (omega arith) in
      ap (λ (ss : List ProofStep). f x t ++ ss) (s ∙ ap (λ (n : ℕ). each_with f (take i V) (t + 1) ++ f (get_or V i 0) n) e)
      ∙ sym (append_assoc (f x t) (each_with f (take i V) (t + 1)) (f (get_or V i 0) (t + suc i)))

  pub turn-can : (V : List ℕ) (t i : ℕ) (a b : Seen) → i < length V → CanTake a (each_with f V t) → HasTaken a b (each_with f (take i V) t) → CanTake b (f (get_or V i 0) (t + i))
  turn-can V t i a b h c d =
      can-first b (f (get_or V i 0) (t + i)) (each_with f (drop (suc i) V) (t + i + 1))
      (can-rest a b (each_with f (take i V) t) (f (get_or V i 0) (t + i) ++ each_with f (drop (suc i) V) (t + i + 1)) d (can-same a (each_with f V t) (each_with f (take i V) t ++ (f (get_or V i 0) (t + i) ++ each_with f (drop (suc i) V) (t + i + 1))) (split V t i h) c))

  pub turn-took : (V : List ℕ) (t i : ℕ) (a b c : Seen) → i < length V → HasTaken a b (each_with f (take i V) t) → HasTaken b c (f (get_or V i 0) (t + i)) → HasTaken a c (each_with f (take (i + 1) V) t)
  turn-took V t i a b c h d e = rw add-one
      (took-same a c (each_with f (take i V) t ++ f (get_or V i 0) (t + i)) (each_with f (take (suc i) V) t) (sym (more V t i h)) (took-through a b c (each_with f (take i V) t) (f (get_or V i 0) (t + i)) d e))

  pub turns-took : (V : List ℕ) (t i : ℕ) (a b : Seen) → length V ≤ i → HasTaken a b (each_with f (take i V) t) → HasTaken a b (each_with f V t)
  turns-took V t i a b h d = subst (λ (W : List ℕ). HasTaken a b (each_with f W t)) (taken-all V i h) d
