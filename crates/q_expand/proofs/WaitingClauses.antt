-- Clauses that wait for their turn.
use Rattle.std.proofs.Common.{◌≡◌, ◌≢◌, ◌+◌, ℕ, zero, suc, List, [], ◌∷◌, ◌++◌, take, drop, slice_get, Some, None, Option, refl, sym, ◌∙◌, ap, subst, inl, inr, add-one, append-nil}
use Rattle.std.proofs.lemmas.Option.{same_Some}
use Rattle.q_logic.specs.Prelude.{Clause, Matrix, ProofStep, Slots, slot, put_first, clauses_at}
use Rattle.q_kernel.specs.Lists.{Has, AreApart}
use Rattle.q_kernel.proofs.Basics.{Misses-not}
use Rattle.q_kernel.specs.Prelude.{Seen}
use Rattle.q_expand.specs.Tracks.{CanTake, HasTaken}
use Rattle.q_expand.specs.Steps.{split_steps, all_split}
use Rattle.q_expand.proofs.ClauseParts.{all_split-append}
use Rattle.q_expand.proofs.StepQueue.{took-through, took-same, can-rest, can-first, can-same}

pub waits : (xs : List ℕ) (i c : ℕ) → slice_get xs i ≡ Some c → Has (drop i xs) c
waits [] i c e = absurd (let z : None ≡ Some c = e in cc)
waits (x ∷ xs) zero c e = inl (sym (same_Some x c e))
waits (x ∷ xs) (suc i) c e = waits xs i c e

sooner : (xs : List ℕ) (i d : ℕ) → Has (drop (suc i) xs) d → Has (drop i xs) d
sooner [] zero d h = h
sooner [] (suc i) d h = h
sooner (x ∷ xs) zero d h = inr h
sooner (x ∷ xs) (suc i) d h = sooner xs i d h

pub waits-sooner : (xs : List ℕ) (i d : ℕ) → Has (drop (i + 1) xs) d → Has (drop i xs) d
waits-sooner xs i d h = sooner xs i d (subst (λ (n : ℕ). Has (drop n xs) d) (add-one i) h)

apart : (xs : List ℕ) (i c d : ℕ) → AreApart xs → slice_get xs i ≡ Some c → Has (drop (suc i) xs) d → d ≢ c
apart [] i c d a e h = absurd h
apart (x ∷ xs) zero c d a e h = λ f. Misses-not x d xs a.0 h (same_Some x c e ∙ sym f)
apart (x ∷ xs) (suc i) c d a e h = apart xs i c d a.1 e h

pub waits-apart : (xs : List ℕ) (i c d : ℕ) → AreApart xs → slice_get xs i ≡ Some c → Has (drop (i + 1) xs) d → d ≢ c
waits-apart xs i c d a e h = apart xs i c d a e (subst (λ (n : ℕ). Has (drop n xs) d) (add-one i) h)

put-append : (o : Option Clause) (X Y : Matrix) → put_first o (X ++ Y) ≡ put_first o X ++ Y
put-append None X Y = refl
put-append (Some C) X Y = refl

clauses-split : (N : Slots) (cs : List ℕ) (i c : ℕ) (C : Clause) → slice_get cs i ≡ Some c → slot N c ≡ Some C → clauses_at N cs ≡ clauses_at N (take i cs) ++ (C ∷ clauses_at N (drop (suc i) cs))
clauses-split N [] i c C e s = absurd (let z : None ≡ Some c = e in cc)
clauses-split N (x ∷ cs) zero c C e s = ap (λ o. put_first o (clauses_at N cs)) (ap (slot N) (same_Some x c e) ∙ s)
clauses-split N (x ∷ cs) (suc i) c C e s = ap (put_first (slot N x)) (clauses-split N cs i c C e s) ∙ put-append (slot N x) (clauses_at N (take i cs)) (C ∷ clauses_at N (drop (suc i) cs))

clauses-more : (N : Slots) (cs : List ℕ) (i c : ℕ) (C : Clause) → slice_get cs i ≡ Some c → slot N c ≡ Some C → clauses_at N (take (suc i) cs) ≡ clauses_at N (take i cs) ++ (C ∷ [])
clauses-more N [] i c C e s = absurd (let z : None ≡ Some c = e in cc)
clauses-more N (x ∷ cs) zero c C e s = ap (λ o. put_first o []) (ap (slot N) (same_Some x c e) ∙ s)
clauses-more N (x ∷ cs) (suc i) c C e s = ap (put_first (slot N x)) (clauses-more N cs i c C e s) ∙ put-append (slot N x) (clauses_at N (take i cs)) (C ∷ [])

module _ (u : ℕ) (V : List ℕ) (t : ℕ) (N : Slots) (cs : List ℕ) (i c : ℕ) (C : Clause) (e : slice_get cs i ≡ Some c) (s : slot N c ≡ Some C) where
  pub split-can : (a b : Seen) → CanTake a (all_split u V t (clauses_at N cs)) → HasTaken a b (all_split u V t (clauses_at N (take i cs))) → CanTake b (split_steps u V t C)
  split-can a b h d =
      can-first b (split_steps u V t C) (all_split u V t (clauses_at N (drop (suc i) cs)))
      (can-rest a b (all_split u V t (clauses_at N (take i cs))) (split_steps u V t C ++ all_split u V t (clauses_at N (drop (suc i) cs))) d
      (can-same a (all_split u V t (clauses_at N cs)) (all_split u V t (clauses_at N (take i cs)) ++ (split_steps u V t C ++ all_split u V t (clauses_at N (drop (suc i) cs))))
      (ap (all_split u V t) (clauses-split N cs i c C e s) ∙ all_split-append u V t (clauses_at N (take i cs)) (C ∷ clauses_at N (drop (suc i) cs))) h))

  pub split-took : (a b d : Seen) → HasTaken a b (all_split u V t (clauses_at N (take i cs))) → HasTaken b d (split_steps u V t C) → HasTaken a d (all_split u V t (clauses_at N (take (i + 1) cs)))
  split-took a b d h g = rw add-one (took-same a d (all_split u V t (clauses_at N (take i cs)) ++ split_steps u V t C) (all_split u V t (clauses_at N (take (suc i) cs)))
      (sym (ap (all_split u V t) (clauses-more N cs i c C e s) ∙ (all_split-append u V t (clauses_at N (take i cs)) (C ∷ []) ∙ ap (λ (ss : List ProofStep). all_split u V t (clauses_at N (take i cs)) ++ ss) (append-nil (split_steps u V t C)))))
      (took-through a b d (all_split u V t (clauses_at N (take i cs))) (split_steps u V t C) h g))
