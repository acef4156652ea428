-- What the steps of an expansion take: words, ids, variables and bytes of the log.
use Rattle.std.proofs.Common.{◌≡◌, ◌≤◌, ◌+◌, ◌*◌, ℕ, Bool, true, false, cond, List, [], ◌∷◌, ◌++◌, length, refl, arith}
use Rattle.q_logic.proofs.MeasureFalls.{size-append}
use Rattle.q_logic.specs.Prelude.{Literal, Clause, Matrix, insert, size_of, has, positive, first_of, without, ProofStep, add, delete, drop_literal, fresh, remove_variable, shares, copied}
use Rattle.q_logic.proofs.Common.{insert-length, without-shorter, rise, one, weight, FreshUpTo}
use Rattle.q_logic.proofs.ExpandLinks.{minus}
use Rattle.q_logic.proofs.MeasureFallsExpand.{copied-length}
use Rattle.q_logic.proofs.Heights.{fresh-append}
use Rattle.q_expand.specs.Tracks.{price, words_for, ids_for, vars_for, total, AreReserved}
use Rattle.q_expand.specs.Steps.{each_with, copy_step, of_sign, linked, link_steps, unlink_steps, over_copies, split_steps, all_split, course}
use Rattle.q_expand.proofs.ExpansionBounds.{long}
use Rattle.q_expand.proofs.ExpansionRun.{parted_one, parted}

total-append : (f : ProofStep → ℕ) (ss more : List ProofStep) → total f (ss ++ more) ≡ total f ss + total f more
total-append f [] more = omega arith
total-append f (s ∷ ss) more = let i = total-append f ss more in omega arith

-- Steps for each variable.
abbrev repeated : ℕ → List ℕ → ℕ
repeated c [] = 0
repeated c (x ∷ V) = c + repeated c V

each-cost : (f : ProofStep → ℕ) (g : ℕ → ℕ → List ProofStep) (c : ℕ) → ((x t : ℕ) → total f (g x t) ≤ c) → (V : List ℕ) (t : ℕ) → total f (each_with g V t) ≤ repeated c V
each-cost f g c h [] t = omega arith
each-cost f g c h (x ∷ V) t =
    let a = total-append f (g x t) (each_with g V (t + 1)) in
    let b = h x t in
    let i = each-cost f g c h V (t + 1) in
    omega arith

times-0 : (V : List ℕ) → repeated 0 V ≡ 0
times-0 [] = refl
times-0 (x ∷ V) = let i = times-0 V in omega arith

times-1 : (V : List ℕ) → repeated 1 V ≡ length V
times-1 [] = refl
times-1 (x ∷ V) = let i = times-1 V in omega arith

times-2 : (V : List ℕ) → repeated 2 V ≡ 2 * length V
times-2 [] = refl
times-2 (x ∷ V) = let i = times-2 V in omega arith

times-6 : (V : List ℕ) → repeated 6 V ≡ 6 * length V
times-6 [] = refl
times-6 (x ∷ V) = let i = times-6 V in omega arith

times-32 : (V : List ℕ) → repeated 32 V ≡ 32 * length V
times-32 [] = refl
times-32 (x ∷ V) = let i = times-32 V in omega arith

times-128 : (V : List ℕ) → repeated 128 V ≡ 128 * length V
times-128 [] = refl
times-128 (x ∷ V) = let i = times-128 V in omega arith

link-length : (u : ℕ) (a b : Literal) → length (linked u a b) ≤ 3
link-length u a b =
    let i = insert-length a (insert (minus u) (b ∷ [])) in
    let j : length (insert (minus u) (b ∷ [])) ≤ 2 = insert-length (minus u) (b ∷ []) in
    omega arith

-- Steps for each clause.
over-length : (u : ℕ) (V : List ℕ) (t : ℕ) (D : Clause) → length (over_copies u V t D) ≤ length D + 1
over-length u V t D =
    let i = insert-length (minus u) (copied V t (without (minus u) D)) in
    let j = copied-length V t (without (minus u) D) in
    let h = without-shorter (minus u) D in
    omega arith

all-cost : (f : ProofStep → ℕ) (h : Clause → ℕ) (u : ℕ) (V : List ℕ) (t : ℕ) → ((D : Clause) → total f (split_steps u V t D) ≤ h D) → (W : Matrix) → total f (all_split u V t W) ≤ weight h W
all-cost f h u V t g [] = omega arith
all-cost f h u V t g (D ∷ W) =
    let a = total-append f (split_steps u V t D) (all_split u V t W) in
    let b = g D in
    let i = all-cost f h u V t g W in
    omega arith

module _ (u : ℕ) (V : List ℕ) (t : ℕ) where
  split-cost : (f : ProofStep → ℕ) (c : ℕ) (D : Clause) → f (add (first_of (over_copies u V t D)) (over_copies u V t D)) + (f (add (first_of (insert (positive u) D)) (insert (positive u) D)) + f (delete (first_of D) D)) ≤ c → total f (split_steps u V t D) ≤ c
  split-cost f c D h = go (has (positive u) D) (shares V D) (has (minus u) D)
    where
      go : (a b d : Bool) → total f (cond a [] (cond b (add (first_of (over_copies u V t D)) (over_copies u V t D) ∷ cond d (delete (first_of D) D ∷ []) (add (first_of (insert (positive u) D)) (insert (positive u) D) ∷ delete (first_of D) D ∷ [])) [])) ≤ c
      go true b d = omega arith
      go false false d = omega arith
      go false true true = omega arith
      go false true false = omega arith

  price-split : (D : Clause) → total price (split_steps u V t D) ≤ 96 * long D
  price-split D = split-cost price (96 * long D) D (let a = over-length u V t D in let b = insert-length (positive u) D in omega arith)

  words-split : (D : Clause) → total words_for (split_steps u V t D) ≤ 2 * long D
  words-split D = split-cost words_for (2 * long D) D (let a = over-length u V t D in let b = insert-length (positive u) D in omega arith)

  ids-split : (D : Clause) → total ids_for (split_steps u V t D) ≤ 2
  ids-split D = split-cost ids_for 2 D (omega arith)

  vars-split : (D : Clause) → total vars_for (split_steps u V t D) ≤ 0
  vars-split D = split-cost vars_for 0 D (omega arith)

pub weight-size : (W : Matrix) → weight long W ≡ size_of W
weight-size [] = refl
weight-size (D ∷ W) = let i = weight-size W in omega arith

weight-96 : (W : Matrix) → weight (λ D. 96 * long D) W ≡ 96 * size_of W
weight-96 [] = refl
weight-96 (D ∷ W) = let i = weight-96 W in omega arith

weight-twice : (W : Matrix) → weight (λ D. 2 * long D) W ≡ 2 * size_of W
weight-twice [] = refl
weight-twice (D ∷ W) = let i = weight-twice W in omega arith

weight-2 : (W : Matrix) → weight (λ D. 2) W ≡ 2 * length W
weight-2 [] = refl
weight-2 (D ∷ W) = let i = weight-2 W in omega arith

weight-0 : (W : Matrix) → weight (λ D. 0) W ≡ 0
weight-0 [] = refl
weight-0 (D ∷ W) = let i = weight-0 W in omega arith

-- All of them.
course-total : (f : ProofStep → ℕ) (u : ℕ) (V : List ℕ) (t : ℕ) (W : Matrix)
    → total f (course u V t W) ≡ total f (each_with copy_step V t) + (total f (each_with (link_steps u) V t) + (total f (all_split u V t W) + total f (each_with (unlink_steps u) V t)))
course-total f u V t W =
    let a = total-append f (each_with copy_step V t) (each_with (link_steps u) V t ++ (all_split u V t W ++ each_with (unlink_steps u) V t)) in
    let b = total-append f (each_with (link_steps u) V t) (all_split u V t W ++ each_with (unlink_steps u) V t) in
    let c = total-append f (all_split u V t W) (each_with (unlink_steps u) V t) in
    omega arith

pub course-price : (u : ℕ) (V : List ℕ) (t : ℕ) (W : Matrix) → total price (course u V t W) ≤ 288 * length V + 96 * size_of W
course-price u V t W =
    let e = course-total price u V t W in
    let a = each-cost price copy_step 32 (λ x c. omega arith) V t in
    let b = each-cost price (link_steps u) 128 (λ x c. let i = link-length u (of_sign c false) (of_sign x true) in let j = link-length u (of_sign c true) (of_sign x false) in omega arith) V t in
    let c = all-cost price (λ D. 96 * long D) u V t (price-split u V t) W in
    let d = each-cost price (unlink_steps u) 128 (λ x c. let i = link-length u (of_sign c false) (of_sign x true) in let j = link-length u (of_sign c true) (of_sign x false) in omega arith) V t in
    let f = weight-96 W in
    let g = times-32 V in
    let h = times-128 V in
    omega arith

pub course-words : (u : ℕ) (V : List ℕ) (t : ℕ) (W : Matrix) → total words_for (course u V t W) ≤ 6 * length V + 2 * size_of W
course-words u V t W =
    let e = course-total words_for u V t W in
    let a = each-cost words_for copy_step 0 (λ x c. omega arith) V t in
    let b = each-cost words_for (link_steps u) 6 (λ x c. let i = link-length u (of_sign c false) (of_sign x true) in let j = link-length u (of_sign c true) (of_sign x false) in omega arith) V t in
    let c = all-cost words_for (λ D. 2 * long D) u V t (words-split u V t) W in
    let d = each-cost words_for (unlink_steps u) 0 (λ x c. omega arith) V t in
    let f = weight-twice W in
    let g = times-0 V in
    let h = times-6 V in
    omega arith

pub course-ids : (u : ℕ) (V : List ℕ) (t : ℕ) (W : Matrix) → total ids_for (course u V t W) ≤ 2 * length V + 2 * length W
course-ids u V t W =
    let e = course-total ids_for u V t W in
    let a = each-cost ids_for copy_step 0 (λ x c. omega arith) V t in
    let b = each-cost ids_for (link_steps u) 2 (λ x c. omega arith) V t in
    let c = all-cost ids_for (λ D. 2) u V t (ids-split u V t) W in
    let d = each-cost ids_for (unlink_steps u) 0 (λ x c. omega arith) V t in
    let f = weight-2 W in
    let g = times-0 V in
    let h = times-2 V in
    omega arith

pub course-vars : (u : ℕ) (V : List ℕ) (t : ℕ) (W : Matrix) → total vars_for (course u V t W) ≤ length V
course-vars u V t W =
    let e = course-total vars_for u V t W in
    let a = each-cost vars_for copy_step 1 (λ x c. omega arith) V t in
    let b = each-cost vars_for (link_steps u) 0 (λ x c. omega arith) V t in
    let c = all-cost vars_for (λ D. 0) u V t (vars-split u V t) W in
    let d = each-cost vars_for (unlink_steps u) 0 (λ x c. omega arith) V t in
    let f = weight-0 W in
    let g = times-0 V in
    let h = times-1 V in
    omega arith

-- They add no more clauses and literals than they take ids and words.
pub rise-ids : (ss : List ProofStep) → rise one ss ≤ total ids_for ss
rise-ids [] = omega arith
rise-ids (add p C ∷ ss) = let i = rise-ids ss in omega arith
rise-ids (delete p C ∷ ss) = let i = rise-ids ss in omega arith
rise-ids (drop_literal l C ∷ ss) = let i = rise-ids ss in omega arith
rise-ids (fresh v x ∷ ss) = let i = rise-ids ss in omega arith
rise-ids (remove_variable v ∷ ss) = let i = rise-ids ss in omega arith

pub rise-words : (ss : List ProofStep) → rise length ss ≤ total words_for ss
rise-words [] = omega arith
rise-words (add p C ∷ ss) = let i = rise-words ss in omega arith
rise-words (delete p C ∷ ss) = let i = rise-words ss in omega arith
rise-words (drop_literal l C ∷ ss) = let i = rise-words ss in omega arith
rise-words (fresh v x ∷ ss) = let i = rise-words ss in omega arith
rise-words (remove_variable v ∷ ss) = let i = rise-words ss in omega arith

-- The fresh variables.
fresh-copies : (V : List ℕ) (t m : ℕ) → 1 ≤ t → t + length V ≤ m + 1 → FreshUpTo m (each_with copy_step V t)
fresh-copies [] t m o l = tt
fresh-copies (x ∷ V) t m o l = (o, omega arith, fresh-copies V (t + 1) m (omega arith) (omega arith))

fresh-links : (u : ℕ) (V : List ℕ) (t m : ℕ) → FreshUpTo m (each_with (link_steps u) V t)
fresh-links u [] t m = tt
fresh-links u (x ∷ V) t m = fresh-links u V (t + 1) m

fresh-unlinks : (u : ℕ) (V : List ℕ) (t m : ℕ) → FreshUpTo m (each_with (unlink_steps u) V t)
fresh-unlinks u [] t m = tt
fresh-unlinks u (x ∷ V) t m = fresh-unlinks u V (t + 1) m

fresh-split : (u : ℕ) (V : List ℕ) (t m : ℕ) (W : Matrix) → FreshUpTo m (all_split u V t W)
fresh-split u V t m [] = tt
fresh-split u V t m (D ∷ W) = fresh-append m (split_steps u V t D) (all_split u V t W) (go (has (positive u) D) (shares V D) (has (minus u) D)) (fresh-split u V t m W)
  where
    go : (a b d : Bool) → FreshUpTo m (cond a [] (cond b (add (first_of (over_copies u V t D)) (over_copies u V t D) ∷ cond d (delete (first_of D) D ∷ []) (add (first_of (insert (positive u) D)) (insert (positive u) D) ∷ delete (first_of D) D ∷ [])) []))
    go true b d = tt
    go false false d = tt
    go false true true = tt
    go false true false = tt

pub course-fresh : (u : ℕ) (V : List ℕ) (t m : ℕ) (W : Matrix) → 1 ≤ t → t + length V ≤ m + 1 → FreshUpTo m (course u V t W)
course-fresh u V t m W o l =
    fresh-append m (each_with copy_step V t) (each_with (link_steps u) V t ++ (all_split u V t W ++ each_with (unlink_steps u) V t)) (fresh-copies V t m o l)
    (fresh-append m (each_with (link_steps u) V t) (all_split u V t W ++ each_with (unlink_steps u) V t) (fresh-links u V t m)
    (fresh-append m (all_split u V t W) (each_with (unlink_steps u) V t) (fresh-split u V t m W) (fresh-unlinks u V t m)))

pub fresh-reserved : (m : ℕ) (ss : List ProofStep) → FreshUpTo m ss → AreReserved m ss
fresh-reserved m [] f = tt
fresh-reserved m (add p C ∷ ss) f = (tt, fresh-reserved m ss f)
fresh-reserved m (delete p C ∷ ss) f = (tt, fresh-reserved m ss f)
fresh-reserved m (drop_literal l C ∷ ss) f = (tt, fresh-reserved m ss f)
fresh-reserved m (fresh v x ∷ ss) f = (f.1, fresh-reserved m ss f.2)
fresh-reserved m (remove_variable v ∷ ss) f = (tt, fresh-reserved m ss f)

-- What comes of the clauses is at most four times as large.
pub parted-size : (u : ℕ) (V : List ℕ) (t : ℕ) (X : Matrix) → size_of (parted u V t X) ≤ 4 * size_of X
parted-size u V t [] = omega arith
parted-size u V t (D ∷ X) =
    let a = size-append (parted_one u V t D) (parted u V t X) in
    let b = single (has (positive u) D) (shares V D) (has (minus u) D) in
    let i = parted-size u V t X in
    omega arith
  where
    single : (a b d : Bool) → size_of (cond a (D ∷ []) (cond b (cond d (over_copies u V t D ∷ []) (insert (positive u) D ∷ over_copies u V t D ∷ [])) (D ∷ []))) ≤ 4 * (length D + 1)
    single true b d = omega arith
    single false false d = omega arith
    single false true true = let c = over-length u V t D in omega arith
    single false true false = let c = over-length u V t D in let e = insert-length (positive u) D in omega arith
