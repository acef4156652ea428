-- Once u has left all clauses, they are those of the expansion.
use Rattle.std.proofs.Common.{◌≡◌, ◌<◌, ◌≤◌, ℕ, Bool, true, false, cond, List, [], ◌∷◌, ◌++◌, refl, sym, ◌∙◌, ap, subst, inl, inr, arith, true≢false}
use Rattle.q_logic.specs.Prelude.{Literal, literal_eq, IsBelow, Clause, Matrix, Prefix, IsIn, ArePairs, insert, clause_of, has, each_without, positive, without, in_list, shares, copy_of, copied, copied_literal, expanded}
use Rattle.q_logic.proofs.Common.{literal_eq-itself, clause_of-ordered_clause, IsIn-has_not, without-same, without-IsIn, without-other, Expansion, copied-IsIn, has_none, without-in_order}
use Rattle.q_logic.proofs.ExpandPrefix.{CopyOf, copy_of-in, copy_of-out}
use Rattle.q_logic.proofs.ExpandLinks.{minus}
use Rattle.q_logic.proofs.ExpandParts.{without-insert}
use Rattle.q_logic.proofs.LeastClosure.{shares-of}
use Rattle.q_logic.proofs.ExpandRun.{no_literal}
use Rattle.q_expand.specs.Steps.{over_copies}
use Rattle.q_expand.proofs.ExpansionRun.{parted_one, parted}

-- u and not u leave all clauses
abbrev pub finished : ℕ → Matrix → Matrix
finished u Z = each_without (minus u) (each_without (positive u) Z)

each-append : (l : Literal) (A B : Matrix) → each_without l (A ++ B) ≡ each_without l A ++ each_without l B
each-append l [] B = refl
each-append l (D ∷ A) B = ap (λ (X : Matrix). without l D ∷ X) (each-append l A B)

pub finished-append : (u : ℕ) (A B : Matrix) → finished u (A ++ B) ≡ finished u A ++ finished u B
finished-append u A B = ap (each_without (minus u)) (each-append (positive u) A B) ∙ each-append (minus u) (each_without (positive u) A) (each_without (positive u) B)

-- what an expansion makes of a clause
abbrev expanded_list : ℕ → List ℕ → ℕ → Clause → Matrix
expanded_list u V t D =
    cond (has (positive u) D) (without (positive u) D ∷ [])
    (cond (has (minus u) D) (copied V t (without (minus u) D) ∷ []) (cond (shares V D) (D ∷ copied V t D ∷ []) (D ∷ [])))

expanded-front : (u : ℕ) (V : List ℕ) (t : ℕ) (D : Clause) (X : Matrix) → expanded u V t (D ∷ X) ≡ expanded_list u V t D ++ expanded u V t X
expanded-front u V t D X = go (has (positive u) D) (has (minus u) D) (shares V D) (expanded u V t X)
  where
    go : (a b c : Bool) (Y : Matrix)
        → cond a (without (positive u) D ∷ Y) (cond b (copied V t (without (minus u) D) ∷ Y) (cond c (D ∷ copied V t D ∷ Y) (D ∷ Y)))
        ≡ cond a (without (positive u) D ∷ []) (cond b (copied V t (without (minus u) D) ∷ []) (cond c (D ∷ copied V t D ∷ []) (D ∷ []))) ++ Y
    go true b c Y = refl
    go false true c Y = refl
    go false false true Y = refl
    go false false false Y = refl

-- a clause without copied variables is its own copy
imaged-same : (V : List ℕ) (t : ℕ) (C : Clause) → ((k : Literal) → IsIn k C → in_list k.var V ≡ false) → copied V t C ≡ clause_of C
imaged-same V t [] h = refl
imaged-same V t (k ∷ C) h =
    let e : copied_literal V t k ≡ k = λ i. record { var = (copy_of-out V t k.var (h k (inl refl))) i; negative = k.negative } in
    ap (λ (l : Literal). insert l (copied V t C)) e ∙ ap (insert k) (imaged-same V t C (λ j m. h j (inr m)))

copied-same : (V : List ℕ) (t : ℕ) (C : Clause) → ArePairs IsBelow C → ((k : Literal) → IsIn k C → in_list k.var V ≡ false) → copied V t C ≡ C
copied-same V t C o h = imaged-same V t C h ∙ clause_of-ordered_clause C o

module _ (Q : Prefix) (X : Matrix) (u : ℕ) (V : List ℕ) (t : ℕ) (x : Expansion Q X u V t) (ordered : (D : Clause) → IsIn D X → ArePairs IsBelow D) where
  -- no literal of u is left in a clause over copies
  no_own : (l : Literal) (D : Clause) → l.var ≡ u → literal_eq l l ≡ true → ((j : Literal) → IsIn j D → literal_eq j l ≡ false) → has l (copied V t D) ≡ false
  no_own l D v s h = has_none l (copied V t D) (λ m. go (copied-IsIn V t D l m))
    where
      one : (j : Literal) → IsIn j D → l ≡ copied_literal V t j → (b : Bool) → in_list j.var V ≡ b → ⊥
      one j a e true q =
          let i : t ≤ copy_of V t j.var = (copy_of-in (CopyOf Q) V t j.var x.copies_there q).1 in
          let b : u < t = x.u_below in
          let w : l.var ≡ copy_of V t j.var = ap (λ (y : Literal). y.var) e in
          omega arith
      one j a e false q =
          let w : l ≡ j = e ∙ (λ i. record { var = (copy_of-out V t j.var q) i; negative = j.negative }) in
          true≢false (sym s ∙ subst (λ (y : Literal). literal_eq y l ≡ false) (sym w) (h j a))

      go : ((j : Literal) × IsIn j D × (l ≡ copied_literal V t j)) → ⊥
      go (j, a, e) = one j a e (in_list j.var V) refl

  over-done : (D : Clause) → has (positive u) D ≡ false → without (minus u) (without (positive u) (over_copies u V t D)) ≡ copied V t (without (minus u) D)
  over-done D p =
      let C = without (minus u) D in
      let a : has (minus u) (copied V t C) ≡ false = no_own (minus u) C refl (literal_eq-itself (minus u)) (λ j m. without-other (minus u) D j m) in
      let b : has (positive u) (copied V t C) ≡ false = no_own (positive u) C refl (literal_eq-itself (positive u)) (λ j m. no_literal (positive u) D p j (without-IsIn (minus u) D j m)) in
      let c : has (positive u) (insert (minus u) (copied V t C)) ≡ false = has_none (positive u) (insert (minus u) (copied V t C)) (λ m. elim (Rattle.q_logic.proofs.JoinedClauses.insert-IsIn (minus u) (copied V t C) (positive u) m) [
        | inl e ↦ true≢false (ap (λ (y : Literal). y.negative) (sym e))
        | inr i ↦ IsIn-has_not (positive u) (copied V t C) b i
      ]) in
      ap (without (minus u)) (without-same (positive u) (insert (minus u) (copied V t C)) c) ∙ without-insert (minus u) (copied V t C) a

  finished-one : (D : Clause) → IsIn D X → finished u (parted_one u V t D) ≡ expanded_list u V t D
  finished-one D m = go (has (positive u) D) refl (shares V D) refl (has (minus u) D) refl
    where
      go : (a : Bool) → has (positive u) D ≡ a → (b : Bool) → shares V D ≡ b → (c : Bool) → has (minus u) D ≡ c
          → finished u (cond a (D ∷ []) (cond b (cond c (over_copies u V t D ∷ []) (insert (positive u) D ∷ over_copies u V t D ∷ [])) (D ∷ [])))
          ≡ cond a (without (positive u) D ∷ []) (cond c (copied V t (without (minus u) D) ∷ []) (cond b (D ∷ copied V t D ∷ []) (D ∷ [])))
      go true p b q true r = absurd (true≢false (sym r ∙ x.not_both D m p))
      go true p b q false r = ap (λ (C : Clause). C ∷ []) (without-same (minus u) (without (positive u) D) (has_none (minus u) (without (positive u) D) (λ i. IsIn-has_not (minus u) D r (without-IsIn (positive u) D (minus u) i))))
      go false p true q true r = ap (λ (C : Clause). C ∷ []) (over-done D p)
      go false p true q false r =
          let a : without (minus u) (without (positive u) (insert (positive u) D)) ≡ D = ap (without (minus u)) (without-insert (positive u) D p) ∙ without-same (minus u) D r in
          let b : without (minus u) (without (positive u) (over_copies u V t D)) ≡ copied V t D = over-done D p ∙ ap (copied V t) (without-same (minus u) D r) in
          λ i. a i ∷ b i ∷ []
      go false p false q true r =
          ap (λ (C : Clause). C ∷ []) (ap (without (minus u)) (without-same (positive u) D p)
          ∙ sym (copied-same V t (without (minus u) D) (without-in_order (minus u) D (ordered D m)) (λ k i. unshared k (without-IsIn (minus u) D k i) (in_list k.var V) refl)))
        where
          unshared : (k : Literal) → IsIn k D → (b : Bool) → in_list k.var V ≡ b → in_list k.var V ≡ false
          unshared k i true e = absurd (true≢false (sym (shares-of V D k i e) ∙ q))
          unshared k i false e = e
      go false p false q false r = ap (λ (C : Clause). C ∷ []) (ap (without (minus u)) (without-same (positive u) D p) ∙ without-same (minus u) D r)

  -- clause by clause
  pub finished-parted : (W : Matrix) → ((D : Clause) → IsIn D W → IsIn D X) → finished u (parted u V t W) ≡ expanded u V t W
  finished-parted [] w = refl
  finished-parted (D ∷ W) w =
      finished-append u (parted_one u V t D) (parted u V t W)
      ∙ (ap (λ (A : Matrix). A ++ finished u (parted u V t W)) (finished-one D (w D (inl refl)))
      ∙ (ap (λ (B : Matrix). expanded_list u V t D ++ B) (finished-parted W (λ E i. w E (inr i))) ∙ sym (expanded-front u V t D W)))
