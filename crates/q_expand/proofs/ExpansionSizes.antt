-- The greatest variable, the clauses and the literals of an expansion.
use Rattle.std.proofs.Common.{◌≡◌, ◌<◌, ◌+◌, ℕ, Bool, true, false, cond, not, ◌&&◌, List, [], ◌∷◌, length, refl, sym, ◌∙◌, subst, inl, inr, arith, true≢false, length-append}
use Rattle.q_logic.specs.Prelude.{Literal, IsBelow, Clause, Matrix, Prefix, IsIn, ArePairs, has, with_literal, positive, literals_in, insert_after, has_variable, without, greatest, larger_of, clauses_of, shares, copied, expanded, touched_neither, insert_all}
use Rattle.q_logic.proofs.Common.{has-IsIn, without-IsIn, existential-is_bound, has_variable-IsIn, without-in_order}
use Rattle.q_logic.proofs.ExpandLinks.{minus}
use Rattle.q_logic.proofs.ExpandPrefix.{Above, AllE, alle-insert, above-insert}
use Rattle.q_logic.proofs.MeasureFallsExpand.{has_var-none}
use Rattle.q_kernel.proofs.VariableCounts.{greatest-inserted}
use Rattle.q_kernel.proofs.KernelInvariant.{length-shorter}
use Rattle.q_expand.proofs.ClauseCopies.{copied-long}

-- The copies are the greatest variables.
pub greatest-all : (V : List ℕ) (g : ℕ) (P : Prefix) → AllE P V → Above P (g + 1) → greatest P ≡ g → greatest (insert_all V (g + 1) P) ≡ g + length V
greatest-all [] g P e a q = q ∙ omega arith
greatest-all (x ∷ V) g P e a q =
    let b = greatest-inserted x (g + 1) P (existential-is_bound P x e.0) in
    let c : greatest (insert_after x (g + 1) P) ≡ g + 1 = larger (greatest P) (g + 1) (greatest (insert_after x (g + 1) P)) b q refl in
    let i = greatest-all V (g + 1) (insert_after x (g + 1) P) (alle-insert P x (g + 1) V a e.1) (above-insert P x (g + 1) a) c in
    i ∙ omega arith
  where
    larger : (p n r : ℕ) → r ≡ larger_of p n → p ≡ g → n ≡ g + 1 → r ≡ g + 1
    larger p n r e f h = omega arith

pub expanded-clauses : (u : ℕ) (V : List ℕ) (t : ℕ) (X : Matrix) → length (expanded u V t X) ≡ length X + length (touched_neither u V X)
expanded-clauses u V t [] = refl
expanded-clauses u V t (D ∷ X) = go (has (positive u) D) refl (has (minus u) D) refl (shares V D) (expanded-clauses u V t X)
  where
    held : (l : Literal) → l.var ≡ u → has l D ≡ true → has_variable u D ≡ true
    held l e h = subst (λ (x : ℕ). has_variable x D ≡ true) e (has_variable-IsIn D l (has-IsIn l D h))

    go : (a : Bool) → has (positive u) D ≡ a → (b : Bool) → has (minus u) D ≡ b → (s : Bool) → length (expanded u V t X) ≡ length X + length (touched_neither u V X)
        → length (cond a (without (positive u) D ∷ expanded u V t X) (cond b (copied V t (without (minus u) D) ∷ expanded u V t X) (cond s (D ∷ copied V t D ∷ expanded u V t X) (D ∷ expanded u V t X))))
        ≡ length (D ∷ X) + length (cond (not (has_variable u D) && s) (D ∷ touched_neither u V X) (touched_neither u V X))
    go true p b q s i = let h = held (positive u) refl p in rw h (omega arith)
    go false p true q s i = let h = held (minus u) refl q in rw h (omega arith)
    go false p false q true i = let h = has_var-none u D p q in rw h (omega arith)
    go false p false q false i = let h = has_var-none u D p q in rw h (omega arith)

pub expanded-lits : (u : ℕ) (V : List ℕ) (t : ℕ) (X : Matrix) → ((D : Clause) → IsIn D X → has (positive u) D ≡ true → has (minus u) D ≡ false) → ((D : Clause) → IsIn D X → ArePairs IsBelow D) → ((D : Clause) → IsIn D X → (k : Literal) → IsIn k D → k.var < t)
    → literals_in (expanded u V t X) + length (clauses_of u X) ≡ literals_in X + literals_in (touched_neither u V X)
expanded-lits u V t X c o h =
    let e = length-append (with_literal (positive u) X) (with_literal (minus u) X) in
    let i = sums X c o h in
    omega arith
  where
    sums : (X : Matrix) → ((D : Clause) → IsIn D X → has (positive u) D ≡ true → has (minus u) D ≡ false) → ((D : Clause) → IsIn D X → ArePairs IsBelow D) → ((D : Clause) → IsIn D X → (k : Literal) → IsIn k D → k.var < t)
        → literals_in (expanded u V t X) + (length (with_literal (positive u) X) + length (with_literal (minus u) X)) ≡ literals_in X + literals_in (touched_neither u V X)
    sums [] c o h = refl
    sums (D ∷ X) c o h = go (has (positive u) D) refl (has (minus u) D) refl (shares V D) (sums X (λ E m. c E (inr m)) (λ E m. o E (inr m)) (λ E m. h E (inr m)))
      where
        held : (l : Literal) → l.var ≡ u → has l D ≡ true → has_variable u D ≡ true
        held l e h = subst (λ (x : ℕ). has_variable x D ≡ true) e (has_variable-IsIn D l (has-IsIn l D h))

        shorter : (l : Literal) → has l D ≡ true → length D ≡ length (without l D) + 1
        shorter l e = length-shorter l D (o D (inl refl)) (has-IsIn l D e)

        long : (l : Literal) → length (copied V t (without l D)) ≡ length (without l D)
        long l = copied-long V t (without l D) (without-in_order l D (o D (inl refl))) (λ k m. h D (inl refl) k (without-IsIn l D k m))

        go : (a : Bool) → has (positive u) D ≡ a → (b : Bool) → has (minus u) D ≡ b → (s : Bool)
            → literals_in (expanded u V t X) + (length (with_literal (positive u) X) + length (with_literal (minus u) X)) ≡ literals_in X + literals_in (touched_neither u V X)
            → literals_in (cond a (without (positive u) D ∷ expanded u V t X) (cond b (copied V t (without (minus u) D) ∷ expanded u V t X) (cond s (D ∷ copied V t D ∷ expanded u V t X) (D ∷ expanded u V t X))))
            + (length (cond a (D ∷ with_literal (positive u) X) (with_literal (positive u) X)) + length (cond b (D ∷ with_literal (minus u) X) (with_literal (minus u) X)))
            ≡ literals_in (D ∷ X) + literals_in (cond (not (has_variable u D) && s) (D ∷ touched_neither u V X) (touched_neither u V X))
        go true p true q s i = absurd (true≢false (sym q ∙ c D (inl refl) p))
        go true p false q s i = let v = held (positive u) refl p in let z = shorter (positive u) p in rw v (omega arith)
        go false p true q s i = let v = held (minus u) refl q in let z = shorter (minus u) q in let y = long (minus u) in rw v (omega arith)
        go false p false q true i = let v = has_var-none u D p q in let y = copied-long V t D (o D (inl refl)) (h D (inl refl)) in rw v (omega arith)
        go false p false q false i = let v = has_var-none u D p q in rw v (omega arith)
