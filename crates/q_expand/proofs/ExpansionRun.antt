-- The steps of an expansion lead to clauses that the universal variable keeps apart.
use Rattle.std.proofs.Common.{◌≡◌, ◌+◌, ℕ, Bool, true, false, cond, List, [], ◌∷◌, ◌++◌, Some, refl, sym, ◌∙◌, ap, subst, inl, inr, append_assoc}
use Rattle.q_logic.specs.Prelude.{Literal, Clause, Matrix, Prefix, IsIn, is_bound, insert, has, positive, first_of, ProofStep, add, delete, fresh, copies, without, formula_of, in_list, shares, copy_of, copied, copied_literal}
use Rattle.q_logic.proofs.Common.{Reaches, alike-refl, alike-trans, alike-cons, alike-swap, reaches-alike, reaches-append, reaches-end, implied-subsumed, implied-hidden, existential-is_bound, insert-IsIn, IsIn-insert, without-IsIn, has-IsIn, Expansion, copied-IsIn, IsIn-append_right, alike-swap_front}
use Rattle.q_logic.proofs.ChangeRuns.{reaches-delete}
use Rattle.q_logic.proofs.ExpandPrefix.{CopyOf, copy_of-in, copy_of-out, freshes}
use Rattle.q_logic.proofs.ExpandLinks as theory
use Rattle.q_logic.proofs.ExpandLinks.{lit, minus, links, links-in, over_copies-implied, implied-by_copies}
use Rattle.q_expand.specs.Steps.{each_with, copy_step, linked, link_steps, unlink_steps, over_copies, split_steps, all_split}

-- The steps for all variables are those of the theory.
pub copies-are : (V : List ℕ) (t : ℕ) → freshes V t ≡ each_with copy_step V t
copies-are [] t = refl
copies-are (x ∷ V) t = ap (λ (ss : List ProofStep). fresh t x ∷ ss) (copies-are V (t + 1))

pub links-are : (u : ℕ) (V : List ℕ) (t : ℕ) → theory.link_steps u V t ≡ each_with (link_steps u) V t
links-are u [] t = refl
links-are u (x ∷ V) t = ap (λ (ss : List ProofStep). add (Some (lit t false)) (linked u (lit t false) (lit x true)) ∷ add (Some (lit t true)) (linked u (lit t true) (lit x false)) ∷ ss) (links-are u V (t + 1))

pub unlinks-are : (u : ℕ) (V : List ℕ) (t : ℕ) → theory.unlink_steps u V t ≡ each_with (unlink_steps u) V t
unlinks-are u [] t = refl
unlinks-are u (x ∷ V) t = ap (λ (ss : List ProofStep). delete (Some (lit x true)) (linked u (lit t false) (lit x true)) ∷ delete (Some (lit x false)) (linked u (lit t true) (lit x false)) ∷ ss) (unlinks-are u V (t + 1))

-- What comes of a clause.
abbrev pub parted_one : ℕ → List ℕ → ℕ → Clause → Matrix
parted_one u V t D =
    cond (has (positive u) D) (D ∷ [])
    (cond (shares V D) (cond (has (minus u) D) (over_copies u V t D ∷ []) (insert (positive u) D ∷ over_copies u V t D ∷ [])) (D ∷ []))

abbrev pub parted : ℕ → List ℕ → ℕ → Matrix → Matrix
parted u V t [] = []
parted u V t (D ∷ X) = parted_one u V t D ++ parted u V t X

module _ (Q : Prefix) (X : Matrix) (u : ℕ) (V : List ℕ) (t : ℕ) (x : Expansion Q X u V t) where
  over-bound : (D : Clause) → IsIn D X → (k : Literal) → IsIn k (over_copies u V t D) → is_bound Q k.var ≡ true
  over-bound D m k i = elim (insert-IsIn (minus u) (copied V t (without (minus u) D)) k i) [
    | inl e ↦ subst (λ y. is_bound Q y.var ≡ true) (sym e) x.u_bound
    | inr n ↦ go (copied-IsIn V t (without (minus u) D) k n)
  ]
    where
      one : (j : Literal) → IsIn j D → (b : Bool) → in_list j.var V ≡ b → is_bound Q (copy_of V t j.var) ≡ true
      one j a true q = existential-is_bound Q (copy_of V t j.var) (copy_of-in (CopyOf Q) V t j.var x.copies_there q).0.0
      one j a false q = subst (λ v. is_bound Q v ≡ true) (sym (copy_of-out V t j.var q)) (x.all_bound D m j a)

      go : ((j : Literal) × IsIn j (without (minus u) D) × (k ≡ copied_literal V t j)) → is_bound Q k.var ≡ true
      go (j, a, e) = subst (λ y. is_bound Q y.var ≡ true) (sym e) (one j (without-IsIn (minus u) D j a) (in_list j.var V) refl)

  with-bound : (D : Clause) → IsIn D X → (k : Literal) → IsIn k (insert (positive u) D) → is_bound Q k.var ≡ true
  with-bound D m k i = elim (insert-IsIn (positive u) D k i) [ inl e ↦ subst (λ y. is_bound Q y.var ≡ true) (sym e) x.u_bound | inr n ↦ x.all_bound D m k n ]

  -- one clause, beside the links
  reaches-one : (D : Clause) (Y : Matrix) → IsIn D X → ((L : Clause) → IsIn L (links u V t) → IsIn L Y) → Reaches (formula_of Q (D ∷ Y)) (split_steps u V t D) (formula_of Q (parted_one u V t D ++ Y))
  reaches-one D Y m l = go (has (positive u) D) (shares V D) (has (minus u) D) refl
    where
      O : Clause
      O = over_copies u V t D

      I : Clause
      I = insert (positive u) D

      go : (a b c : Bool) → has (minus u) D ≡ c
          → Reaches (formula_of Q (D ∷ Y))
          (cond a [] (cond b (add (first_of (over_copies u V t D)) (over_copies u V t D) ∷ cond c (delete (first_of D) D ∷ []) (add (first_of (insert (positive u) D)) (insert (positive u) D) ∷ delete (first_of D) D ∷ [])) []))
          (formula_of Q (cond a (D ∷ []) (cond b (cond c (over_copies u V t D ∷ []) (insert (positive u) D ∷ over_copies u V t D ∷ [])) (D ∷ [])) ++ Y))
      go true b c q = (refl, alike-refl (D ∷ Y))
      go false false c q = (refl, alike-refl (D ∷ Y))
      go false true true q = (
        (over-bound D m, inl (over_copies-implied (D ∷ Y) u V t D (links-in (D ∷ Y) u V t (λ L i. inr (l L i))) (inl refl))),
        reaches-delete Q (first_of D) D (over_copies u V t D ∷ Y) (over_copies u V t D ∷ D ∷ Y) (alike-swap (over_copies u V t D) D Y)
            (inl (implied-by_copies (over_copies u V t D ∷ Y) u V t D D (links-in (over_copies u V t D ∷ Y) u V t (λ L i. inr (l L i))) (inl refl) (has-IsIn (minus u) D q) (λ k i. without-IsIn (minus u) D k i))),
      )
      go false true false q = (
        (over-bound D m, inl (over_copies-implied (D ∷ Y) u V t D (links-in (D ∷ Y) u V t (λ L i. inr (l L i))) (inl refl))),
        (
          (with-bound D m, inl (implied-subsumed (over_copies u V t D ∷ D ∷ Y) D (insert (positive u) D) (inr (inl refl)) (λ k j. IsIn-insert (positive u) D k (inr j)))),
          reaches-delete Q (first_of D) D (insert (positive u) D ∷ over_copies u V t D ∷ Y) (insert (positive u) D ∷ over_copies u V t D ∷ D ∷ Y)
              (alike-trans (insert (positive u) D ∷ over_copies u V t D ∷ D ∷ Y) (insert (positive u) D ∷ D ∷ over_copies u V t D ∷ Y) (D ∷ insert (positive u) D ∷ over_copies u V t D ∷ Y)
              (alike-cons (insert (positive u) D) (over_copies u V t D ∷ D ∷ Y) (D ∷ over_copies u V t D ∷ Y) (alike-swap (over_copies u V t D) D Y))
              (alike-swap (insert (positive u) D) D (over_copies u V t D ∷ Y)))
              (inl (implied-hidden (insert (positive u) D ∷ over_copies u V t D ∷ Y) (insert (positive u) D) D (positive u) (inl refl) (IsIn-insert (positive u) D (positive u) (inl refl))
              (λ j n d. elim (insert-IsIn (positive u) D j n) [ inl e ↦ absurd (d e) | inr k ↦ k ])
              (implied-by_copies (insert (positive u) D ∷ over_copies u V t D ∷ Y) u V t D (minus u ∷ D) (links-in (insert (positive u) D ∷ over_copies u V t D ∷ Y) u V t (λ L i. inr (inr (l L i)))) (inr (inl refl)) (inl refl) (λ k n. inr (without-IsIn (minus u) D k n))))),
        ),
      )

  -- the clauses one after the other
  pub reaches-parted : (W Y : Matrix) → ((D : Clause) → IsIn D W → IsIn D X) → ((L : Clause) → IsIn L (links u V t) → IsIn L Y) → Reaches (formula_of Q (W ++ Y)) (all_split u V t W) (formula_of Q (parted u V t W ++ Y))
  reaches-parted [] Y m l = (refl, alike-refl Y)
  reaches-parted (D ∷ W) Y m l =
      reaches-append (formula_of Q (D ∷ (W ++ Y))) (split_steps u V t D) (all_split u V t W) (formula_of Q (parted_one u V t D ++ (W ++ Y))) (formula_of Q (parted u V t (D ∷ W) ++ Y))
      (reaches-one D (W ++ Y) (m D (inl refl)) (λ L i. IsIn-append_right L W Y (l L i)))
      (reaches-alike Q (W ++ (parted_one u V t D ++ Y)) (parted_one u V t D ++ (W ++ Y)) (all_split u V t W) (formula_of Q (parted u V t (D ∷ W) ++ Y)) (alike-swap_front W (parted_one u V t D) Y)
      (reaches-end Q (parted u V t W ++ (parted_one u V t D ++ Y)) (parted u V t (D ∷ W) ++ Y) (formula_of Q (W ++ (parted_one u V t D ++ Y))) (all_split u V t W)
      (λ C. alike-swap_front (parted u V t W) (parted_one u V t D) Y C ∙ ap (copies C) (sym (append_assoc (parted_one u V t D) (parted u V t W) Y)))
      (reaches-parted W (parted_one u V t D ++ Y) (λ E i. m E (inr i)) (λ L i. IsIn-append_right L (parted_one u V t D) Y (l L i)))))
