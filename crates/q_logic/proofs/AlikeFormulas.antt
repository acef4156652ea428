-- Formulas that are alike have the same valid steps, with the same results.
use Rattle.std.proofs.Common.{◌≡◌, ◌≤◌, ℕ, ◌*◌, List, ◌∷◌, ◌++◌, inl, inr, refl, sym, ◌∙◌, subst, Option, length}
use Rattle.q_logic.specs.declared.limits.Limits.{Limits}
use Rattle.q_logic.specs.Prelude.{Literal, negation, Clause, Matrix, Prefix, IsIn, PrenexFormula, Implied, outer, ExistsPivot, ForallPivot, without, Reached, Reducible, UndoEntry, Entries, OutersOf, AreAlike}
use Rattle.q_logic.specs.Steps.{ProofStep, add, delete, drop_literal, fresh, remove_variable, Valid, after, one_less, IsWarranted, IsDroppable, KeepsLimits, IsWrong, Cause, literals_in}
use Rattle.q_logic.proofs.Propagation.{implied-same}
use Rattle.q_logic.proofs.Outers.{every_outer-same}
use Rattle.q_logic.proofs.ClauseCounts.{one_less-same, same-sizes}
use Rattle.q_logic.proofs.JustifiedRuns.{SameClauses, IsIn-alike, alike-sym, alike-cons}

abbrev of : Prefix → Matrix → PrenexFormula
of P X = record { prefix = P; matrix = X }

-- the clauses of one are clauses of the other
abbrev pub Within : Matrix → Matrix → Type 0
Within X Y = (D : Clause) → IsIn D X → IsIn D Y

pub implied-within : (X Y : Matrix) (C : Clause) → Within X Y → Implied X C → Implied Y C
implied-within X Y C f i = implied-same X Y C C f (λ k m. m) i

pub exists_pivot-within : (P : Prefix) (X Y : Matrix) (C : Clause) (l : Literal) → Within X Y → Within Y X → ExistsPivot P X C l → ExistsPivot P Y C l
exists_pivot-within P X Y C l f g h = record { existential_pivot = h.existential_pivot; in_clause = h.in_clause; implied = λ D m n. implied-within X Y (C ++ outer P (negation l) D) f (h.implied D (g D m) n) }

pub forall_pivot-within : (P : Prefix) (X Y : Matrix) (C : Clause) (l : Literal) → Within X Y → Within Y X → ForallPivot P X C l → ForallPivot P Y C l
forall_pivot-within P X Y C l f g h = record { universal_pivot = h.universal_pivot; in_clause = h.in_clause; not_negated = h.not_negated; implied = λ D m n. implied-within X Y (without l C ++ outer P (negation l) D) f (h.implied D (g D m) n) }

pub reached-within : (P : Prefix) (X Y : Matrix) (C : Clause) (l : Literal) → Within X Y → (D : Clause) → Reached P X C l D → Reached P Y C l D
reached-within P X Y C l f D Reached.first = Reached.first
reached-within P X Y C l f D (Reached.next {D = B} E k a b c d m n r) = Reached.next E k a b c d (f E m) n (reached-within P X Y C l f B r)

pub reducible-within : (P : Prefix) (X Y : Matrix) (C : Clause) (l : Literal) → Within Y X → Reducible P X C l → Reducible P Y C l
reducible-within P X Y C l g h = record { universal_literal = h.universal_literal; in_clause = h.in_clause; no_negation = λ D r. h.no_negation D (reached-within P Y X C l g D r) }

pub warranted-within : (P : Prefix) (X Y : Matrix) (C : Clause) (p : Option Literal) → Within X Y → Within Y X → IsWarranted P X C p → IsWarranted P Y C p
warranted-within P X Y C p f g (inl i) = inl (implied-within X Y C f i)
warranted-within P X Y C p f g (inr (l, e, h)) = inr (l, e, exists_pivot-within P X Y C l f g h)

pub droppable-within : (P : Prefix) (X Y : Matrix) (C : Clause) (l : Literal) → Within X Y → Within Y X → IsDroppable P X C l → IsDroppable P Y C l
droppable-within P X Y C l f g (inl h) = inl (forall_pivot-within P X Y C l f g h)
droppable-within P X Y C l f g (inr h) = inr (reducible-within P X Y C l g h)

pub outers-same : (P : Prefix) (X Y : Matrix) (m : Literal) (os : List Clause) → SameClauses X Y → OutersOf P X m os → OutersOf P Y m os
outers-same P X Y m os s h O = h O ∙ every_outer-same P m X Y s O

pub less-within : (X Y : Matrix) → SameClauses X Y → (C : Clause) → Within (one_less C X) (one_less C Y)
less-within X Y s C = IsIn-alike (one_less C X) (one_less C Y) (one_less-same C X Y s)

module _ (P : Prefix) (X Y : Matrix) (s : SameClauses X Y) where
  more_limits : (C : Clause) (m : Limits) → KeepsLimits m (C ∷ X) → KeepsLimits m (C ∷ Y)
  more_limits C m h = let z : (length (C ∷ X) ≡ length (C ∷ Y)) × (literals_in (C ∷ X) ≡ literals_in (C ∷ Y)) = same-sizes (C ∷ X) (C ∷ Y) (alike-cons C X Y s) in record { clauses = subst (λ n. n ≤ 4 * m.clauses) z.0 h.clauses; lits = subst (λ n. n ≤ 4 * m.lits) z.1 h.lits }

  same_valid : (m : Limits) (s : ProofStep) → Valid m (of P X) s → Valid m (of P Y) s
  same_valid m (add p C) v = (v.0, warranted-within P X Y C p (IsIn-alike X Y s) (IsIn-alike Y X (alike-sym X Y s)) v.1, more_limits C m v.2)
  same_valid m (delete p C) v = (v.0, IsIn-alike X Y s C v.1, warranted-within P (one_less C X) (one_less C Y) C p (less-within X Y s C) (less-within Y X (alike-sym X Y s) C) v.2)
  same_valid m (drop_literal l C) v = (v.0, IsIn-alike X Y s C v.1, droppable-within P (one_less C X) (one_less C Y) C l (less-within X Y s C) (less-within Y X (alike-sym X Y s) C) v.2)
  same_valid m (fresh v w) h = h
  same_valid m (remove_variable v) h = (h.0, λ D d. h.1 D (IsIn-alike Y X (alike-sym X Y s) D d))

  same_after : (s : ProofStep) → AreAlike (after (of P X) s) (after (of P Y) s)
  same_after (add p C) = record { prefix = refl; clauses = alike-cons C X Y s }
  same_after (delete p C) = record { prefix = refl; clauses = one_less-same C X Y s }
  same_after (drop_literal l C) = record { prefix = refl; clauses = alike-cons (without l C) (one_less C X) (one_less C Y) (one_less-same C X Y s) }
  same_after (fresh v w) = record { prefix = refl; clauses = s }
  same_after (remove_variable v) = record { prefix = refl; clauses = s }

  same_entries : (s : ProofStep) (us : List UndoEntry) → Entries (of P X) s us → Entries (of P Y) s us
  same_entries (add p C) us e = e
  same_entries (delete p C) us (inl e) = inl (implied-within (one_less C X) (one_less C Y) C (less-within X Y s C) e.0, e.1)
  same_entries (delete p C) us (inr (n, (l, os, f, o, g))) = inr ((λ i. n (implied-within (one_less C Y) (one_less C X) C (less-within Y X (alike-sym X Y s) C) i)), (l, os, f, outers-same P (one_less C X) (one_less C Y) (negation l) os (one_less-same C X Y s) o, g))
  same_entries (drop_literal l C) us e = e
  same_entries (fresh v w) us e = e
  same_entries (remove_variable v) us e = e

module _ (P : Prefix) (X Y : Matrix) (s : SameClauses X Y) where
  swapped : SameClauses Y X
  swapped = alike-sym X Y s

  -- what is wrong over one matrix is wrong over the other
  same_wrong : (m : Limits) (t : ProofStep) (n : ℕ) → IsWrong m (of P X) t n → IsWrong m (of P Y) t n
  same_wrong m (add p C) n (inl w) = inl w
  same_wrong m (add p C) n (inr (inl w)) = inr (inl (w.0, λ v. w.1 (warranted-within P Y X C p (IsIn-alike Y X swapped) (IsIn-alike X Y s) v)))
  same_wrong m (add p C) n (inr (inr w)) = inr (inr (w.0, λ v. w.1 (more_limits P Y X swapped C m v)))
  same_wrong m (delete p C) n (inl w) = inl w
  same_wrong m (delete p C) n (inr (inl w)) = inr (inl (w.0, λ v. w.1 (IsIn-alike Y X swapped C v)))
  same_wrong m (delete p C) n (inr (inr w)) = inr (inr (w.0, λ v. w.1 (warranted-within P (one_less C Y) (one_less C X) C p (less-within Y X swapped C) (less-within X Y s C) v)))
  same_wrong m (drop_literal l C) n (inl w) = inl w
  same_wrong m (drop_literal l C) n (inr (inl w)) = inr (inl (w.0, λ v. w.1 (IsIn-alike Y X swapped C v)))
  same_wrong m (drop_literal l C) n (inr (inr w)) = inr (inr (w.0, λ v. w.1 (droppable-within P (one_less C Y) (one_less C X) C l (less-within Y X swapped C) (less-within X Y s C) v)))
  same_wrong m (fresh v w) n h = h
  same_wrong m (remove_variable v) n (inl w) = inl w
  same_wrong m (remove_variable v) n (inr w) = inr (w.0, λ h. w.1 (λ D d. h D (IsIn-alike X Y s D d)))

pub alike_itself : (F : PrenexFormula) → AreAlike F F
alike_itself F = record { prefix = refl; clauses = λ C. refl }

pub alike_swapped : (F G : PrenexFormula) → AreAlike F G → AreAlike G F
alike_swapped F G a = record { prefix = sym a.prefix; clauses = λ C. sym (a.clauses C) }

pub alike_through : (F G H : PrenexFormula) → AreAlike F G → AreAlike G H → AreAlike F H
alike_through F G H a b = record { prefix = a.prefix ∙ b.prefix; clauses = λ C. a.clauses C ∙ b.clauses C }

pub alike_valid : (m : Limits) (F G : PrenexFormula) (s : ProofStep) → AreAlike F G → Valid m F s → Valid m G s
alike_valid m F G s a v = subst (λ (P : Prefix). Valid m (of P G.matrix) s) a.prefix (same_valid F.prefix F.matrix G.matrix a.clauses m s v)

pub alike_wrong : (m : Limits) (F G : PrenexFormula) (s : ProofStep) (n : ℕ) → AreAlike F G → IsWrong m F s n → IsWrong m G s n
alike_wrong m F G s n a w = subst (λ (P : Prefix). IsWrong m (of P G.matrix) s n) a.prefix (same_wrong F.prefix F.matrix G.matrix a.clauses m s n w)

pub alike_cause : (m : Limits) (F G : PrenexFormula) (s : ProofStep) (n : ℕ) → AreAlike F G → Cause m F s n → Cause m G s n
alike_cause m F G s n a c = record { applies = alike_wrong m F G s n a c.applies; least = λ k h w. c.least k h (alike_wrong m G F s k (alike_swapped F G a) w) }

pub alike_after : (F G : PrenexFormula) (s : ProofStep) → AreAlike F G → AreAlike (after F s) (after G s)
alike_after F G s a = subst (λ (P : Prefix). AreAlike (after F s) (after (of P G.matrix) s)) a.prefix (same_after F.prefix F.matrix G.matrix a.clauses s)

pub alike_entries : (F G : PrenexFormula) (s : ProofStep) (us : List UndoEntry) → AreAlike F G → Entries F s us → Entries G s us
alike_entries F G s us a e = subst (λ (P : Prefix). Entries (of P G.matrix) s us) a.prefix (same_entries F.prefix F.matrix G.matrix a.clauses s us e)
