-- Why a step with its proof part is refused: the least cause that applies.
use Rattle.std.proofs.Common.{◌≡◌, ℕ, true, false, ◌∷◌, Option, Some, inl, inr, arith, refl, sym, ◌∙◌, true≢false}
use Rattle.q_logic.specs.declared.limits.Limits.{Limits}
use Rattle.q_logic.specs.declared.proof_part.ProofKind.TheVariants.{Nothing}
use Rattle.q_logic.specs.Prelude.{Literal, Clause, NumberedFormula, ProofPart, beside, Shows, ShowsDrop, IsUndroppable, HintedCause, slot, live, is_bound, add, delete, drop_literal, fresh, remove_variable, Within, KeepsLimits, IsFresh, IsAbsent}

module _ (m : Limits) (F : NumberedFormula) (p : Option Literal) (C : Clause) (t : ProofPart) where
  pub add-unbound : (Within F.prefix C → ⊥) → HintedCause m F (add p C) t 2
  add-unbound n = record {
    applies = inl (refl, n);
    least = λ k l w. elim w [ inl a ↦ let e = a.0 in omega arith | inr b ↦ elim b [ inl a ↦ let e = a.0 in omega arith | inr a ↦ let e = a.0 in omega arith ] ];
  }

  pub add-full : Within F.prefix C → (KeepsLimits m (C ∷ live F.slots) → ⊥) → HintedCause m F (add p C) t 8
  add-full h n = record {
    applies = inr (inl (refl, n));
    least = λ k l w. elim w [ inl a ↦ a.1 h | inr b ↦ elim b [ inl a ↦ let e = a.0 in omega arith | inr a ↦ let e = a.0 in omega arith ] ];
  }

  pub add-bad : Within F.prefix C → KeepsLimits m (C ∷ live F.slots) → (Shows F.prefix F.slots C p t → ⊥) → HintedCause m F (add p C) t 12
  add-bad h r n = record {
    applies = inr (inr (refl, n));
    least = λ k l w. elim w [ inl a ↦ a.1 h | inr b ↦ elim b [ inl a ↦ a.1 r | inr a ↦ let e = a.0 in omega arith ] ];
  }

  pub delete-unbound : (Within F.prefix C → ⊥) → HintedCause m F (delete p C) t 2
  delete-unbound n = record {
    applies = inl (refl, n);
    least = λ k l w. elim w [ inl a ↦ let e = a.0 in omega arith | inr b ↦ elim b [ inl a ↦ let e = a.0 in omega arith | inr a ↦ let e = a.0 in omega arith ] ];
  }

  pub delete-missing : Within F.prefix C → (slot F.slots t.number ≡ Some C → ⊥) → HintedCause m F (delete p C) t 3
  delete-missing h n = record {
    applies = inr (inl (refl, n));
    least = λ k l w. elim w [ inl a ↦ a.1 h | inr b ↦ elim b [ inl a ↦ let e = a.0 in omega arith | inr a ↦ let e = a.0 in omega arith ] ];
  }

  pub delete-bad : Within F.prefix C → slot F.slots t.number ≡ Some C → (Shows F.prefix (beside t.number F) C p t → ⊥) → HintedCause m F (delete p C) t 12
  delete-bad h r n = record {
    applies = inr (inr (refl, n));
    least = λ k l w. elim w [ inl a ↦ a.1 h | inr b ↦ elim b [ inl a ↦ a.1 r | inr a ↦ let e = a.0 in omega arith ] ];
  }

module _ (m : Limits) (F : NumberedFormula) (j : Literal) (C : Clause) (t : ProofPart) where
  pub drop-unbound : (Within F.prefix C → ⊥) → HintedCause m F (drop_literal j C) t 2
  drop-unbound n = record {
    applies = inl (refl, n);
    least = λ k l w. elim w [ inl a ↦ let e = a.0 in omega arith | inr b ↦ elim b [ inl a ↦ let e = a.0 in omega arith | inr d ↦ elim d [ inl a ↦ let e = a.0 in omega arith | inr a ↦ let e = a.0 in omega arith ] ] ];
  }

  pub drop-missing : Within F.prefix C → (slot F.slots t.number ≡ Some C → ⊥) → HintedCause m F (drop_literal j C) t 3
  drop-missing h n = record {
    applies = inr (inl (refl, n));
    least = λ k l w. elim w [ inl a ↦ a.1 h | inr b ↦ elim b [ inl a ↦ let e = a.0 in omega arith | inr d ↦ elim d [ inl a ↦ let e = a.0 in omega arith | inr a ↦ let e = a.0 in omega arith ] ] ];
  }

  pub drop-undroppable : Within F.prefix C → slot F.slots t.number ≡ Some C → IsUndroppable F.prefix (live (beside t.number F)) C j t → HintedCause m F (drop_literal j C) t 5
  drop-undroppable h r u = record {
    applies = inr (inr (inl (refl, u)));
    least = λ k l w. elim w [ inl a ↦ a.1 h | inr b ↦ elim b [ inl a ↦ a.1 r | inr d ↦ elim d [ inl a ↦ let e = a.0 in omega arith | inr a ↦ let e = a.0 in omega arith ] ] ];
  }

  pub drop-bad : Within F.prefix C → slot F.slots t.number ≡ Some C → (IsUndroppable F.prefix (live (beside t.number F)) C j t → ⊥) → (ShowsDrop F.prefix (beside t.number F) C j t → ⊥) → HintedCause m F (drop_literal j C) t 12
  drop-bad h r u n = record {
    applies = inr (inr (inr (refl, n)));
    least = λ k l w. elim w [ inl a ↦ a.1 h | inr b ↦ elim b [ inl a ↦ a.1 r | inr d ↦ elim d [ inl a ↦ u a.1 | inr a ↦ let e = a.0 in omega arith ] ] ];
  }

module _ (m : Limits) (F : NumberedFormula) (v w : ℕ) (t : ProofPart) where
  pub fresh-refused : (IsFresh m F.prefix v w → ⊥) → HintedCause m F (fresh v w) t 6
  fresh-refused n = record {
    applies = inl (refl, n);
    least = λ k l x. elim x [ inl a ↦ let e = a.0 in omega arith | inr a ↦ let e = a.0 in omega arith ];
  }

  pub fresh-bad : IsFresh m F.prefix v w → (t.kind ≡ Nothing → ⊥) → HintedCause m F (fresh v w) t 12
  fresh-bad h n = record {
    applies = inr (refl, n);
    least = λ k l x. elim x [ inl a ↦ a.1 h | inr a ↦ let e = a.0 in omega arith ];
  }

module _ (m : Limits) (F : NumberedFormula) (v : ℕ) (t : ProofPart) where
  pub remove-unbound : is_bound F.prefix v ≡ false → HintedCause m F (remove_variable v) t 2
  remove-unbound n = record {
    applies = inl (refl, n);
    least = λ k l w. elim w [ inl a ↦ let e = a.0 in omega arith | inr b ↦ elim b [ inl a ↦ let e = a.0 in omega arith | inr a ↦ let e = a.0 in omega arith ] ];
  }

  pub remove-occurring : is_bound F.prefix v ≡ true → (IsAbsent (live F.slots) v → ⊥) → HintedCause m F (remove_variable v) t 7
  remove-occurring b n = record {
    applies = inr (inl (refl, n));
    least = λ k l w. elim w [ inl a ↦ true≢false (sym b ∙ a.1) | inr d ↦ elim d [ inl a ↦ let e = a.0 in omega arith | inr a ↦ let e = a.0 in omega arith ] ];
  }

  pub remove-bad : is_bound F.prefix v ≡ true → IsAbsent (live F.slots) v → (t.kind ≡ Nothing → ⊥) → HintedCause m F (remove_variable v) t 12
  remove-bad b a n = record {
    applies = inr (inr (refl, n));
    least = λ k l w. elim w [ inl c ↦ true≢false (sym b ∙ c.1) | inr d ↦ elim d [ inl c ↦ c.1 a | inr c ↦ let e = c.0 in omega arith ] ];
  }
