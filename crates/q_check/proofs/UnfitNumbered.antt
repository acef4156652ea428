-- What a step that is made on numbered clauses answers: the least cause, or what stands there then.
use Rattle.std.proofs.Common.{◌≡◌, ◌∷◌, [], ℕ, Bool, Option, Some, None, inl, inr, arith, refl, Ok, Err}
use Rattle.q_logic.specs.declared.limits.Limits.{Limits}
use Rattle.q_logic.specs.declared.proof_part.ProofKind.TheVariants.{Nothing}
use Rattle.q_logic.specs.Prelude.{ProofStep, Literal, Clause, NumberedFormula, ProofPart, IsIn, plain, slot, set_slot, live, without, add, delete, drop_literal, fresh, remove_variable, Within, KeepsLimits}
use Rattle.q_judge.specs.declared.undo.Undo.{Undo}
use Rattle.q_judge.specs.declared.error.CheckError.{CheckError}
use Rattle.q_judge.specs.declared.error.CheckError.TheVariants.{Refused, NoMemory}
use Rattle.q_same_steps.specs.Making.{Unfit}
use Rattle.q_same_steps.specs.HintedMaking.{HintedUnfit}
use Rattle.q_check.specs.HintChecks.{IsHintTried}
use Rattle.q_check.specs.Annotations.{IsAnnotated, implied_part}
use Rattle.q_check.specs.Replays.{IsHintMade, IsNumberedStep, IsNumberedMade, IsDeletionNamed, IsUnfitFor}

module _ (m : Limits) (F : NumberedFormula) (p : Option Literal) (C : Clause) (t : ProofPart) where
  pub add-unbound : (Within F.prefix C → ⊥) → HintedUnfit m F (add p C) t 2
  add-unbound n = record { applies = inl (refl, n); least = λ k l w. elim w [ inl a ↦ let e = a.0 in omega arith | inr a ↦ let e = a.0 in omega arith ] }

  pub add-full : Within F.prefix C → (KeepsLimits m (C ∷ live F.slots) → ⊥) → HintedUnfit m F (add p C) t 8
  add-full h n = record { applies = inr (refl, n); least = λ k l w. elim w [ inl a ↦ a.1 h | inr a ↦ let e = a.0 in omega arith ] }

  pub delete-unbound : (Within F.prefix C → ⊥) → HintedUnfit m F (delete p C) t 2
  delete-unbound n = record { applies = inl (refl, n); least = λ k l w. elim w [ inl a ↦ let e = a.0 in omega arith | inr a ↦ let e = a.0 in omega arith ] }

  pub delete-missing : (n : ℕ) → t.number ≡ n → Within F.prefix C → (slot F.slots n ≡ Some C → ⊥) → HintedUnfit m F (delete p C) t 3
  delete-missing n q h x = record { applies = inr (refl, rw q x); least = λ k l w. elim w [ inl a ↦ a.1 h | inr a ↦ let e = a.0 in omega arith ] }

  pub delete-made : (n : ℕ) → t.number ≡ n → Within F.prefix C → slot F.slots n ≡ Some C →
      IsHintMade m F (delete p C) t (record { prefix = F.prefix; slots = set_slot n None F.slots }) (Ok tt)
  delete-made n q h x = rw q ((h, x), refl)

module _ (m : Limits) (F : NumberedFormula) (j : Literal) (C : Clause) (t : ProofPart) where
  pub drop-unbound : (Within F.prefix C → ⊥) → HintedUnfit m F (drop_literal j C) t 2
  drop-unbound n = record { applies = inl (refl, n); least = λ k l w. elim w [ inl a ↦ let e = a.0 in omega arith | inr a ↦ let e = a.0 in omega arith ] }

  pub drop-missing : (n : ℕ) → t.number ≡ n → Within F.prefix C → (slot F.slots n ≡ Some C → ⊥) → HintedUnfit m F (drop_literal j C) t 3
  drop-missing n q h x = record { applies = inr (refl, rw q x); least = λ k l w. elim w [ inl a ↦ a.1 h | inr a ↦ let e = a.0 in omega arith ] }

  pub drop-made : (n : ℕ) (R : Clause) → t.number ≡ n → R ≡ without j C → Within F.prefix C → slot F.slots n ≡ Some C →
      IsHintMade m F (drop_literal j C) t (record { prefix = F.prefix; slots = set_slot n (Some R) F.slots }) (Ok tt)
  drop-made n R q r h x = rw (q, r) ((h, x), refl)

-- where there is nothing to judge, a step that was tried was made
module _ (keep : Bool) (m : Limits) (F G : NumberedFormula) (t : ProofPart) where
  pub fresh-made : (v w : ℕ) (u : Option Undo) → IsHintTried keep m F (fresh v w) t G (Ok u) → IsHintMade m F (fresh v w) t G (Ok tt)
  fresh-made v w u h = (h.0, h.1)

  pub fresh-unmade : (v w : ℕ) (e : CheckError) → IsHintTried keep m F (fresh v w) t G (Err e) → IsHintMade m F (fresh v w) t G (Err e)
  fresh-unmade v w (Refused n) h = (h.0, record { applies = h.1.applies; least = h.1.least })
  fresh-unmade v w NoMemory h = h

  pub remove-made : (v : ℕ) (u : Option Undo) → IsHintTried keep m F (remove_variable v) t G (Ok u) → IsHintMade m F (remove_variable v) t G (Ok tt)
  remove-made v u h = (h.0, h.1)

  pub remove-unmade : (v : ℕ) (e : CheckError) → IsHintTried keep m F (remove_variable v) t G (Err e) → IsHintMade m F (remove_variable v) t G (Err e)
  remove-unmade v (Refused n) h = (h.0, record { applies = h.1.applies; least = h.1.least })
  remove-unmade v NoMemory h = h

-- without proof parts
abbrev pub numbered : ℕ → ProofPart
numbered n = record { kind = Nothing; number = n; groups = [] }

module _ (m : Limits) (F : NumberedFormula) where
  pub add-unnamed : (p : Option Literal) (C : Clause) → (Within F.prefix C → ⊥) → Unfit m (plain F) (add p C) 2
  add-unnamed p C n = record { applies = inl (refl, n); least = λ k l w. elim w [ inl a ↦ let e = a.0 in omega arith | inr a ↦ let e = a.0 in omega arith ] }

  pub add-roomless : (p : Option Literal) (C : Clause) → Within F.prefix C → (KeepsLimits m (C ∷ live F.slots) → ⊥) → Unfit m (plain F) (add p C) 8
  add-roomless p C h n = record { applies = inr (refl, n); least = λ k l w. elim w [ inl a ↦ a.1 h | inr a ↦ let e = a.0 in omega arith ] }

  pub delete-unnamed : (p : Option Literal) (C : Clause) → (Within F.prefix C → ⊥) → Unfit m (plain F) (delete p C) 2
  delete-unnamed p C n = record { applies = inl (refl, n); least = λ k l w. elim w [ inl a ↦ let e = a.0 in omega arith | inr a ↦ let e = a.0 in omega arith ] }

  pub delete-unfound : (p : Option Literal) (C : Clause) → Within F.prefix C → (IsIn C (live F.slots) → ⊥) → Unfit m (plain F) (delete p C) 3
  delete-unfound p C h n = record { applies = inr (refl, n); least = λ k l w. elim w [ inl a ↦ a.1 h | inr a ↦ let e = a.0 in omega arith ] }

  pub drop-unnamed : (j : Literal) (C : Clause) → (Within F.prefix C → ⊥) → Unfit m (plain F) (drop_literal j C) 2
  drop-unnamed j C n = record { applies = inl (refl, n); least = λ k l w. elim w [ inl a ↦ let e = a.0 in omega arith | inr a ↦ let e = a.0 in omega arith ] }

  pub drop-unfound : (j : Literal) (C : Clause) → Within F.prefix C → (IsIn C (live F.slots) → ⊥) → Unfit m (plain F) (drop_literal j C) 3
  drop-unfound j C h n = record { applies = inr (refl, n); least = λ k l w. elim w [ inl a ↦ a.1 h | inr a ↦ let e = a.0 in omega arith ] }

  pub deletion-named : (p : Option Literal) (C : Clause) (n : ℕ) → Within F.prefix C → slot F.slots n ≡ Some C →
      IsDeletionNamed m F (delete p C) (record { prefix = F.prefix; slots = set_slot n None F.slots }) (Ok (implied_part n []))
  deletion-named p C n h x = ((h, x), refl, refl)

  pub drop-named : (j : Literal) (C R : Clause) (n : ℕ) → R ≡ without j C → Within F.prefix C → slot F.slots n ≡ Some C →
      IsNumberedStep m F (drop_literal j C) (record { prefix = F.prefix; slots = set_slot n (Some R) F.slots })
  drop-named j C R n r h x = rw r (record { proof = numbered n; fits = (h, x); after = refl })

  module _ (G : NumberedFormula) where
    pub delete-named : (p : Option Literal) (C : Clause) (t : ProofPart) → IsDeletionNamed m F (delete p C) G (Ok t) → IsNumberedMade m F (delete p C) G (Ok tt)
    delete-named p C t h = record { proof = t; fits = h.0; after = h.1 }

    pub delete-unmade : (p : Option Literal) (C : Clause) (e : CheckError) → IsDeletionNamed m F (delete p C) G (Err e) → IsNumberedMade m F (delete p C) G (Err e)
    delete-unmade p C (Refused n) h = h
    delete-unmade p C NoMemory h = h

    pub deletion-refused : (s : ProofStep) (e : CheckError) → IsDeletionNamed m F s G (Err e) → IsUnfitFor m (plain F) s e
    deletion-refused s (Refused n) h = h.1
    deletion-refused s NoMemory h = tt

    pub deletion-same : (s : ProofStep) (e : CheckError) → IsDeletionNamed m F s G (Err e) → G ≡ F
    deletion-same s (Refused n) h = h.0
    deletion-same s NoMemory h = h

    pub fresh-named : (v w : ℕ) (t : ProofPart) → IsAnnotated m F (fresh v w) G (Ok t) → IsNumberedMade m F (fresh v w) G (Ok tt)
    fresh-named v w t h = record { proof = t; fits = h.0; after = h.1 }

    pub fresh-unnamed : (v w : ℕ) (e : CheckError) → IsAnnotated m F (fresh v w) G (Err e) → IsNumberedMade m F (fresh v w) G (Err e)
    fresh-unnamed v w (Refused n) h = (h.0, record { applies = h.1.applies; least = h.1.least })
    fresh-unnamed v w NoMemory h = h

    pub remove-named : (v : ℕ) (t : ProofPart) → IsAnnotated m F (remove_variable v) G (Ok t) → IsNumberedMade m F (remove_variable v) G (Ok tt)
    remove-named v t h = record { proof = t; fits = h.0; after = h.1 }

    pub remove-unnamed : (v : ℕ) (e : CheckError) → IsAnnotated m F (remove_variable v) G (Err e) → IsNumberedMade m F (remove_variable v) G (Err e)
    remove-unnamed v (Refused n) h = (h.0, record { applies = h.1.applies; least = h.1.least })
    remove-unnamed v NoMemory h = h
