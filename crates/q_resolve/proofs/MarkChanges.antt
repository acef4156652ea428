-- Marks that come and go.
use Rattle.std.proofs.Common.{◌≡◌, ◌≢◌, ℕ, zero, suc, ◌<◌, ◌≤◌, Bool, true, false, List, [], ◌∷◌, ◌++◌, length, get_or, drop, sym, ◌∙◌, ap, subst, refl, inl, inr, arith, true≢false}
use Rattle.std.proofs.lemmas.Bool.{cases_eq}
use Rattle.q_logic.specs.Prelude.{Literal, pack, IsIn}
use Rattle.q_logic.proofs.Common.{IsIn-append, IsIn-append_left, IsIn-append_right, IsIn-drop_next, IsIn-drop_within, pack-same}
use Rattle.q_pages.specs.ByNumber.{Values, value_at, IsPut}
use Rattle.q_resolve.specs.Marks.{IsMarked}

pub marked-none : (marks : Values Bool) → ((k : ℕ) → value_at marks k ≡ false) → IsMarked marks []
marked-none marks none l = (λ m. absurd (true≢false (sym m ∙ none (pack l))), λ m. absurd m)

pub marked-pushed : (marks more : Values Bool) (lits : List Literal) (l : Literal) → IsPut marks more (pack l) true → IsMarked marks lits → IsMarked more (lits ++ l ∷ [])
marked-pushed marks more lits l put h k =
    elim (cases_eq (pack l) (pack k)) [
      | inl e ↦ (
        λ m. subst (λ (j : Literal). IsIn j (lits ++ l ∷ [])) (pack-same l k e) (IsIn-append_right l lits (l ∷ []) (inl refl)),
        λ m. rw (← e) put.here,
      )
      | inr n ↦
          let other = put.others (pack k) (λ e. n (sym e)) in
          rw other (
            λ m. IsIn-append_left k lits (l ∷ []) ((h k).0 m),
            λ m. elim (IsIn-append k lits (l ∷ []) m) [
              | inl before ↦ (h k).1 before
              | inr last ↦ elim last [ inl e ↦ absurd (n (ap pack (sym e))) | inr none ↦ absurd none ]
            ],
          )
    ]

-- only literals from a place on are marked
abbrev pub IsMarkedFrom : Values Bool → List Literal → ℕ → Type 0
IsMarkedFrom marks lits i = (l : Literal) → value_at marks (pack l) ≡ true → IsIn l (drop i lits)

same_item : (xs : List Literal) (j : ℕ) (a b : Literal) → j < length xs → a ≡ get_or xs j a → get_or xs j b ≡ b → a ≡ b
same_item [] j a b h e f = absurd (omega arith)
same_item (x ∷ xs) zero a b h e f = e ∙ f
same_item (x ∷ xs) (suc j) a b h e f = same_item xs j a b (omega arith) e f

-- the literal at the place has no mark any more, or had none
pub unmarked-more : (marks less : Values Bool) (lits : List Literal) (i : ℕ) (l : Literal) → i < length lits → l ≡ get_or lits i l → value_at less (pack l) ≡ false →
    ((j : ℕ) → j ≢ pack l → value_at less j ≡ value_at marks j) → IsMarkedFrom marks lits i → IsMarkedFrom less lits (suc i)
unmarked-more marks less lits i l within is gone others h k m =
    elim (cases_eq (pack l) (pack k)) [
      | inl e ↦ absurd (true≢false (sym m ∙ rw (← e) gone))
      | inr n ↦ elim (IsIn-drop_next k lits i (h k (sym (others (pack k) (λ e. n (sym e))) ∙ m))) [
        | inl e ↦ absurd (n (ap pack (same_item lits i l k within is e)))
        | inr rest ↦ rest
      ]
    ]

pub unmarked-all : (marks : Values Bool) (lits : List Literal) (i : ℕ) → length lits ≤ i → IsMarkedFrom marks lits i → IsMarked marks []
unmarked-all marks lits i past h l = (λ m. absurd (let k = IsIn-drop_within l lits i (h l m) in omega arith), λ m. absurd m)
