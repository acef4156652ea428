-- Marks that come and go.
use Rattle.std.proofs.Common.{◌≡◌, ℕ, zero, suc, ◌<◌, ◌≤◌, Bool, true, false, List, [], ◌∷◌, ◌++◌, length, get_or, set, drop, sym, ◌∙◌, ap, subst, refl, inl, inr, arith, true≢false, get_or-set_same, get_or-set_other}
use Rattle.std.proofs.lemmas.Bool.{cases_eq}
use Rattle.q_logic.specs.Prelude.{Literal, pack, IsIn}
use Rattle.q_logic.proofs.Common.{IsIn-append, IsIn-append_left, IsIn-append_right, IsIn-drop_next, IsIn-drop_within, mark_room, pack-same}
use Rattle.q_sparse.specs.Rows.{Row, item_at}
use Rattle.q_rule.specs.Marks.{IsMarked}

-- the marks may be in a longer row
pub marked-along : (marks more : List Bool) (lits : List Literal) → ((k : ℕ) → get_or more k false ≡ get_or marks k false) → IsMarked marks lits → IsMarked more lits
marked-along marks more lits e h l = rw (e (pack l)) (h l)

-- where a row has the marks of another one
pub marked-row : (old new : Row Bool) (lits : List Literal) → old.none ≡ false → new.none ≡ old.none → ((k : ℕ) → item_at new k ≡ item_at old k) → IsMarked old.items lits → IsMarked new.items lits
marked-row old new lits e f h = marked-along old.items new.items lits (λ k.
    let a : get_or new.items k false ≡ item_at new k = ap (λ d. get_or new.items k d) (sym (f ∙ e)) in
    let b : item_at old k ≡ get_or old.items k false = ap (λ d. get_or old.items k d) e in
    a ∙ h k ∙ b)

pub marked-none : IsMarked [] []
marked-none l = (λ m. absurd (true≢false (sym m)), λ m. absurd m)

pub marked-pushed : (marks : List Bool) (lits : List Literal) (l : Literal) → pack l < length marks → IsMarked marks lits → IsMarked (set marks (pack l) true) (lits ++ l ∷ [])
marked-pushed marks lits l room h k =
    elim (cases_eq (pack l) (pack k)) [
      | inl e ↦ (
        λ m. subst (λ (j : Literal). IsIn j (lits ++ l ∷ [])) (pack-same l k e) (IsIn-append_right l lits (l ∷ []) (inl refl)),
        λ m. rw (← e) (get_or-set_same marks (pack l) true false room),
      )
      | inr n ↦
          let other = get_or-set_other marks (pack l) (pack k) true false (λ e. n (sym e)) in
          rw other (
            λ m. IsIn-append_left k lits (l ∷ []) ((h k).0 m),
            λ m. elim (IsIn-append k lits (l ∷ []) m) [
              | inl before ↦ (h k).1 before
              | inr last ↦ elim last [ inl e ↦ absurd (n (ap pack (sym e))) | inr none ↦ absurd none ]
            ],
          )
    ]

-- only literals from a place on are marked
abbrev pub IsMarkedFrom : List Bool → List Literal → ℕ → Type 0
IsMarkedFrom marks lits i = (l : Literal) → get_or marks (pack l) false ≡ true → IsIn l (drop i lits)

same_item : (xs : List Literal) (j : ℕ) (a b : Literal) → j < length xs → a ≡ get_or xs j a → get_or xs j b ≡ b → a ≡ b
same_item [] j a b h e f = absurd (omega arith)
same_item (x ∷ xs) zero a b h e f = e ∙ f
same_item (x ∷ xs) (suc j) a b h e f = same_item xs j a b (omega arith) e f

pub unmarked-more : (marks : List Bool) (lits : List Literal) (i : ℕ) (l : Literal) → i < length lits → l ≡ get_or lits i l → pack l < length marks → IsMarkedFrom marks lits i → IsMarkedFrom (set marks (pack l) false) lits (suc i)
unmarked-more marks lits i l within is room h k m =
    elim (cases_eq (pack l) (pack k)) [
      | inl e ↦ absurd (true≢false (sym m ∙ rw (← e) (get_or-set_same marks (pack l) false false room)))
      | inr n ↦ elim (IsIn-drop_next k lits i (h k (sym (get_or-set_other marks (pack l) (pack k) false false (λ e. n (sym e))) ∙ m))) [
        | inl e ↦ absurd (n (ap pack (same_item lits i l k within is e)))
        | inr rest ↦ rest
      ]
    ]

pub unmarked-all : (marks : List Bool) (lits : List Literal) (i : ℕ) → length lits ≤ i → IsMarkedFrom marks lits i → IsMarked marks []
unmarked-all marks lits i past h l = (λ m. absurd (let k = IsIn-drop_within l lits i (h l m) in omega arith), λ m. absurd m)

-- a literal of the list has a place among the marks
pub item_room : (marks : List Bool) (lits : List Literal) (i : ℕ) (l : Literal) → i < length lits → l ≡ get_or lits i l → IsMarked marks lits → pack l < length marks
item_room marks lits i l within is h = mark_room marks (pack l) ((h l).1 (in_list lits i within is))
  where
    in_list : (xs : List Literal) (j : ℕ) → j < length xs → l ≡ get_or xs j l → IsIn l xs
    in_list [] j w e = absurd (omega arith)
    in_list (x ∷ xs) zero w e = inl e
    in_list (x ∷ xs) (suc j) w e = inr (in_list xs j (omega arith) e)
