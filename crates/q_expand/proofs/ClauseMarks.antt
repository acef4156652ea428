-- Marks of clauses that come and go.
use Rattle.std.proofs.Common.{◌≡◌, ◌⊎◌, ℕ, zero, suc, ◌<◌, ◌≤◌, Bool, true, false, List, [], ◌∷◌, ◌++◌, length, get_or, set, drop, sym, ◌∙◌, subst, refl, inl, inr, arith, true≢false, get_or-set_same, get_or-set_other}
use Rattle.std.proofs.lemmas.Bool.{cases_eq}
use Rattle.q_logic.proofs.Common.{mark_room}
use Rattle.q_kernel.specs.Lists.{Has, Misses, AreApart}
use Rattle.q_kernel.proofs.LiteralLists.{Has-last}
use Rattle.q_expand.specs.Ids.{AreNoted}

pub Has-left : (xs ys : List ℕ) (p : ℕ) → Has xs p → Has (xs ++ ys) p
Has-left [] ys p h = absurd h
Has-left (x ∷ xs) ys p (inl e) = inl e
Has-left (x ∷ xs) ys p (inr h) = inr (Has-left xs ys p h)

pub Has-end : (xs : List ℕ) (p : ℕ) → Has (xs ++ p ∷ []) p
Has-end [] p = inl refl
Has-end (x ∷ xs) p = inr (Has-end xs p)

misses-end : (x p : ℕ) (xs : List ℕ) → Misses x xs → (x ≡ p → ⊥) → Misses x (xs ++ p ∷ [])
misses-end x p [] m n = (n, tt)
misses-end x p (y ∷ xs) m n = (m.0, misses-end x p xs m.1 n)

pub apart-end : (xs : List ℕ) (p : ℕ) → AreApart xs → (Has xs p → ⊥) → AreApart (xs ++ p ∷ [])
apart-end [] p a n = (tt, tt)
apart-end (x ∷ xs) p a n = (misses-end x p xs a.0 (λ e. n (inl (sym e))), apart-end xs p a.1 (λ h. n (inr h)))

-- the marks may be in a longer row
pub noted-along : (marks more : List Bool) (ids : List ℕ) → ((k : ℕ) → get_or more k false ≡ get_or marks k false) → AreNoted marks ids → AreNoted more ids
noted-along marks more ids e h c = rw (e c) (h c)

pub noted-pushed : (marks : List Bool) (ids : List ℕ) (c : ℕ) → c < length marks → AreNoted marks ids → AreNoted (set marks c true) (ids ++ c ∷ [])
noted-pushed marks ids c room h k =
    elim (cases_eq c k) [
      | inl e ↦ (
        λ m. subst (λ (j : ℕ). Has (ids ++ c ∷ []) j) e (Has-end ids c),
        λ m. rw (← e) (get_or-set_same marks c true false room),
      )
      | inr n ↦
          let other = get_or-set_other marks c k true false (λ e. n (sym e)) in
          rw other (
            λ m. Has-left ids (c ∷ []) k ((h k).0 m),
            λ m. elim (Has-last c k ids m) [ inl before ↦ (h k).1 before | inr e ↦ absurd (n (sym e)) ],
          )
    ]

-- only ids from a place on are marked
abbrev pub AreNotedFrom : List Bool → List ℕ → ℕ → Type 0
AreNotedFrom marks ids i = (c : ℕ) → get_or marks c false ≡ true → Has (drop i ids) c

next_has : (xs : List ℕ) (i c : ℕ) → i < length xs → Has (drop i xs) c → (c ≡ get_or xs i 0) ⊎ Has (drop (suc i) xs) c
next_has [] i c w h = absurd (omega arith)
next_has (x ∷ xs) zero c w (inl e) = inl e
next_has (x ∷ xs) zero c w (inr h) = inr h
next_has (x ∷ xs) (suc i) c w h = next_has xs i c (omega arith) h

same_item : (xs : List ℕ) (j a b : ℕ) → j < length xs → a ≡ get_or xs j 0 → b ≡ get_or xs j 0 → a ≡ b
same_item [] j a b h e f = absurd (omega arith)
same_item (x ∷ xs) zero a b h e f = e ∙ sym f
same_item (x ∷ xs) (suc j) a b h e f = same_item xs j a b (omega arith) e f

pub unnoted-more : (marks : List Bool) (ids : List ℕ) (i c : ℕ) → i < length ids → c ≡ get_or ids i 0 → c < length marks → AreNotedFrom marks ids i → AreNotedFrom (set marks c false) ids (suc i)
unnoted-more marks ids i c within is room h k m =
    elim (cases_eq c k) [
      | inl e ↦ absurd (true≢false (sym m ∙ rw (← e) (get_or-set_same marks c false false room)))
      | inr n ↦ elim (next_has ids i k within (h k (sym (get_or-set_other marks c k false false (λ e. n (sym e))) ∙ m))) [
        | inl e ↦ absurd (n (same_item ids i c k within is e))
        | inr rest ↦ rest
      ]
    ]

drop_past : (xs : List ℕ) (i c : ℕ) → length xs ≤ i → Has (drop i xs) c → ⊥
drop_past [] zero c h m = m
drop_past [] (suc i) c h m = m
drop_past (x ∷ xs) zero c h m = omega arith
drop_past (x ∷ xs) (suc i) c h m = drop_past xs i c (omega arith) m

pub unnoted-all : (marks : List Bool) (ids : List ℕ) (i : ℕ) → length ids ≤ i → AreNotedFrom marks ids i → AreNoted marks []
unnoted-all marks ids i past h c = (λ m. absurd (drop_past ids i c past (h c m)), λ m. absurd m)

-- an id of the list has a place among the marks
pub id_room : (marks : List Bool) (ids : List ℕ) (i c : ℕ) → i < length ids → c ≡ get_or ids i 0 → AreNoted marks ids → c < length marks
id_room marks ids i c within is h = mark_room marks c ((h c).1 (there ids i within is))
  where
    there : (xs : List ℕ) (j : ℕ) → j < length xs → c ≡ get_or xs j 0 → Has xs c
    there [] j w e = absurd (omega arith)
    there (x ∷ xs) zero w e = inl e
    there (x ∷ xs) (suc j) w e = inr (there xs j (omega arith) e)
