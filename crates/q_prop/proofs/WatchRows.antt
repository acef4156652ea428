-- Rows of watches whose places a table gives.
use Rattle.std.proofs.Common.{◌≡◌, ◌≢◌, ℕ, ◌+◌, ◌*◌, ◌/◌, ◌%◌, ◌<◌, List, [], ◌∷◌, ◌++◌, length, get_or, refl, sym, ◌∙◌, ap, arith, inl, inr}
use Rattle.std.proofs.lemmas.Bool.{cases_eq}
use Rattle.q_logic.specs.Prelude.{Literal, pack}
use Rattle.q_logic.proofs.Common.{pack-same}
use Rattle.q_pages.specs.Tables.{page_of, place_in, HasFreePages, IsGiven}
use Rattle.q_pages.proofs.TableRows.{given-free, given-items, put-free, place-made}
use Rattle.q_prop.specs.declared.rows.Entry.{Entry}
use Rattle.q_prop.specs.Rows.{Watchers, row_of, spot_of, IsPushed, AreSameRows, AreOthers}

abbrev pub watchers : List (List Entry) → List ℕ → Watchers
watchers lists table = record { lists = lists; table = table }

-- one row changes, which has a page of its own
module _ (t : List ℕ) (K M : List (List Entry)) (l : Literal) (apart : (i j : ℕ) → 0 < page_of t i → place_in t i ≡ place_in t j → i ≡ j)
    (free : HasFreePages [] t K) (made : 0 < page_of t (pack l)) (others : AreOthers K M (place_in t (pack l))) where
  pub changed-free : HasFreePages [] t M
  changed-free = put-free [] t K M (pack l) made others free

  pub changed-others : (k : Literal) → k ≢ l → get_or M (place_in t (pack k)) [] ≡ get_or K (place_in t (pack k)) []
  changed-others k n = others (place_in t (pack k)) (λ e. n (sym (pack-same l k (apart (pack l) (pack k) made (sym e)))))

-- a row with an entry has a page of its own
pub row-made : (t : List ℕ) (K : List (List Entry)) (l : Literal) (i : ℕ) → HasFreePages [] t K → i < length (get_or K (place_in t (pack l)) []) → 0 < page_of t (pack l)
row-made t K l i f h = place-made [] t K f (pack l) (λ e. (let z = ap length e in absurd (omega (arith, z, h))))

-- more room
module _ (t u : List ℕ) (K L : List (List Entry)) (given : IsGiven t u) (free : HasFreePages [] t K) (same : (j : ℕ) → get_or L j [] ≡ get_or K j []) where
  pub room-free : HasFreePages [] u L
  room-free p r h z = same (p * 1024 + r) ∙ given-free [] t u K given free p r h z

  pub room-same : AreSameRows (watchers K t) (watchers L u)
  room-same k = same (place_in u (pack k)) ∙ given-items [] t u K given free (pack k)

  room-places : (k : Literal) → 0 < length (get_or K (place_in t (pack k)) []) → place_in u (pack k) ≡ place_in t (pack k)
  room-places k h = elim (given.kept (pack k / 1024)) [
    | inl s ↦ ap (λ (p : ℕ). p * 1024 + pack k % 1024) s
    | inr s ↦ (let m = row-made t K k 0 free h in let z = s.0 in absurd (omega arith))
  ]

  module _ (M : List (List Entry)) (l : Literal) (apart : (i j : ℕ) → 0 < page_of u i → place_in u i ≡ place_in u j → i ≡ j)
      (made : 0 < page_of u (pack l)) (others : AreOthers L M (place_in u (pack l))) where
    pub pushed-free : HasFreePages [] u M
    pushed-free = changed-free u L M l apart room-free made others

    pub pushed : (e : Entry) → get_or M (place_in u (pack l)) [] ≡ get_or L (place_in u (pack l)) [] ++ e ∷ [] → IsPushed (watchers K t) (watchers M u) l e
    pushed e h = record {
      here = h ∙ ap (λ (xs : List Entry). xs ++ e ∷ []) (room-same l);
      others = λ k n. changed-others u L M l apart room-free made others k n ∙ room-same k;
      places = room-places;
    }

    pub not-pushed : get_or M (place_in u (pack l)) [] ≡ get_or L (place_in u (pack l)) [] → AreSameRows (watchers K t) (watchers M u)
    not-pushed h k = elim (cases_eq (place_in u (pack k)) (place_in u (pack l))) [
      | inl e ↦ ap (λ (p : ℕ). get_or M p []) e ∙ h ∙ sym (ap (λ (p : ℕ). get_or L p []) e) ∙ room-same k
      | inr n ↦ others (place_in u (pack k)) n ∙ room-same k
    ]
