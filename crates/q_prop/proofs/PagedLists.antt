-- Lists whose places a table gives.
use Rattle.std.proofs.Common.{Ok, Err, Result, OnOk, OnErr, ◌≡◌, ◌≢◌, ℕ, ◌+◌, ◌*◌, ◌%◌, ◌<◌, List, [], ◌∷◌, ◌++◌, get_or, sym, ◌∙◌, ap, subst, arith}
use Rattle.q_pages.specs.Layout.{row_of}
use Rattle.q_pages.specs.Tables.{page_of, place_in, HasFreePages, IsGiven}
use Rattle.q_pages.proofs.TableRows.{item-any, given-free, given-items, put-free, place-made}
use Rattle.q_prop.specs.Lists.{list_at, IsAppended, IsTakenOut, IsLost, AreSameLists}

module _ {T : Type 0} where
  -- the list of a number
  pub paged-at : (t : List ℕ) (L : List (List T)) → HasFreePages [] t L → (k : ℕ) → get_or (row_of [] t L).items k [] ≡ get_or L (place_in t k) []
  paged-at t L f k = item-any [] t L f k

  -- more room changes no list
  pub paged-same : (t u : List ℕ) (L M : List (List T)) → IsGiven t u → HasFreePages [] t L → ((j : ℕ) → get_or M j [] ≡ get_or L j []) → (k : ℕ) → get_or (row_of [] u M).items k [] ≡ get_or (row_of [] t L).items k []
  paged-same t u L M g f same k =
      item-any [] u M (λ p r h z. same (p * 1024 + r) ∙ given-free [] t u L g f p r h z) k
      ∙ same (place_in u k)
      ∙ given-items [] t u L g f k
      ∙ sym (item-any [] t L f k)

  pub paged-free : (t u : List ℕ) (L M : List (List T)) → IsGiven t u → HasFreePages [] t L → ((j : ℕ) → get_or M j [] ≡ get_or L j []) → HasFreePages [] u M
  paged-free t u L M g f same p r h z = same (p * 1024 + r) ∙ given-free [] t u L g f p r h z

  -- one list changes, and no other
  module _ (t : List ℕ) (L M : List (List T)) (k : ℕ) (made : 0 < page_of t k) (apart : (i j : ℕ) → 0 < page_of t i → place_in t i ≡ place_in t j → i ≡ j)
      (same : (j : ℕ) → j ≢ place_in t k → get_or M j [] ≡ get_or L j []) (f : HasFreePages [] t L) where
    pub put-paged : HasFreePages [] t M
    put-paged = put-free [] t L M k made same f

    pub paged-others : (j : ℕ) → j ≢ k → get_or (row_of [] t M).items j [] ≡ get_or (row_of [] t L).items j []
    paged-others j n =
        item-any [] t M put-paged j
        ∙ same (place_in t j) (λ e. n (sym (apart k j made (sym e))))
        ∙ sym (item-any [] t L f j)

pub appended-paged : (t : List ℕ) (L M : List (List ℕ)) (k n : ℕ) → 0 < page_of t k → ((i j : ℕ) → 0 < page_of t i → place_in t i ≡ place_in t j → i ≡ j)
    → HasFreePages [] t L → IsAppended L M (place_in t k) n → IsAppended (row_of [] t L).items (row_of [] t M).items k n
appended-paged t L M k n made apart f a = record {
  here = paged-at t M (put-paged t L M k made apart a.others f) k ∙ a.here ∙ ap (λ (xs : List ℕ). xs ++ n ∷ []) (sym (paged-at t L f k));
  others = paged-others t L M k made apart a.others f;
}

pub taken-paged : (t : List ℕ) (L M : List (List ℕ)) (k n : ℕ) → 0 < page_of t k → ((i j : ℕ) → 0 < page_of t i → place_in t i ≡ place_in t j → i ≡ j)
    → HasFreePages [] t L → IsTakenOut L M (place_in t k) n → IsTakenOut (row_of [] t L).items (row_of [] t M).items k n
taken-paged t L M k n made apart f a = record {
  here = subst (λ (xs : List ℕ). IsLost n xs (list_at (row_of [] t M).items k)) (sym (paged-at t L f k))
      (subst (λ (ys : List ℕ). IsLost n (list_at L (place_in t k)) ys) (sym (paged-at t M (put-paged t L M k made apart a.others f) k)) a.here);
  others = paged-others t L M k made apart a.others f;
}

pub appended-after : (a b c : List (List ℕ)) (k n : ℕ) → AreSameLists a b → IsAppended b c k n → IsAppended a c k n
appended-after a b c k n s p = record {
  here = p.here ∙ ap (λ (xs : List ℕ). xs ++ n ∷ []) (s k);
  others = λ j m. p.others j m ∙ s j;
}

pub on_either : {T E P Q R : Type 0} (r : Result T E) → (P → R) → (Q → R) → OnOk r P → OnErr r Q → R
on_either (Ok x) f g p q = f p
on_either (Err e) f g p q = g q

pub same-paged : {T : Type 0} (t : List ℕ) (L M : List (List T)) → HasFreePages [] t L → ((j : ℕ) → get_or M j [] ≡ get_or L j []) → (k : ℕ) → get_or (row_of [] t M).items k [] ≡ get_or (row_of [] t L).items k []
same-paged t L M f same k =
    item-any [] t M (λ p r h z. same (p * 1024 + r) ∙ f p r h z) k ∙ same (place_in t k) ∙ sym (item-any [] t L f k)
