-- Rows, one element further.
use Rattle.std.proofs.Common.{◌≡◌, ℕ, ◌+◌, ◌<◌, ◌≤◌, List, [], ◌∷◌, ◌++◌, length, inl, inr, arith, refl, sym, ap, ◌∙◌, Option, None}
use Rattle.std.proofs.lemmas.List.{get_or_append_left, get_or_push, get_or_past}
use Rattle.std.proofs.lemmas.Bool.{cases_lt}
use Rattle.q_logic.specs.declared.formulas.Bound.{Bound}
use Rattle.q_logic.specs.Prelude.{Prefix}
use Rattle.q_logic.specs.Exchanging.{exchanged, exchanged_bound}
use Rattle.q_certificate.specs.Prelude.{look_at}
use Rattle.q_herbrand.specs.Drafted.{either}

pub exchanged-last : (P : Prefix) (b : Bound) → exchanged (P ++ b ∷ []) ≡ exchanged P ++ exchanged_bound b ∷ []
exchanged-last [] b = refl
exchanged-last (a ∷ P) b = ap (λ (Q : Prefix). exchanged_bound a ∷ Q) (exchanged-last P b)

-- rows that are made element by element
pub merged-more : (tb ins row row2 : List (Option ℕ)) (n : ℕ) (m : Option ℕ) → length row ≡ n →
    m ≡ either (look_at tb n) (look_at ins n) →
    ((x : ℕ) → x < n → look_at row x ≡ either (look_at tb x) (look_at ins x)) → row2 ≡ row ++ m ∷ [] → (x : ℕ) →
    x < n + 1 → look_at row2 x ≡ either (look_at tb x) (look_at ins x)
merged-more tb ins row row2 n m room here h e x lt = ap (λ (xs : List (Option ℕ)). look_at xs x) e
    ∙ elim (cases_lt x n) [
      | inl b ↦ get_or_append_left row (m ∷ []) None x (omega arith) ∙ h x b
      | inr b ↦
          let q : n ≡ x = omega arith in
          get_or_push row m None x (omega arith) ∙ here
          ∙ ap (λ (k : ℕ). either (look_at tb k) (look_at ins k)) q
    ]

pub merged-all : (tb ins row : List (Option ℕ)) → length tb ≤ length row → length ins ≤ length row →
    ((x : ℕ) → x < length row → look_at row x ≡ either (look_at tb x) (look_at ins x)) → (x : ℕ) →
    look_at row x ≡ either (look_at tb x) (look_at ins x)
merged-all tb ins row a b h x = elim (cases_lt x (length row)) [
  | inl lt ↦ h x lt
  | inr le ↦
      let p : look_at tb x ≡ None = get_or_past tb x None (omega arith) in
      let q : look_at ins x ≡ None = get_or_past ins x None (omega arith) in
      get_or_past row x None le ∙ sym (ap (λ (m : Option ℕ). either m (look_at ins x)) p ∙ q)
]
