-- A row that gets, place by place, what a first row has, and what a second has where the first has nothing.
use Rattle.std.proofs.Common.{◌≡◌, ◌<◌, ◌≤◌, ℕ, ◌+◌, Bool, true, false, cond, eqb, List, inl, inr, refl, ap, ◌∙◌, arith, Option, Some, None}
use Rattle.std.proofs.lemmas.Bool.{cases_lt}
use Rattle.q_certificate.specs.Prelude.{look_at}
use Rattle.q_herbrand.specs.Drafted.{either}

pub some-put : (row : List (Option ℕ)) (n : ℕ) (l : Option ℕ) → look_at row n ≡ None → l ≡ None → (x : ℕ) →
    look_at row x ≡ cond (eqb x n) l (look_at row x)
some-put row n l free none x = go (eqb x n) refl
  where
    go : (t : Bool) → eqb x n ≡ t → look_at row x ≡ cond t l (look_at row x)
    go true e = let same : x ≡ n = grind arith in ap (look_at row) same ∙ free ∙ (let f : None ≡ l = cc in f)
    go false e = refl

pub merged-below : (tb ins row row2 : List (Option ℕ)) (n : ℕ) → ((x : ℕ) → look_at row2 x ≡ cond (eqb x n)
    (either (look_at tb n) (look_at ins n)) (look_at row x)) →
    ((x : ℕ) → x < n → look_at row x ≡ either (look_at tb x) (look_at ins x)) →
    (x : ℕ) → x < n + 1 → look_at row2 x ≡ either (look_at tb x) (look_at ins x)
merged-below tb ins row row2 n put below x lt = go (eqb x n) refl
  where
    go : (t : Bool) → eqb x n ≡ t → look_at row2 x ≡ either (look_at tb x) (look_at ins x)
    go true e =
        let same : n ≡ x = grind arith in
        put x ∙ ap (λ (t : Bool). cond t (either (look_at tb n) (look_at ins n)) (look_at row x)) e
        ∙ ap (λ (k : ℕ). either (look_at tb k) (look_at ins k)) same
    go false e = elim (cases_lt x n) [
      | inl a ↦ put x ∙ ap (λ (t : Bool). cond t (either (look_at tb n) (look_at ins n)) (look_at row x)) e ∙ below x a
      | inr a ↦ absurd (let same : x ≡ n = omega arith in grind arith)
    ]

pub merged-rest : (row row2 : List (Option ℕ)) (n : ℕ) (l : Option ℕ) → ((x : ℕ) → look_at row2 x ≡ cond (eqb x n) l
    (look_at row x)) → ((x : ℕ) → n ≤ x → look_at row x ≡ None) → (x : ℕ) → n + 1 ≤ x → look_at row2 x ≡ None
merged-rest row row2 n l put rest x le = go (eqb x n) refl
  where
    go : (t : Bool) → eqb x n ≡ t → look_at row2 x ≡ None
    go true e = absurd (let same : x ≡ n = grind arith in omega arith)
    go false e = put x ∙ ap (λ (t : Bool). cond t l (look_at row x)) e ∙ rest x (omega arith)
