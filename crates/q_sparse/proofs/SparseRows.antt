-- What stands at a number of a sparse row, after a change of its parts.
use Rattle.std.proofs.Common.{◌≡◌, ◌≢◌, ℕ, zero, suc, ◌+◌, ◌*◌, ◌/◌, ◌%◌, ◌<◌, ◌≤◌, List, [], ◌∷◌, length, get_or, set, cond, refl, sym, ◌∙◌, ap, arith, inl, inr, le_of_suc-le-suc, not-suc-le-zero}
use Rattle.std.specs.Prelude.{true, false, nat_lt, ◌⊎◌}
use Rattle.std.proofs.lemmas.Bool.{cases_lt, cases_eq}
use Rattle.std.proofs.lemmas.Bool.Decides.{nat_tests}
use Rattle.std.proofs.lemmas.List.{length-set, ext_get_or, get_or-set_same, get_or-set_other, get_or_past}
use Rattle.q_pages.specs.Tables.{page_of}
use Rattle.q_pages.specs.Layout.{values_from, entry, IsSound, row_of as pages_of}
use Rattle.q_pages.proofs.PageEntries.{item-in, items-set, place-in, sound-set, sound-filled, sound-extended, sound-made, items-made, length-row}
use Rattle.q_sparse.specs.Rows.{item_at}
use Rattle.q_sparse.specs.Layout.{given, item, row_of}

module _ {T : Type 0} (f : ℕ → T) where
  length-values : (k n : ℕ) → length (values_from f k n) ≡ n
  length-values k zero = refl
  length-values k (suc n) = ap suc (length-values (suc k) n)

  value-at : (k n i : ℕ) (d : T) → i < n → get_or (values_from f k n) i d ≡ f (k + i)
  value-at k zero i d h = absurd (not-suc-le-zero h)
  value-at k (suc n) zero d h = (let e : k ≡ k + 0 = omega arith in ap f e)
  value-at k (suc n) (suc i) d h =
      let e : suc k + i ≡ k + suc i = omega arith in
      value-at (suc k) n i d (le_of_suc-le-suc h) ∙ ap f e

module _ {T : Type 0} (edge : ℕ) (none : T) (len : ℕ) (near : List T) (pages : List ℕ) (far : List T) where
  pub length-items : length (row_of edge none len near pages far).items ≡ len
  length-items = length-values (item edge none near pages far) 0 len

  pub within-item : (i : ℕ) → i < len → item_at (row_of edge none len near pages far) i ≡ item edge none near pages far i
  within-item i h =
      let e : 0 + i ≡ i = omega arith in
      value-at (item edge none near pages far) 0 len i none h ∙ ap (λ (k : ℕ). item edge none near pages far k) e

  pub past-item : (i : ℕ) → len ≤ i → item_at (row_of edge none len near pages far) i ≡ none
  past-item i h = get_or_past (row_of edge none len near pages far).items i none (rw length-items h)

  pub near-item : (i : ℕ) → i < edge → item edge none near pages far i ≡ get_or near i none
  near-item i h = (let e : nat_lt i edge ≡ true = grind (arith, nat_tests) in rw e refl)

  pub far-item : (i : ℕ) → edge ≤ i → item edge none near pages far i ≡ entry none pages far i
  far-item i h = (let e : nat_lt i edge ≡ false = grind (arith, nat_tests) in rw e refl)

-- one item has changed, in whatever parts
pub items-changed : {T : Type 0} (edge : ℕ) (none : T) (len : ℕ) (near more : List T) (pages others : List ℕ) (far rest : List T) (i : ℕ) (x : T) → i < len
    → item edge none more others rest i ≡ x
    → ((j : ℕ) → j < len → j ≢ i → item edge none more others rest j ≡ item edge none near pages far j)
    → (row_of edge none len more others rest).items ≡ set (row_of edge none len near pages far).items i x
items-changed edge none len near more pages others far rest i x ih here there =
    let n = length-items edge none len near pages far in
    let m = length-items edge none len more others rest in
    let ls = length-set (row_of edge none len near pages far).items i x in
    ext_get_or none (row_of edge none len more others rest).items (set (row_of edge none len near pages far).items i x) (m ∙ sym n ∙ sym ls) (λ j jh.
    let jl : j < len = omega (arith, jh, m) in
    within-item edge none len more others rest j jl ∙ elim (cases_eq j i) [
      | inl e ↦
          ap (λ (k : ℕ). item edge none more others rest k) e ∙ here ∙
          sym (ap (λ (k : ℕ). get_or (set (row_of edge none len near pages far).items i x) k none) e ∙ get_or-set_same (row_of edge none len near pages far).items i x none (omega (arith, n, ih)))
      | inr d ↦
          there j jl d ∙ sym (get_or-set_other (row_of edge none len near pages far).items i j x none d ∙ within-item edge none len near pages far j jl)
    ])

-- a number of the plain row is written
pub near-set : {T : Type 0} (edge : ℕ) (none : T) (len : ℕ) (near more : List T) (pages : List ℕ) (far : List T) (i : ℕ) (x : T)
    → ((j : ℕ) → get_or more j none ≡ get_or near j none) → i < length more → i < edge → i < len
    → (row_of edge none len (set more i x) pages far).items ≡ set (row_of edge none len near pages far).items i x
near-set edge none len near more pages far i x same ih il len-h =
    items-changed edge none len near (set more i x) pages pages far far i x len-h
    (near-item edge none len (set more i x) pages far i il ∙ get_or-set_same more i x none ih)
    (λ j jh d. elim (cases_lt j edge) [
      | inl l ↦ near-item edge none len (set more i x) pages far j l ∙ get_or-set_other more i j x none d ∙ same j ∙ sym (near-item edge none len near pages far j l)
      | inr g ↦ far-item edge none len (set more i x) pages far j g ∙ sym (far-item edge none len near pages far j g)
    ])

-- what stands in pages after one of their values is written
module _ {T : Type 0} (none : T) (pages : List ℕ) (far : List T) (s : IsSound none pages far) (i : ℕ) (x : T) (ih : i < 1024 * length pages) (made : 0 < page_of pages i) where
  pub entry-set : (j : ℕ) → j ≢ i → entry none pages (set far (page_of pages i * 1024 + i % 1024) x) j ≡ entry none pages far j
  entry-set j d =
      let place = page_of pages i * 1024 + i % 1024 in
      elim (cases_lt j (1024 * length pages)) [
        | inl l ↦
            sym (item-in none pages (set far place x) j l)
            ∙ ap (λ (xs : List T). get_or xs j none) (items-set none pages far s i x ih made)
            ∙ get_or-set_other (pages_of none pages far).items i j x none d ∙ item-in none pages far j l
        | inr g ↦
            let z : page_of pages j ≡ 0 = get_or_past pages (j / 1024) 0 (omega arith) in
            let apart : page_of pages j * 1024 + j % 1024 ≢ place = λ e. absurd (omega (arith, e, z, made)) in
            get_or-set_other far place (page_of pages j * 1024 + j % 1024) x none apart
      ]

-- a number of a page is written
pub far-set : {T : Type 0} (edge : ℕ) (none : T) (len : ℕ) (near : List T) (pages others : List ℕ) (far rest : List T) (s : IsSound none others rest) (i : ℕ) (x : T)
    → (ih : i < 1024 * length others) → (made : 0 < page_of others i) → ((j : ℕ) → entry none others rest j ≡ entry none pages far j) → i < len → edge ≤ i
    → (row_of edge none len near others (set rest (page_of others i * 1024 + i % 1024) x)).items ≡ set (row_of edge none len near pages far).items i x
far-set edge none len near pages others far rest s i x ih made same il beyond =
    let written = set rest (page_of others i * 1024 + i % 1024) x in
    items-changed edge none len near near pages others far written i x il
    (far-item edge none len near others written i beyond ∙ get_or-set_same rest (page_of others i * 1024 + i % 1024) x none (place-in none others rest s i x ih made))
    (λ j jh d. elim (cases_lt j edge) [
      | inl l ↦ near-item edge none len near others written j l ∙ sym (near-item edge none len near pages far j l)
      | inr g ↦ far-item edge none len near others written j g ∙ entry-set none others rest s i x ih made j d ∙ same j ∙ sym (far-item edge none len near pages far j g)
    ])

-- a number that is not in the plain row
pub near-none : {T : Type 0} (edge : ℕ) (none : T) (len : ℕ) (near : List T) (pages : List ℕ) (far : List T) (i : ℕ) → i < edge → length near ≤ i → item_at (row_of edge none len near pages far) i ≡ none
near-none edge none len near pages far i l h = elim (cases_lt i len) [
  | inl w ↦ within-item edge none len near pages far i w ∙ near-item edge none len near pages far i l ∙ get_or_past near i none h
  | inr g ↦ past-item edge none len near pages far i g
]

-- numbers come, of which nothing is written
pub row-grown : {T : Type 0} (edge : ℕ) (none : T) (len more : ℕ) (near filled : List T) (pages others : List ℕ) (far rest : List T) → len ≤ more → length near ≤ len
    → ((i : ℕ) → len ≤ i → edge ≤ i → entry none pages far i ≡ none) → ((j : ℕ) → entry none others rest j ≡ entry none pages far j)
    → ((j : ℕ) → get_or filled j none ≡ get_or near j none)
    → (i : ℕ) → item_at (row_of edge none more filled others rest) i ≡ item_at (row_of edge none len near pages far) i
row-grown edge none len more near filled pages others far rest le within beyond same alike i = elim (cases_lt i len) [
  | inl l ↦
      within-item edge none more filled others rest i (omega (arith, l, le)) ∙ elim (cases_lt i edge) [
        | inl a ↦ near-item edge none more filled others rest i a ∙ alike i ∙ sym (near-item edge none len near pages far i a)
        | inr b ↦ far-item edge none more filled others rest i b ∙ same i ∙ sym (far-item edge none len near pages far i b)
      ] ∙ sym (within-item edge none len near pages far i l)
  | inr g ↦
      let new : item_at (row_of edge none more filled others rest) i ≡ none = elim (cases_lt i more) [
        | inl l ↦ within-item edge none more filled others rest i l ∙ elim (cases_lt i edge) [
          | inl a ↦ near-item edge none more filled others rest i a ∙ alike i ∙ get_or_past near i none (omega (arith, within, g))
          | inr b ↦ far-item edge none more filled others rest i b ∙ same i ∙ beyond i g b
        ]
        | inr p ↦ past-item edge none more filled others rest i p
      ] in
      new ∙ sym (past-item edge none len near pages far i g)
]

-- how many pages were made
pub given-most : (pages : List ℕ) → given pages ≤ length pages
given-most [] = omega arith
given-most (p ∷ pages) = (let h = given-most pages in elim (cases_lt 0 p) [
  | inl l ↦ (let e : nat_lt 0 p ≡ true = grind (arith, nat_tests) in rw e (omega arith))
  | inr g ↦ (let e : nat_lt 0 p ≡ false = grind (arith, nat_tests) in rw e (omega arith))
])

pub given-one : (pages : List ℕ) (k q : ℕ) → k < length pages → get_or pages k 0 ≡ 0 → 0 < q → given (set pages k q) ≡ given pages + 1
given-one [] k q h z o = absurd (not-suc-le-zero h)
given-one (p ∷ pages) zero q h z o =
    let new : nat_lt 0 q ≡ true = grind (arith, nat_tests) in
    let old : nat_lt 0 p ≡ false = rw z refl in
    rw (new, old) (omega arith)
given-one (p ∷ pages) (suc k) q h z o = (let e = given-one pages k q (le_of_suc-le-suc h) z o in elim (cases_lt 0 p) [
  | inl l ↦ (let t : nat_lt 0 p ≡ true = grind (arith, nat_tests) in rw t (let f = ap suc e in omega (arith, f)))
  | inr g ↦ (let t : nat_lt 0 p ≡ false = grind (arith, nat_tests) in rw t e)
])

given-none : (more : List ℕ) → ((k : ℕ) → get_or more k 0 ≡ 0) → given more ≡ 0
given-none [] h = refl
given-none (p ∷ more) h = (let e : nat_lt 0 p ≡ false = rw (h 0) refl in rw e (given-none more (λ k. h (suc k))))

pub given-along : (pages more : List ℕ) → ((k : ℕ) → get_or more k 0 ≡ get_or pages k 0) → given more ≡ given pages
given-along [] more h = given-none more h
given-along (p ∷ pages) [] h = sym (given-none (p ∷ pages) (λ k. sym (h k)))
given-along (p ∷ pages) (q ∷ more) h = (let e = given-along pages more (λ k. h (suc k)) in let f : q ≡ p = h 0 in rw f (ap (λ (n : ℕ). cond (nat_lt 0 p) (suc n) n) e))

-- a page is made at the end of the values
module _ {T : Type 0} (none : T) (pages : List ℕ) (far more : List T) (s : IsSound none pages far) (longer : length far ≤ length more) (same : (i : ℕ) → get_or more i none ≡ get_or far i none) (k q : ℕ) (kh : k < length pages) (was : get_or pages k 0 ≡ 0)
    (q-is : q ≡ length far / 1024) (room : q * 1024 + 1024 ≤ length more) where
  some : 0 < q
  some = (let w = s.within k kh in omega (arith, w, q-is))

  new : (l : ℕ) → l < length pages → get_or pages l 0 < q
  new l lh = (let w = s.within l lh in omega (arith, w, q-is))

  filled : IsSound none pages more
  filled = sound-filled none pages far more s longer same

  pub sound-one : IsSound none (set pages k q) more
  sound-one = sound-made none pages more filled k q kh was some new room

  pub given-more : given (set pages k q) ≡ given pages + 1
  given-more = given-one pages k q kh was some

  pub entry-one : (i : ℕ) → entry none (set pages k q) more i ≡ entry none pages far i
  entry-one i = elim (cases_lt i (1024 * length pages)) [
    | inl l ↦
        let long : i < 1024 * length (set pages k q) = omega (arith, l, length-set pages k q) in
        sym (item-in none (set pages k q) more i long)
        ∙ ap (λ (xs : List T). get_or xs i none) (items-made none pages more filled k q kh was some new room)
        ∙ item-in none pages more i l ∙ same (page_of pages i * 1024 + i % 1024)
    | inr g ↦
        let past : i / 1024 ≢ k = λ e. absurd (omega (arith, e, g, kh)) in
        let e : page_of (set pages k q) i ≡ page_of pages i = get_or-set_other pages k (i / 1024) q 0 past in
        ap (λ (p : ℕ). get_or more (p * 1024 + i % 1024) none) e ∙ same (page_of pages i * 1024 + i % 1024)
  ]

-- pages come, of which none is made
module _ {T : Type 0} (none : T) (pages others : List ℕ) (far more : List T) (s : IsSound none pages far) (longer : length far ≤ length more) (same : (i : ℕ) → get_or more i none ≡ get_or far i none)
    (long : length pages ≤ length others) (kept : (k : ℕ) → get_or others k 0 ≡ get_or pages k 0) where
  pub sound-reserved : 1024 ≤ length more → length others ≤ 4194304 → IsSound none others more
  sound-reserved some few = sound-extended none pages others more (sound-filled none pages far more s longer same) long kept some few

  pub entry-reserved : (i : ℕ) → entry none others more i ≡ entry none pages far i
  entry-reserved i = ap (λ (p : ℕ). get_or more (p * 1024 + i % 1024) none) (kept (i / 1024)) ∙ same (page_of pages i * 1024 + i % 1024)
