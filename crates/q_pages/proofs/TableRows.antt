-- Rows whose places a table gives.
use Rattle.std.proofs.Common.{◌≡◌, ◌≢◌, ℕ, ◌+◌, ◌*◌, ◌/◌, ◌%◌, ◌<◌, ◌≤◌, List, length, get_or, set, refl, sym, ◌∙◌, ap, subst, arith, inl, inr}
use Rattle.std.proofs.lemmas.Bool.{cases_lt, cases_eq}
use Rattle.std.proofs.lemmas.List.{length-set, get_or-set_same, get_or-set_other, get_or_past}
use Rattle.q_pages.specs.Rows.{item_at}
use Rattle.q_pages.specs.Tables.{page_of, place_in, IsFreePage, IsGiven, HasFreePages, IsTable}
use Rattle.q_pages.specs.Layout.{row_of}
use Rattle.q_pages.proofs.PageEntries.{item-in, item-past}

pub places-apart : (pages : List ℕ) (last : ℕ) → IsTable pages last → (i j : ℕ) → 0 < page_of pages i → place_in pages i ≡ place_in pages j → i ≡ j
places-apart pages last t i j h e =
    let in' : (k : ℕ) → 0 < get_or pages k 0 → k < length pages = λ k o. elim (cases_lt k (length pages)) [
      | inl l ↦ l
      | inr g ↦ (let z = get_or_past pages k 0 g in absurd (omega arith))
    ] in
    let same : page_of pages i ≡ page_of pages j = omega arith in
    let k = t.apart (i / 1024) (j / 1024) (in' (i / 1024) h) (in' (j / 1024) (omega (arith, same, h))) same h in
    omega (arith, k, e, same)

-- the table is longer
pub table-extended : (pages more : List ℕ) (last : ℕ) → IsTable pages last → length pages ≤ length more → ((k : ℕ) → get_or more k 0 ≡ get_or pages k 0) → IsTable more last
table-extended pages more last t long same =
    let in' : (k : ℕ) → 0 < get_or more k 0 → k < length pages = λ k o. elim (cases_lt k (length pages)) [
      | inl l ↦ l
      | inr g ↦ (let z = get_or_past pages k 0 g in let s = same k in absurd (omega arith))
    ] in
    record {
      below = λ k h. elim (cases_lt k (length pages)) [
        | inl l ↦ (let b = t.below k l in let s = same k in omega arith)
        | inr g ↦ (let z = get_or_past pages k 0 g in let s = same k in omega arith)
      ];
      apart = λ k l kh lh e o. t.apart k l (in' k o) (in' l (omega (arith, e, o))) (sym (same k) ∙ e ∙ same l) (omega (arith, same k, o));
    }

pub given-extended : (pages more : List ℕ) → length pages ≤ length more → ((k : ℕ) → get_or more k 0 ≡ get_or pages k 0) → IsGiven pages more
given-extended pages more long same = record { long = long; kept = λ k. inl (same k) }

-- one page of it is given
module _ (pages more : List ℕ) (last k : ℕ) (t : IsTable pages last) (long : length pages ≤ length more) (same : (l : ℕ) → get_or more l 0 ≡ get_or pages l 0) (kh : k < length more) (was : get_or pages k 0 ≡ 0) where
  here : get_or (set more k (last + 1)) k 0 ≡ last + 1
  here = get_or-set_same more k (last + 1) 0 kh

  other : (l : ℕ) → l ≢ k → get_or (set more k (last + 1)) l 0 ≡ get_or more l 0
  other l n = get_or-set_other more k l (last + 1) 0 n

  longer : length (set more k (last + 1)) ≡ length more
  longer = length-set more k (last + 1)

  at-k : (l : ℕ) → l ≡ k → get_or (set more k (last + 1)) l 0 ≡ last + 1
  at-k l e = ap (λ (m : ℕ). get_or (set more k (last + 1)) m 0) e ∙ here

  pub table-made : IsTable (set more k (last + 1)) (last + 1)
  table-made =
      let u : IsTable more last = table-extended pages more last t long same in
      record {
        below = λ l lh. elim (cases_eq l k) [
          | inl e ↦ (let h = at-k l e in omega arith)
          | inr n ↦ (let b = u.below l (omega (arith, lh, longer)) in let o = other l n in omega arith)
        ];
        apart = λ a b ah bh e o. elim (cases_eq a k) [
          | inl x ↦ elim (cases_eq b k) [
            | inl y ↦ x ∙ sym y
            | inr m ↦ (let h = at-k a x in let i = other b m in let w = u.below b (omega (arith, longer, bh)) in absurd (omega arith))
          ]
          | inr n ↦ elim (cases_eq b k) [
            | inl y ↦ (let h = at-k b y in let i = other a n in let w = u.below a (omega (arith, longer, ah)) in absurd (omega arith))
            | inr m ↦ u.apart a b (omega (arith, longer, ah)) (omega (arith, longer, bh)) (sym (other a n) ∙ e ∙ other b m) (omega (arith, other a n, o))
          ]
        ];
      }

  pub given-made : IsGiven pages (set more k (last + 1))
  given-made = record {
    long = omega (arith, longer, long);
    kept = λ l. elim (cases_eq l k) [
      | inl e ↦ inr (ap (λ (m : ℕ). get_or pages m 0) e ∙ was, λ m mh f. (let b = t.below m mh in let h = at-k l e in absurd (omega arith)))
      | inr n ↦ inl (other l n ∙ same l)
    ];
  }

  pub page-made : (i : ℕ) → i / 1024 ≡ k → 0 < page_of (set more k (last + 1)) i
  page-made i e = (let h = at-k (i / 1024) e in omega arith)

module _ {T : Type 0} (none : T) where
  -- a number has what stands at its place
  pub item-any : (pages : List ℕ) (items : List T) → HasFreePages none pages items → (k : ℕ) → item_at (row_of none pages items) k ≡ get_or items (place_in pages k) none
  item-any pages items free k = elim (cases_lt k (1024 * length pages)) [
    | inl l ↦ item-in none pages items k l
    | inr g ↦
        let e : page_of pages k ≡ 0 = get_or_past pages (k / 1024) 0 (omega arith) in
        item-past none pages items k g ∙ sym (ap (λ (p : ℕ). get_or items (p * 1024 + k % 1024) none) e ∙ free 0 (k % 1024) (omega arith) (λ l lh q. refl))
  ]

  -- what a number has at a place that is not none stands in a page of its own
  pub place-made : (pages : List ℕ) (items : List T) → HasFreePages none pages items → (k : ℕ) → (get_or items (place_in pages k) none ≡ none → ⊥) → 0 < page_of pages k
  place-made pages items free k n = elim (cases_lt 0 (page_of pages k)) [
    | inl p ↦ p
    | inr z ↦
        let e : page_of pages k ≡ 0 = omega arith in
        absurd (n (ap (λ (p : ℕ). get_or items (p * 1024 + k % 1024) none) e ∙ free 0 (k % 1024) (omega arith) (λ l lh q. refl)))
  ]

  module _ (old new : List ℕ) (items : List T) (g : IsGiven old new) (free : HasFreePages none old items) where
    free-old : (p : ℕ) → IsFreePage new p → IsFreePage old p
    free-old p f k kh e = elim (g.kept k) [
      | inl s ↦ f k (let l = g.long in omega arith) (s ∙ e)
      | inr s ↦ sym e ∙ s.0
    ]

    pub given-free : HasFreePages none new items
    given-free p r h f = free p r h (free-old p f)

    pub given-items : (k : ℕ) → get_or items (place_in new k) none ≡ get_or items (place_in old k) none
    given-items k = elim (g.kept (k / 1024)) [
      | inl s ↦ ap (λ (p : ℕ). get_or items (p * 1024 + k % 1024) none) s
      | inr s ↦
          free (page_of new k) (k % 1024) (omega arith) s.1
          ∙ sym (ap (λ (p : ℕ). get_or items (p * 1024 + k % 1024) none) s.0 ∙ free 0 (k % 1024) (omega arith) (λ l lh q. refl))
    ]

  -- one place of a page changes
  pub put-free : (pages : List ℕ) (items more : List T) (k : ℕ) → 0 < page_of pages k → ((j : ℕ) → j ≢ place_in pages k → get_or more j none ≡ get_or items j none) → HasFreePages none pages items → HasFreePages none pages more
  put-free pages items more k made same free p r h f = same (p * 1024 + r) (λ e.
      let q : page_of pages k ≡ p = omega arith in
      let in' : k / 1024 < length pages = elim (cases_lt (k / 1024) (length pages)) [
        | inl l ↦ l
        | inr g ↦ (let z = get_or_past pages (k / 1024) 0 g in absurd (omega arith))
      ] in
      let z = f (k / 1024) in' q in
      absurd (omega arith)) ∙ free p r h f
