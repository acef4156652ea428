-- What stands at a number of a row, after a change of its pages.
use Rattle.std.proofs.Common.{◌≡◌, ◌≢◌, ℕ, ◌+◌, ◌*◌, ◌/◌, ◌%◌, ◌<◌, ◌≤◌, List, length, get_or, set, map, refl, sym, ◌∙◌, ap, arith, inl, inr}
use Rattle.std.specs.Prelude.{true, false, nat_lt, ◌⊎◌}
use Rattle.std.proofs.lemmas.Bool.{cases_lt, cases_eq}
use Rattle.std.proofs.lemmas.Bool.Decides.{nat_tests}
use Rattle.std.proofs.lemmas.List.{length-set, ext_get_or, get_or-set_same, get_or-set_other, get_or_past}
use Rattle.std.proofs.Math.ListN.{get_or-map}
use Rattle.q_pages.specs.Rows.{item_at, IsMade}
use Rattle.q_pages.specs.Tables.{IsFreePage, page_of}
use Rattle.q_pages.specs.Layout.{entry, row_of, IsSound}
use Rattle.q_pages.proofs.FilledRows.{length-values, value-at}

module _ {T : Type 0} (none : T) (pages : List ℕ) (items : List T) where
  pub length-row : length (row_of none pages items).items ≡ 1024 * length pages
  length-row = length-values (entry none pages items) 0 (1024 * length pages)

  pub item-in : (i : ℕ) → i < 1024 * length pages → item_at (row_of none pages items) i ≡ entry none pages items i
  item-in i h =
      let e : 0 + i ≡ i = omega arith in
      value-at (entry none pages items) 0 (1024 * length pages) i none h ∙ ap (λ (k : ℕ). entry none pages items k) e

  pub item-past : (i : ℕ) → 1024 * length pages ≤ i → item_at (row_of none pages items) i ≡ none
  item-past i h = get_or_past (row_of none pages items).items i none (rw length-row h)

  made-is : (i : ℕ) → get_or (row_of none pages items).made (i / 1024) false ≡ nat_lt 0 (page_of pages i)
  made-is i = get_or-map (λ p. nat_lt 0 p) pages (i / 1024) 0

  pub made-in : (i : ℕ) → IsMade (row_of none pages items) i → (i < 1024 * length pages) × (0 < page_of pages i)
  made-in i m =
      let e : nat_lt 0 (page_of pages i) ≡ true = sym (made-is i) ∙ m.1 in
      (rw (← length-row) m.0, grind (arith, nat_tests))

  pub in-made : (i : ℕ) → i < 1024 * length pages → 0 < page_of pages i → IsMade (row_of none pages items) i
  in-made i h p =
      let e : nat_lt 0 (page_of pages i) ≡ true = grind (arith, nat_tests) in
      (rw length-row h, made-is i ∙ e)

-- a number without memory has what stands where nothing was written
pub made-or-none : {T : Type 0} (none : T) (pages : List ℕ) (items : List T) → IsSound none pages items → (i : ℕ) → IsMade (row_of none pages items) i ⊎ (item_at (row_of none pages items) i ≡ none)
made-or-none none pages items s i = elim (cases_lt i (1024 * length pages)) [
  | inr g ↦ inr (item-past none pages items i g)
  | inl l ↦ elim (cases_lt 0 (page_of pages i)) [
    | inl p ↦ inl (in-made none pages items i l p)
    | inr z ↦
        let e : page_of pages i ≡ 0 = omega arith in
        inr (item-in none pages items i l ∙ ap (λ (p : ℕ). get_or items (p * 1024 + i % 1024) none) e ∙ s.free 0 (i % 1024) (omega arith) (λ k kh q. refl))
  ]
]

-- the same length and the same items
pub items-same : {T : Type 0} (none : T) (pages more : List ℕ) (items others : List T) → length more ≡ length pages
    → ((i : ℕ) → i < 1024 * length pages → entry none more others i ≡ entry none pages items i)
    → (row_of none more others).items ≡ (row_of none pages items).items
items-same none pages more items others e f =
    let n = length-row none pages items in
    let m = length-row none more others in
    ext_get_or none (row_of none more others).items (row_of none pages items).items (m ∙ ap (λ k. 1024 * k) e ∙ sym n) (λ i ih.
    let il : i < 1024 * length pages = omega (arith, ih, m, e) in
    item-in none more others i (omega (arith, il, e)) ∙ f i il ∙ sym (item-in none pages items i il))

-- more items behind, which are what stands where nothing was written
module _ {T : Type 0} (none : T) (pages : List ℕ) (items more : List T) (s : IsSound none pages items) (longer : length items ≤ length more) (same : (i : ℕ) → get_or more i none ≡ get_or items i none) where
  pub sound-filled : IsSound none pages more
  sound-filled = record {
    within = λ k h. (let w = s.within k h in omega arith);
    free = λ p r h f. same (p * 1024 + r) ∙ s.free p r h f;
    apart = s.apart;
    few = s.few;
  }

  pub row-filled : row_of none pages more ≡ row_of none pages items
  row-filled = ap (λ (xs : List T). record { none = none; items = xs; made = map (λ p. nat_lt 0 p) pages })
      (items-same none pages pages items more refl (λ i h. same (page_of pages i * 1024 + i % 1024)))

-- more pages behind, without memory
module _ {T : Type 0} (none : T) (pages more : List ℕ) (items : List T) (s : IsSound none pages items) (longer : length pages ≤ length more) (same : (k : ℕ) → get_or more k 0 ≡ get_or pages k 0) where
  there : (k : ℕ) → 0 < get_or more k 0 → k < length pages
  there k h = elim (cases_lt k (length pages)) [
    | inl l ↦ l
    | inr g ↦ (let e : get_or more k 0 ≡ 0 = same k ∙ get_or_past pages k 0 g in absurd (omega arith))
  ]

  pub sound-extended : 1024 ≤ length items → length more ≤ 4194304 → IsSound none more items
  sound-extended some few = record {
    within = λ k h. elim (cases_lt k (length pages)) [
      | inl l ↦ (let w = s.within k l in let e = same k in omega arith)
      | inr g ↦ (let e : get_or more k 0 ≡ 0 = same k ∙ get_or_past pages k 0 g in omega arith)
    ];
    free = λ p r h f. s.free p r h (λ k kh e. f k (omega arith) (same k ∙ e));
    apart = λ k l kh lh e o. s.apart k l (there k o) (there l (omega (arith, e, o))) (sym (same k) ∙ e ∙ same l) (omega (arith, same k, o));
    few = few;
  }

  pub row-extended : (i : ℕ) → item_at (row_of none more items) i ≡ item_at (row_of none pages items) i
  row-extended i =
      let at' : entry none more items i ≡ entry none pages items i = ap (λ (p : ℕ). get_or items (p * 1024 + i % 1024) none) (same (i / 1024)) in
      let blank : 1024 * length pages ≤ i → entry none pages items i ≡ none = λ h.
      let e : page_of pages i ≡ 0 = get_or_past pages (i / 1024) 0 (omega arith) in
      let z : page_of pages i * 1024 + i % 1024 ≡ 0 * 1024 + i % 1024 = ap (λ (p : ℕ). p * 1024 + i % 1024) e in
      ap (λ (p : ℕ). get_or items p none) z ∙ s.free 0 (i % 1024) (omega arith) (λ k kh q. refl) in
      elim (cases_lt i (1024 * length pages)) [
        | inl l ↦ item-in none more items i (omega arith) ∙ at' ∙ sym (item-in none pages items i l)
        | inr g ↦ elim (cases_lt i (1024 * length more)) [
          | inl l ↦ item-in none more items i l ∙ at' ∙ blank g ∙ sym (item-past none pages items i g)
          | inr h ↦ item-past none more items i h ∙ sym (item-past none pages items i g)
        ]
      ]

  pub made-extended : (i : ℕ) → IsMade (row_of none pages items) i → IsMade (row_of none more items) i
  made-extended i m =
      let w = made-in none pages items i m in
      in-made none more items i (let a = w.0 in omega arith) (let a = w.1 in let e = same (i / 1024) in omega arith)

-- a page gets memory
module _ {T : Type 0} (none : T) (pages : List ℕ) (items : List T) (s : IsSound none pages items) (k q : ℕ) (kh : k < length pages) (was : get_or pages k 0 ≡ 0)
    (some : 0 < q) (new : (l : ℕ) → l < length pages → get_or pages l 0 < q) (room : q * 1024 + 1024 ≤ length items) where
  here : get_or (set pages k q) k 0 ≡ q
  here = get_or-set_same pages k q 0 kh

  other : (l : ℕ) → l ≢ k → get_or (set pages k q) l 0 ≡ get_or pages l 0
  other l n = get_or-set_other pages k l q 0 n

  long : length (set pages k q) ≡ length pages
  long = length-set pages k q

  free-q : IsFreePage pages q
  free-q l lh e = (let n = new l lh in absurd (omega arith))

  pub sound-made : IsSound none (set pages k q) items
  sound-made = record {
    within = λ l lh. elim (cases_eq l k) [
      | inl e ↦ (let h = ap (λ (m : ℕ). get_or (set pages k q) m 0) e ∙ here in omega arith)
      | inr n ↦ (let w = s.within l (omega (arith, long, lh)) in let o = other l n in omega arith)
    ];
    free = λ p r h f. s.free p r h (λ l lh e. elim (cases_eq l k) [
      | inl x ↦ sym e ∙ ap (λ (m : ℕ). get_or pages m 0) x ∙ was
      | inr n ↦ f l (omega (arith, long, lh)) (other l n ∙ e)
    ]);
    apart = λ a b ah bh e o. elim (cases_eq a k) [
      | inl x ↦ elim (cases_eq b k) [
        | inl y ↦ x ∙ sym y
        | inr m ↦ (let h = ap (λ (m : ℕ). get_or (set pages k q) m 0) x ∙ here in let i = other b m in let w = new b (omega (arith, long, bh)) in absurd (omega arith))
      ]
      | inr n ↦ elim (cases_eq b k) [
        | inl y ↦ (let h = ap (λ (m : ℕ). get_or (set pages k q) m 0) y ∙ here in let i = other a n in let w = new a (omega (arith, long, ah)) in absurd (omega arith))
        | inr m ↦ s.apart a b (omega (arith, long, ah)) (omega (arith, long, bh)) (sym (other a n) ∙ e ∙ other b m) (omega (arith, other a n, o))
      ]
    ];
    few = rw long s.few;
  }

  pub items-made : (row_of none (set pages k q) items).items ≡ (row_of none pages items).items
  items-made = items-same none pages (set pages k q) items items long (λ i ih. elim (cases_eq (i / 1024) k) [
    | inl e ↦
        let now : page_of (set pages k q) i ≡ q = ap (λ (m : ℕ). get_or (set pages k q) m 0) e ∙ here in
        let old : page_of pages i ≡ 0 = ap (λ (m : ℕ). get_or pages m 0) e ∙ was in
        ap (λ (p : ℕ). get_or items (p * 1024 + i % 1024) none) now ∙ s.free q (i % 1024) (omega arith) free-q
        ∙ sym (ap (λ (p : ℕ). get_or items (p * 1024 + i % 1024) none) old ∙ s.free 0 (i % 1024) (omega arith) (λ l lh x. refl))
    | inr n ↦ ap (λ (p : ℕ). get_or items (p * 1024 + i % 1024) none) (other (i / 1024) n)
  ])

  pub made-made : (i : ℕ) → IsMade (row_of none pages items) i → IsMade (row_of none (set pages k q) items) i
  made-made i m =
      let w = made-in none pages items i m in
      in-made none (set pages k q) items i (let a = w.0 in omega (arith, a, long)) (elim (cases_eq (i / 1024) k) [
        | inl e ↦ (let h = ap (λ (m : ℕ). get_or (set pages k q) m 0) e ∙ here in omega (arith, h, some))
        | inr n ↦ (let o = other (i / 1024) n in let a = w.1 in omega (arith, o, a))
      ])

  pub now-made : (i : ℕ) → i / 1024 ≡ k → IsMade (row_of none (set pages k q) items) i
  now-made i e =
      let h = ap (λ (m : ℕ). get_or (set pages k q) m 0) e ∙ here in
      in-made none (set pages k q) items i (omega (arith, long, kh, e)) (omega (arith, h, some))

-- a value is written into a page that has memory
module _ {T : Type 0} (none : T) (pages : List ℕ) (items : List T) (s : IsSound none pages items) (i : ℕ) (x : T) (ih : i < 1024 * length pages) (made : 0 < page_of pages i) where
  abbrev pub place : ℕ
  place = page_of pages i * 1024 + i % 1024

  in-row : i / 1024 < length pages
  in-row = omega arith

  pub place-in : page_of pages i * 1024 + i % 1024 < length items
  place-in = (let w = s.within (i / 1024) in-row in omega arith)

  pub sound-set : IsSound none pages (set items place x)
  sound-set = record {
    within = λ k h. rw (length-set items place x) (s.within k h);
    free = λ p r h f. get_or-set_other items place (p * 1024 + r) x none (λ e.
        let eq : p ≡ page_of pages i = omega arith in
        let z = f (i / 1024) in-row (sym eq) in
        absurd (omega arith)) ∙ s.free p r h f;
    apart = s.apart;
    few = s.few;
  }

  pub items-set : (row_of none pages (set items place x)).items ≡ set (row_of none pages items).items i x
  items-set =
      let n = length-row none pages items in
      let m = length-row none pages (set items place x) in
      let ls = length-set (row_of none pages items).items i x in
      ext_get_or none (row_of none pages (set items place x)).items (set (row_of none pages items).items i x) (m ∙ sym n ∙ sym ls) (λ j jh.
      let jl : j < 1024 * length pages = omega (arith, jh, m) in
      item-in none pages (set items place x) j jl ∙ elim (cases_eq j i) [
        | inl e ↦
            let at' : entry none pages (set items place x) j ≡ x = ap (λ (k : ℕ). entry none pages (set items place x) k) e ∙ get_or-set_same items place x none place-in in
            at' ∙ sym (ap (λ (k : ℕ). get_or (set (row_of none pages items).items i x) k none) e ∙ get_or-set_same (row_of none pages items).items i x none (omega (arith, n, ih)))
        | inr d ↦
            let apart : page_of pages j * 1024 + j % 1024 ≢ place = λ e.
            let eq : page_of pages j ≡ page_of pages i = omega arith in
            let k = s.apart (j / 1024) (i / 1024) (omega arith) in-row eq (omega arith) in
            d (omega arith) in
            get_or-set_other items place (page_of pages j * 1024 + j % 1024) x none apart ∙ sym (item-in none pages items j jl) ∙ sym (get_or-set_other (row_of none pages items).items i j x none d)
      ])
