-- The first gap, after each change of the row.
use Rattle.std.proofs.Common.{◌≡◌, ◌≢◌, ◌⊎◌, ℕ, ◌+◌, ◌<◌, ◌≤◌, List, [], ◌∷◌, Option, None, Some, refl, sym, ◌∙◌, ap, subst, inl, inr, arith}
use Rattle.std.specs.Prelude.{nat_lt}
use Rattle.std.proofs.lemmas.Bool.Decides.{nat_tests}
use Rattle.std.proofs.lemmas.Bool.{cases_lt, cases_eq}
use Rattle.std.proofs.lemmas.Option.{none-some}
use Rattle.q_arena.proofs.ListNeighbours.{preceding-none, preceding-first}
use Rattle.q_arena.specs.declared.slots.Slot.{Slot}
use Rattle.q_arena.specs.Layout.{top_of, IsStack, size_of, below}
use Rattle.q_arena.specs.Gaps.{or_else, when, first_gap, gap_past, gap_gone}
use Rattle.q_arena.specs.Chains.{preceding as above}
use Rattle.q_arena.specs.Rings.{Has, Misses, AreApart, without}
use Rattle.q_arena.proofs.RingPaths.{Misses-not, without-first, without-later}
use Rattle.q_arena.proofs.Layouts.{size-same, size-without, size-top, stack-in, without-gone, below-here, below-later}

Option-cases : (o : Option ℕ) → (o ≡ None) ⊎ ((g : ℕ) × (o ≡ Some g))
Option-cases None = inl refl
Option-cases (Some g) = inr (g, refl)

when-lt : (a b i : ℕ) → a < b → when (nat_lt a b) i ≡ Some i
when-lt a b i h = grind (arith, nat_tests)

when-ge : (a b i : ℕ) → b ≤ a → when (nat_lt a b) i ≡ None
when-ge a b i h = grind (arith, nat_tests)

past-up : (s : ℕ → Slot) (g i : ℕ) (up : Option ℕ) → (s i).start < (s g).start → gap_past s (Some g) i up ≡ up
past-up s g i up h = grind (arith, nat_tests)

past-stays : (s : ℕ → Slot) (g i : ℕ) (up : Option ℕ) → (s g).start ≤ (s i).start → gap_past s (Some g) i up ≡ Some g
past-stays s g i up h = grind (arith, nat_tests)

or_else-none : (o : Option ℕ) → or_else o None ≡ o
or_else-none None = refl
or_else-none (Some i) = refl

module _ (s : ℕ → Slot) where
  pub gap-in : (is : List ℕ) (g : ℕ) → first_gap s is ≡ Some g → Has is g
  gap-in [] g e = let d : None ≡ Some g = e in absurd (none-some g d)
  gap-in (i ∷ is) g e = elim (Option-cases (first_gap s is)) [
    | inl n ↦
        let d : when (nat_lt (size_of s is) (s i).start) i ≡ Some g = ap (λ (o : Option ℕ). or_else o (when (nat_lt (size_of s is) (s i).start) i)) (sym n) ∙ e in
        elim (cases_lt (size_of s is) (s i).start) [
          | inl l ↦ let f : Some i ≡ Some g = sym (when-lt (size_of s is) (s i).start i l) ∙ d in inl (cc)
          | inr l ↦ let f : None ≡ Some g = sym (when-ge (size_of s is) (s i).start i l) ∙ d in absurd (none-some g f)
        ]
    | inr x ↦
        let f : Some x.0 ≡ Some g = ap (λ (o : Option ℕ). or_else o (when (nat_lt (size_of s is) (s i).start) i)) (sym x.1) ∙ e in
        let q : x.0 ≡ g = cc in
        inr (subst (λ (k : ℕ). Has is k) q (gap-in is x.0 x.1))
  ]

  -- with no gap the clauses fill the row
  pub gap-none : (is : List ℕ) → IsStack s is → first_gap s is ≡ None → size_of s is ≡ top_of s is
  gap-none [] k e = refl
  gap-none (i ∷ is) k e =
      let le : top_of s is ≤ (s i).start = k.0 in
      elim (Option-cases (first_gap s is)) [
        | inl n ↦
            let d : when (nat_lt (size_of s is) (s i).start) i ≡ None = ap (λ (o : Option ℕ). or_else o (when (nat_lt (size_of s is) (s i).start) i)) (sym n) ∙ e in
            let full = gap-none is k.1 n in
            elim (cases_lt (size_of s is) (s i).start) [
              | inl l ↦ let f : Some i ≡ None = sym (when-lt (size_of s is) (s i).start i l) ∙ d in absurd (none-some i (sym f))
              | inr l ↦ omega arith
            ]
        | inr x ↦ let f : Some x.0 ≡ None = ap (λ (o : Option ℕ). or_else o (when (nat_lt (size_of s is) (s i).start) i)) (sym x.1) ∙ e in absurd (none-some x.0 (sym f))
      ]

  -- with a gap they do not
  pub gap-some : (is : List ℕ) (g : ℕ) → IsStack s is → first_gap s is ≡ Some g → size_of s is < top_of s is
  gap-some [] g k e = let d : None ≡ Some g = e in absurd (none-some g d)
  gap-some (i ∷ is) g k e =
      let le : top_of s is ≤ (s i).start = k.0 in
      let st = size-top s is k.1 in
      elim (Option-cases (first_gap s is)) [
        | inl n ↦
            let d : when (nat_lt (size_of s is) (s i).start) i ≡ Some g = ap (λ (o : Option ℕ). or_else o (when (nat_lt (size_of s is) (s i).start) i)) (sym n) ∙ e in
            elim (cases_lt (size_of s is) (s i).start) [
              | inl l ↦ omega arith
              | inr l ↦ let f : None ≡ Some g = sym (when-ge (size_of s is) (s i).start i l) ∙ d in absurd (none-some g f)
            ]
        | inr x ↦ let r = gap-some is x.0 k.1 x.1 in omega arith
      ]

  -- a clause at the end of the row makes no gap
  pub gap-add : (i : ℕ) (is : List ℕ) → IsStack s is → (s i).start ≡ top_of s is → first_gap s (i ∷ is) ≡ first_gap s is
  gap-add i is k e = elim (Option-cases (first_gap s is)) [
    | inl n ↦
        let full = gap-none is k n in
        ap (λ (o : Option ℕ). or_else (first_gap s is) o) (when-ge (size_of s is) (s i).start i (omega arith)) ∙ or_else-none (first_gap s is)
    | inr x ↦ ap (λ (o : Option ℕ). or_else o (when (nat_lt (size_of s is) (s i).start) i)) x.1 ∙ sym x.1
  ]

module _ (s t : ℕ → Slot) where
  pub gap-same : (is : List ℕ) → ((i : ℕ) → Has is i → t i ≡ s i) → first_gap t is ≡ first_gap s is
  gap-same [] f = refl
  gap-same (i ∷ is) f =
      let e : t i ≡ s i = f i (inl refl) in
      let d = gap-same is (λ j h. f j (inr h)) in
      let z = size-same s t is (λ j h. f j (inr h)) in
      rw (e, d, z) refl

  size-changed : (i : ℕ) (is : List ℕ) → Has is i → AreApart is → ((j : ℕ) → j ≢ i → t j ≡ s j) → size_of t is + (s i).len ≡ size_of s is + (t i).len
  size-changed i is h a f =
      let x = size-without s i is h in
      let y = size-without t i is h in
      let z = size-same s t (without i is) (λ j g. f j (λ q. without-gone i is a (subst (λ (k : ℕ). Has (without i is) k) q g))) in
      omega arith

  -- the last word of a clause dies
  pub gap-drop : (i : ℕ) (is : List ℕ) → IsStack s is → AreApart is → Has is i → ((j : ℕ) → j ≢ i → t j ≡ s j) → (t i).start ≡ (s i).start → (t i).len + 1 ≡ (s i).len → first_gap t is ≡ gap_past s (first_gap s is) i (above i is)
  gap-drop i [] k a h f es el = absurd h
  gap-drop i (j ∷ js) k a h f es el =
      let le : top_of s js ≤ (s j).start = k.0 in
      let st = size-top s js k.1 in
      let here : j ≡ i → first_gap t (j ∷ js) ≡ gap_past s (first_gap s (j ∷ js)) i (above i (j ∷ js)) = λ q.
      let m : Misses i js = subst (λ (x : ℕ). Misses x js) q a.0 in
      let same : (x : ℕ) → Has js x → t x ≡ s x = λ x g. f x (λ r. Misses-not i x js m g (sym r)) in
      let d = gap-same js same in
      let z = size-same s t js same in
      let sj : (t j).start ≡ (s j).start = ap (λ (x : ℕ). (t x).start) q ∙ es ∙ ap (λ (x : ℕ). (s x).start) (sym q) in
      let lhs : first_gap t (j ∷ js) ≡ first_gap s (j ∷ js) = rw (d, z, sj) refl in
      let up : above i (j ∷ js) ≡ None = preceding-none i j js m in
      elim (Option-cases (first_gap s (j ∷ js))) [
        | inl n ↦ lhs ∙ n ∙ sym up ∙ ap (λ (o : Option ℕ). gap_past s o i (above i (j ∷ js))) (sym n)
        | inr x ↦
            let low : (s x.0).start ≤ (s i).start = elim (gap-in s (j ∷ js) x.0 x.1) [
              | inl r ↦ rw (r, q) (omega arith)
              | inr g ↦ let b = stack-in s js x.0 k.1 g in rw (← q) (omega arith)
            ] in
            lhs ∙ x.1 ∙ sym (past-stays s x.0 i (above i (j ∷ js)) low) ∙ ap (λ (o : Option ℕ). gap_past s o i (above i (j ∷ js))) (sym x.1)
      ] in
      elim (cases_eq j i) [
        | inl q ↦ here q
        | inr n ↦ elim h [
          | inl q ↦ here (sym q)
          | inr g ↦
              let ih = gap-drop i js k.1 a.1 g f es el in
              let ch = size-changed i js g a.1 f in
              let tj : t j ≡ s j = f j n in
              let sj : (t j).start ≡ (s j).start = ap (λ (x : Slot). x.start) tj in
              let inside = stack-in s js i k.1 g in
              let lt : size_of t js < (t j).start = omega arith in
              let lhs : first_gap t (j ∷ js) ≡ or_else (first_gap t js) (Some j) = ap (λ (o : Option ℕ). or_else (first_gap t js) o) (when-lt (size_of t js) (t j).start j lt) in
              let more = sym (preceding-first i j js a.1 g) in
              elim (Option-cases (first_gap s js)) [
                | inl none ↦
                    let i1 : first_gap t js ≡ above i js = ih ∙ ap (λ (o : Option ℕ). gap_past s o i (above i js)) none in
                    let all : first_gap t (j ∷ js) ≡ above i (j ∷ js) = lhs ∙ ap (λ (o : Option ℕ). or_else o (Some j)) i1 ∙ more in
                    let s1 : first_gap s (j ∷ js) ≡ when (nat_lt (size_of s js) (s j).start) j = ap (λ (o : Option ℕ). or_else o (when (nat_lt (size_of s js) (s j).start) j)) none in
                    elim (cases_lt (size_of s js) (s j).start) [
                      | inl l ↦ all ∙ sym (past-up s j i (above i (j ∷ js)) (omega arith)) ∙ ap (λ (o : Option ℕ). gap_past s o i (above i (j ∷ js))) (sym (s1 ∙ when-lt (size_of s js) (s j).start j l))
                      | inr l ↦ all ∙ ap (λ (o : Option ℕ). gap_past s o i (above i (j ∷ js))) (sym (s1 ∙ when-ge (size_of s js) (s j).start j l))
                    ]
                | inr x ↦
                    let s1 : first_gap s (j ∷ js) ≡ Some x.0 = ap (λ (o : Option ℕ). or_else o (when (nat_lt (size_of s js) (s j).start) j)) x.1 in
                    let i0 : first_gap t js ≡ gap_past s (Some x.0) i (above i js) = ih ∙ ap (λ (o : Option ℕ). gap_past s o i (above i js)) x.1 in
                    elim (cases_lt (s i).start (s x.0).start) [
                      | inl l ↦
                          lhs ∙ ap (λ (o : Option ℕ). or_else o (Some j)) (i0 ∙ past-up s x.0 i (above i js) l) ∙ more
                          ∙ sym (past-up s x.0 i (above i (j ∷ js)) l) ∙ ap (λ (o : Option ℕ). gap_past s o i (above i (j ∷ js))) (sym s1)
                      | inr l ↦
                          lhs ∙ ap (λ (o : Option ℕ). or_else o (Some j)) (i0 ∙ past-stays s x.0 i (above i js) l)
                          ∙ sym (past-stays s x.0 i (above i (j ∷ js)) l) ∙ ap (λ (o : Option ℕ). gap_past s o i (above i (j ∷ js))) (sym s1)
                    ]
              ]
        ]
      ]

  -- the first clause with a gap is moved down
  pub gap-slide : (i : ℕ) (is : List ℕ) → IsStack s is → AreApart is → first_gap s is ≡ Some i → ((j : ℕ) → j ≢ i → t j ≡ s j) → (t i).start ≡ top_of s (below i is) → (t i).len ≡ (s i).len → first_gap t is ≡ above i is
  gap-slide i [] k a e f es el = absurd (gap-in s [] i e)
  gap-slide i (j ∷ js) k a e f es el =
      let le : top_of s js ≤ (s j).start = k.0 in
      elim (cases_eq j i) [
        | inl q ↦
            let m : Misses i js = subst (λ (x : ℕ). Misses x js) q a.0 in
            let same : (x : ℕ) → Has js x → t x ≡ s x = λ x g. f x (λ r. Misses-not i x js m g (sym r)) in
            let none : first_gap s js ≡ None = elim (Option-cases (first_gap s js)) [
              | inl n ↦ n
              | inr x ↦
                  let w : Some x.0 ≡ Some i = ap (λ (o : Option ℕ). or_else o (when (nat_lt (size_of s js) (s j).start) j)) (sym x.1) ∙ e in
                  let v : x.0 ≡ i = cc in
                  absurd (Misses-not i x.0 js m (gap-in s js x.0 x.1) (sym v))
            ] in
            let full = gap-none s js k.1 none in
            let z = size-same s t js same in
            let sj : (t j).start ≡ top_of s js = ap (λ (x : ℕ). (t x).start) q ∙ es ∙ ap (λ (xs : List ℕ). top_of s xs) (below-here i j js q) in
            ap (λ (o : Option ℕ). or_else o (when (nat_lt (size_of t js) (t j).start) j)) (gap-same js same ∙ none)
            ∙ when-ge (size_of t js) (t j).start j (omega arith) ∙ sym (preceding-none i j js m)
        | inr n ↦
            let deep : first_gap s js ≡ Some i = elim (Option-cases (first_gap s js)) [
              | inl none ↦ elim (gap-in s (j ∷ js) i e) [
                | inl q ↦ absurd (n (sym q))
                | inr g ↦
                    let w : when (nat_lt (size_of s js) (s j).start) j ≡ Some i = ap (λ (o : Option ℕ). or_else o (when (nat_lt (size_of s js) (s j).start) j)) (sym none) ∙ e in
                    elim (cases_lt (size_of s js) (s j).start) [
                      | inl l ↦ let v : Some j ≡ Some i = sym (when-lt (size_of s js) (s j).start j l) ∙ w in absurd (n (cc))
                      | inr l ↦ let v : None ≡ Some i = sym (when-ge (size_of s js) (s j).start j l) ∙ w in absurd (none-some i v)
                    ]
              ]
              | inr x ↦ x.1 ∙ ap (λ (o : Option ℕ). or_else o (when (nat_lt (size_of s js) (s j).start) j)) (sym x.1) ∙ e
            ] in
            let g = gap-in s js i deep in
            let ih = gap-slide i js k.1 a.1 deep f (es ∙ ap (λ (xs : List ℕ). top_of s xs) (below-later i j js n)) el in
            let ch = size-changed i js g a.1 f in
            let room = gap-some s js i k.1 deep in
            let sj : (t j).start ≡ (s j).start = ap (λ (x : Slot). x.start) (f j n) in
            ap (λ (o : Option ℕ). or_else (first_gap t js) o) (when-lt (size_of t js) (t j).start j (omega arith))
            ∙ ap (λ (o : Option ℕ). or_else o (Some j)) ih ∙ sym (preceding-first i j js a.1 g)
      ]

gone-none : (s : ℕ → Slot) (i : ℕ) → gap_gone s None i None ≡ None
gone-none s i = grind (arith, nat_tests)

gone-none-up : (s : ℕ → Slot) (i : ℕ) (up : Option ℕ) → 0 < (s i).len → gap_gone s None i up ≡ up
gone-none-up s i up h = grind (arith, nat_tests)

gone-none-empty : (s : ℕ → Slot) (i : ℕ) (up : Option ℕ) → (s i).len ≡ 0 → gap_gone s None i up ≡ None
gone-none-empty s i up h = grind (arith, nat_tests)

gone-itself : (s : ℕ → Slot) (g i : ℕ) (up : Option ℕ) → g ≡ i → gap_gone s (Some g) i up ≡ up
gone-itself s g i up h = grind (arith, nat_tests)

gone-up : (s : ℕ → Slot) (g i : ℕ) (up : Option ℕ) → g ≢ i → 0 < (s i).len → (s i).start < (s g).start → gap_gone s (Some g) i up ≡ up
gone-up s g i up n h l = grind (arith, nat_tests)

gone-empty : (s : ℕ → Slot) (g i : ℕ) (up : Option ℕ) → g ≢ i → (s i).len ≡ 0 → gap_gone s (Some g) i up ≡ Some g
gone-empty s g i up n h = grind (arith, nat_tests)

gone-stays : (s : ℕ → Slot) (g i : ℕ) (up : Option ℕ) → g ≢ i → (s g).start ≤ (s i).start → gap_gone s (Some g) i up ≡ Some g
gone-stays s g i up n h = grind (arith, nat_tests)

module _ (s : ℕ → Slot) where
  -- a clause is gone
  pub gap-delete : (i : ℕ) (is : List ℕ) → IsStack s is → AreApart is → Has is i → first_gap s (without i is) ≡ gap_gone s (first_gap s is) i (above i is)
  gap-delete i [] k a h = absurd h
  gap-delete i (j ∷ js) k a h =
      let le : top_of s js ≤ (s j).start = k.0 in
      let st = size-top s js k.1 in
      let w : Option ℕ = when (nat_lt (size_of s js) (s j).start) j in
      let up : Option ℕ = above i (j ∷ js) in
      let here : j ≡ i → first_gap s (without i (j ∷ js)) ≡ gap_gone s (first_gap s (j ∷ js)) i up = λ q.
      let m : Misses i js = subst (λ (x : ℕ). Misses x js) q a.0 in
      let un : up ≡ None = preceding-none i j js m in
      let lhs : first_gap s (without i (j ∷ js)) ≡ first_gap s js = ap (λ (xs : List ℕ). first_gap s xs) (without-first i j js q) in
      elim (Option-cases (first_gap s js)) [
        | inl n ↦
            let s1 : first_gap s (j ∷ js) ≡ w = ap (λ (o : Option ℕ). or_else o w) n in
            elim (cases_lt (size_of s js) (s j).start) [
              | inl l ↦ lhs ∙ n ∙ sym un ∙ sym (gone-itself s j i up q) ∙ ap (λ (o : Option ℕ). gap_gone s o i up) (sym (s1 ∙ when-lt (size_of s js) (s j).start j l))
              | inr l ↦ lhs ∙ n ∙ sym (gone-none s i) ∙ ap (λ (o : Option ℕ). gap_gone s None i o) (sym un) ∙ ap (λ (o : Option ℕ). gap_gone s o i up) (sym (s1 ∙ when-ge (size_of s js) (s j).start j l))
            ]
        | inr x ↦
            let s1 : first_gap s (j ∷ js) ≡ Some x.0 = ap (λ (o : Option ℕ). or_else o w) x.1 in
            let g = gap-in s js x.0 x.1 in
            let b = stack-in s js x.0 k.1 g in
            let n : x.0 ≢ i = λ r. Misses-not i x.0 js m g (sym r) in
            let low : (s x.0).start ≤ (s i).start = rw (← q) (omega arith) in
            lhs ∙ x.1 ∙ sym (gone-stays s x.0 i up n low) ∙ ap (λ (o : Option ℕ). gap_gone s o i up) (sym s1)
      ] in
      elim (cases_eq j i) [
        | inl q ↦ here q
        | inr n ↦ elim h [
          | inl q ↦ here (sym q)
          | inr g ↦
              let ih = gap-delete i js k.1 a.1 g in
              let ch = size-without s i js g in
              let inside = stack-in s js i k.1 g in
              let more = sym (preceding-first i j js a.1 g) in
              let lhs : first_gap s (without i (j ∷ js)) ≡ or_else (first_gap s (without i js)) (when (nat_lt (size_of s (without i js)) (s j).start) j) = ap (λ (xs : List ℕ). first_gap s xs) (without-later i j js n) in
              -- the next clause has a gap where words died below it
              let rise : size_of s (without i js) < (s j).start → first_gap s (without i js) ≡ above i js → first_gap s (without i (j ∷ js)) ≡ up = λ l e.
              lhs ∙ ap (λ (o : Option ℕ). or_else (first_gap s (without i js)) o) (when-lt (size_of s (without i js)) (s j).start j l) ∙ ap (λ (o : Option ℕ). or_else o (Some j)) e ∙ more in
              elim (Option-cases (first_gap s js)) [
                | inl none ↦
                    let s1 : first_gap s (j ∷ js) ≡ w = ap (λ (o : Option ℕ). or_else o w) none in
                    let i0 : first_gap s (without i js) ≡ gap_gone s None i (above i js) = ih ∙ ap (λ (o : Option ℕ). gap_gone s o i (above i js)) none in
                    elim (cases_lt 0 (s i).len) [
                      | inl pos ↦
                          let all = rise (omega arith) (i0 ∙ gone-none-up s i (above i js) pos) in
                          elim (cases_lt (size_of s js) (s j).start) [
                            | inl l ↦ all ∙ sym (gone-up s j i up n pos (omega arith)) ∙ ap (λ (o : Option ℕ). gap_gone s o i up) (sym (s1 ∙ when-lt (size_of s js) (s j).start j l))
                            | inr l ↦ all ∙ sym (gone-none-up s i up pos) ∙ ap (λ (o : Option ℕ). gap_gone s o i up) (sym (s1 ∙ when-ge (size_of s js) (s j).start j l))
                          ]
                      | inr zero' ↦
                          let z : (s i).len ≡ 0 = omega arith in
                          let e : size_of s (without i js) ≡ size_of s js = omega arith in
                          let all : first_gap s (without i (j ∷ js)) ≡ w = lhs ∙ ap (λ (o : Option ℕ). or_else o (when (nat_lt (size_of s (without i js)) (s j).start) j)) (i0 ∙ gone-none-empty s i (above i js) z) ∙ ap (λ (m : ℕ). when (nat_lt m (s j).start) j) e in
                          elim (cases_lt (size_of s js) (s j).start) [
                            | inl l ↦ let v = when-lt (size_of s js) (s j).start j l in all ∙ v ∙ sym (gone-empty s j i up n z) ∙ ap (λ (o : Option ℕ). gap_gone s o i up) (sym (s1 ∙ v))
                            | inr l ↦ let v = when-ge (size_of s js) (s j).start j l in all ∙ v ∙ sym (gone-none-empty s i up z) ∙ ap (λ (o : Option ℕ). gap_gone s o i up) (sym (s1 ∙ v))
                          ]
                    ]
                | inr x ↦
                    let s1 : first_gap s (j ∷ js) ≡ Some x.0 = ap (λ (o : Option ℕ). or_else o w) x.1 in
                    let i0 : first_gap s (without i js) ≡ gap_gone s (Some x.0) i (above i js) = ih ∙ ap (λ (o : Option ℕ). gap_gone s o i (above i js)) x.1 in
                    let back = ap (λ (o : Option ℕ). gap_gone s o i up) (sym s1) in
                    let room = gap-some s js x.0 k.1 x.1 in
                    let keep : first_gap s (without i js) ≡ Some x.0 → first_gap s (without i (j ∷ js)) ≡ Some x.0 = λ e. lhs ∙ ap (λ (o : Option ℕ). or_else o (when (nat_lt (size_of s (without i js)) (s j).start) j)) e in
                    elim (cases_eq x.0 i) [
                      | inl q ↦ rise (omega arith) (i0 ∙ gone-itself s x.0 i (above i js) q) ∙ sym (gone-itself s x.0 i up q) ∙ back
                      | inr m ↦ elim (cases_lt 0 (s i).len) [
                        | inl pos ↦ elim (cases_lt (s i).start (s x.0).start) [
                          | inl l ↦ rise (omega arith) (i0 ∙ gone-up s x.0 i (above i js) m pos l) ∙ sym (gone-up s x.0 i up m pos l) ∙ back
                          | inr l ↦ keep (i0 ∙ gone-stays s x.0 i (above i js) m l) ∙ sym (gone-stays s x.0 i up m l) ∙ back
                        ]
                        | inr zero' ↦
                            let z : (s i).len ≡ 0 = omega arith in
                            keep (i0 ∙ gone-empty s x.0 i (above i js) m z) ∙ sym (gone-empty s x.0 i up m z) ∙ back
                      ]
                    ]
              ]
        ]
      ]

  -- the clauses before the first one with a gap fill the row
  pub gap-full : (i : ℕ) (is : List ℕ) → IsStack s is → AreApart is → first_gap s is ≡ Some i → size_of s (below i is) ≡ top_of s (below i is)
  gap-full i [] k a e = absurd (gap-in s [] i e)
  gap-full i (j ∷ js) k a e = elim (Option-cases (first_gap s js)) [
    | inl none ↦
        let w : when (nat_lt (size_of s js) (s j).start) j ≡ Some i = ap (λ (o : Option ℕ). or_else o (when (nat_lt (size_of s js) (s j).start) j)) (sym none) ∙ e in
        elim (cases_lt (size_of s js) (s j).start) [
          | inl l ↦
              let v : Some j ≡ Some i = sym (when-lt (size_of s js) (s j).start j l) ∙ w in
              let q : j ≡ i = cc in
              rw (below-here i j js q) (gap-none s js k.1 none)
          | inr l ↦ let v : None ≡ Some i = sym (when-ge (size_of s js) (s j).start j l) ∙ w in absurd (none-some i v)
        ]
    | inr x ↦
        let w : Some x.0 ≡ Some i = ap (λ (o : Option ℕ). or_else o (when (nat_lt (size_of s js) (s j).start) j)) (sym x.1) ∙ e in
        let q : x.0 ≡ i = cc in
        let deep : first_gap s js ≡ Some i = x.1 ∙ w in
        let n : j ≢ i = λ r. Misses-not j i js a.0 (gap-in s js i deep) r in
        rw (below-later i j js n) (gap-full i js k.1 a.1 deep)
  ]

  -- there is room below the first clause with a gap
  pub gap-low : (i : ℕ) (is : List ℕ) → IsStack s is → AreApart is → first_gap s is ≡ Some i → top_of s (below i is) < (s i).start
  gap-low i [] k a e = absurd (gap-in s [] i e)
  gap-low i (j ∷ js) k a e = elim (Option-cases (first_gap s js)) [
    | inl none ↦
        let w : when (nat_lt (size_of s js) (s j).start) j ≡ Some i = ap (λ (o : Option ℕ). or_else o (when (nat_lt (size_of s js) (s j).start) j)) (sym none) ∙ e in
        let full = gap-none s js k.1 none in
        elim (cases_lt (size_of s js) (s j).start) [
          | inl l ↦
              let v : Some j ≡ Some i = sym (when-lt (size_of s js) (s j).start j l) ∙ w in
              let q : j ≡ i = cc in
              rw (below-here i j js q, ← q) (omega arith)
          | inr l ↦ let v : None ≡ Some i = sym (when-ge (size_of s js) (s j).start j l) ∙ w in absurd (none-some i v)
        ]
    | inr x ↦
        let w : Some x.0 ≡ Some i = ap (λ (o : Option ℕ). or_else o (when (nat_lt (size_of s js) (s j).start) j)) (sym x.1) ∙ e in
        let q : x.0 ≡ i = cc in
        let deep : first_gap s js ≡ Some i = x.1 ∙ w in
        let n : j ≢ i = λ r. Misses-not j i js a.0 (gap-in s js i deep) r in
        rw (below-later i j js n) (gap-low i js k.1 a.1 deep)
  ]
