-- Words that clauses have, up to a place of the row.
use Rattle.std.proofs.Common.{◌≡◌, ◌≢◌, ◌⊎◌, ℕ, ◌+◌, ◌<◌, ◌≤◌, List, [], ◌∷◌, length, map, get_or, Option, None, Some, refl, sym, ◌∙◌, ap, subst, inl, inr, arith}
use Rattle.std.proofs.lemmas.Bool.{cases_lt, cases_eq}
use Rattle.q_logic.specs.Prelude.{Literal}
use Rattle.q_arena.specs.declared.slots.Slot.{Slot}
use Rattle.q_arena.specs.Rings.{Has}
use Rattle.q_arena.specs.Layout.{slot_at, top_of, size_of, below, IsStack, Order, AreLaid}
use Rattle.q_arena.specs.Gaps.{first_gap}
use Rattle.q_arena.specs.Seen.{Clauses, clause_in, clause_at, start_at, piece, IsWord, IsFilled, IsEnd, words_in}
use Rattle.q_arena.proofs.Layouts.{live-room, live-within, stack-below, stack-sides, Has-below'}
use Rattle.q_arena.proofs.GapLemmas.{gap-full, gap-low, gap-in}
use Rattle.q_arena.proofs.ClauseWords.{clause-live, live-of, clause-length, start-is, length-piece}
use Rattle.q_arena.proofs.ClauseTotals.{words-count}

-- where the clauses of a stack fill the row, each word below the top is one of theirs
pub stack-filled : (s : ℕ → Slot) (is : List ℕ) → IsStack s is → size_of s is ≡ top_of s is → (p : ℕ) → p < top_of s is
    → (i : ℕ) × Has is i × ((s i).start ≤ p) × (p < (s i).start + (s i).len)
stack-filled s [] k e p l = absurd (omega arith)
stack-filled s (j ∷ is) k e p l =
    let le : top_of s is ≤ (s j).start = k.0 in
    let st = size-top' s is k.1 in
    let e' : (s j).len + size_of s is ≡ (s j).start + (s j).len = e in
    let full : size_of s is ≡ top_of s is = omega (arith, le, st, e') in
    elim (cases_lt p (s j).start) [
      | inl a ↦ let r = stack-filled s is k.1 full p (omega (arith, le, st, e', a)) in (r.0, inr r.1, r.2, r.3)
      | inr b ↦ (j, inl refl, b, l)
    ]
  where
    size-top' : (s : ℕ → Slot) (is : List ℕ) → IsStack s is → size_of s is ≤ top_of s is
    size-top' s [] k = omega arith
    size-top' s (i ∷ is) k = let d = size-top' s is k.1 in let le : top_of s is ≤ (s i).start = k.0 in omega arith

module _ (w : List Literal) (slots : List Slot) (ids : Order) (end total : ℕ) (a : AreLaid (length w) slots ids end total) (v : Clauses) (cs : v.clauses ≡ map (clause_in w) slots) (ss : v.starts ≡ map (λ (s : Slot). s.start) slots) where
  clause-here : (i : ℕ) → Has ids.used i → clause_at v i ≡ Some (piece w (slot_at slots i).start (slot_at slots i).len)
  clause-here i u = ap (λ (xs : List (Option (List Literal))). get_or xs i None) cs ∙ clause-live w slots i (a.live i u)

  start-here : (i : ℕ) → start_at v i ≡ (slot_at slots i).start
  start-here i = ap (λ (xs : List ℕ). get_or xs i 0) ss ∙ start-is slots i

  length-here : (i : ℕ) → Has ids.used i → length (piece w (slot_at slots i).start (slot_at slots i).len) ≡ (slot_at slots i).len
  length-here i u = length-piece w (slot_at slots i).start (slot_at slots i).len (live-room (length w) slots ids end total i a (a.live i u))

  used-of : (i : ℕ) (c : List Literal) → clause_at v i ≡ Some c → Has ids.used i
  used-of i c e = a.lives i (live-of w slots i c (sym (ap (λ (xs : List (Option (List Literal))). get_or xs i None) cs) ∙ e))

  length-of : (i : ℕ) (c : List Literal) → clause_at v i ≡ Some c → length c ≡ (slot_at slots i).len
  length-of i c e = clause-length w slots ids end total a i c (sym (ap (λ (xs : List (Option (List Literal))). get_or xs i None) cs) ∙ e)

  word-of : (i p : ℕ) → Has ids.used i → (slot_at slots i).start ≤ p → p < (slot_at slots i).start + (slot_at slots i).len → IsWord v p
  word-of i p u l h =
      let s = start-here i in
      let n = length-here i u in
      record { id = i; clause = piece w (slot_at slots i).start (slot_at slots i).len; live = clause-here i u; begins = omega (arith, s, l); ends = omega (arith, s, n, h) }

  pub filled-below : (id : ℕ) → size_of (slot_at slots) (below id ids.used) ≡ top_of (slot_at slots) (below id ids.used) → (p : ℕ) → p < top_of (slot_at slots) (below id ids.used) → IsWord v p
  filled-below id e p l =
      let r = stack-filled (slot_at slots) (below id ids.used) (stack-below (slot_at slots) id ids.used a.stack) e p l in
      word-of r.0 p (Has-below' id r.0 ids.used r.1) r.2 r.3

  -- the words before the first gap are filled, and the word there is not
  pub gap-words : (id : ℕ) → first_gap (slot_at slots) ids.used ≡ Some id
      → (IsFilled v (start_at v id) → ⊥) × ((i : ℕ) (c : List Literal) → clause_at v i ≡ Some c → start_at v i < start_at v id → IsFilled v (start_at v i))
  gap-words id e =
      let s : ℕ → Slot = slot_at slots in
      let u = gap-in s ids.used id e in
      let low = gap-low s id ids.used a.stack a.apart e in
      let full = gap-full s id ids.used a.stack a.apart e in
      let t : ℕ = top_of s (below id ids.used) in
      let start : start_at v id ≡ (s id).start = start-here id in (
        (λ f.
            let word : IsWord v t = f t (omega (arith, low, start)) in
            let uj = used-of word.id word.clause word.live in
            let sj = start-here word.id in
            let nj = length-of word.id word.clause word.live in
            elim (cases_eq word.id id) [
              | inl q ↦ let z : start_at v word.id ≡ start_at v id = ap (start_at v) q in omega (arith, z, start, low, word.begins)
              | inr n ↦ elim (stack-sides s id word.id ids.used a.stack u uj n) [
                | inl b ↦ omega (arith, b, sj, nj, word.ends)
                | inr b ↦ omega (arith, b, sj, low, word.begins)
              ]
            ]),
        λ i c h l p pl.
            let uj = used-of i c h in
            let si = start-here i in
            let n : i ≢ id = λ q. let z : start_at v i ≡ start_at v id = ap (start_at v) q in omega (arith, z, l) in
            elim (stack-sides s id i ids.used a.stack u uj n) [
              | inl b ↦ filled-below id full p (omega (arith, b, si, pl))
              | inr b ↦ absurd (omega (arith, b, si, start, l))
            ],
      )

  -- the dead words and those of the clauses are the words up to the last clause's end
  pub end-is : IsEnd v end
  end-is = record {
    within = λ i c e. let u = used-of i c e in let s = start-here i in let n = length-of i c e in let d = live-within (length w) slots ids end total i a (a.live i u) in omega (arith, s, n, d);
    reached = last ids.used refl;
  }
    where
      last : (is : List ℕ) → ids.used ≡ is → (end ≡ 0) ⊎ ((i : ℕ) × (c : List Literal) × (clause_at v i ≡ Some c) × (end ≡ start_at v i + length c))
      last [] e = inl (a.top ∙ ap (top_of (slot_at slots)) e)
      last (i ∷ is) e =
          let u : Has ids.used i = subst (λ (xs : List ℕ). Has xs i) (sym e) (inl refl) in
          let t : end ≡ (slot_at slots i).start + (slot_at slots i).len = a.top ∙ ap (top_of (slot_at slots)) e in
          let s = start-here i in
          let n = length-here i u in
          inr (i, piece w (slot_at slots i).start (slot_at slots i).len, clause-here i u, omega (arith, t, s, n))

  pub total-is : words_in v.clauses ≡ total
  total-is = ap words_in cs ∙ words-count w slots ids end total a ∙ sym a.whole
