-- Two blocks of one quantifier that meet become one.
use Rattle.std.proofs.Common.{◌≡◌, ◌≢◌, ◌⊎◌, ℕ, zero, suc, ◌+◌, ◌<◌, ◌≤◌, ◌^◌, Bool, true, false, cond, eqb, List, [], ◌∷◌, ◌++◌, Option, None, Some, get_or, set, slice_index_or, length, refl, sym, ◌∙◌, ap, subst, inl, inr, arith, true≢false}
use Rattle.std.proofs.lemmas.Bool.Decides.{nat_tests}
use Rattle.std.proofs.lemmas.List.{length-set, get_or-set_same, get_or-set_other}
use Rattle.std.proofs.lemmas.Bool.{cases_eq, ne_eqb}
use Rattle.q_logic.specs.declared.formulas.Bound.{Bound}
use Rattle.q_logic.specs.Prelude.{Prefix, is_bound, same_quant, Distinct, IsNext}
use Rattle.q_logic.proofs.Common.{is_bound-first, is_bound-later}
use Rattle.q_judge.specs.declared.bindings.Binding.{Binding}
use Rattle.q_judge.specs.Scopes.{binding_at, rank_at, rank_in, first_or, last_or, var_of, AreLinked, IsBindingOf, AreRanked, Follows, in_block, AreScoped, renumbered, with_rank, is_among, IsRun, IsMovable, IsMoved, HaveRoom}
use Rattle.q_judge.proofs.BoundPieces.{bound-cases, bound-left, bound-right, bound-either, distinct-left, distinct-right, few-below, last-bound}
use Rattle.q_judge.proofs.LinkedPrefixes.{linked-left, linked-right, binding-in}
use Rattle.q_judge.proofs.BlockRanks.{ranked-rises, ranked-last, ranked-join, in_block-append, some-in_block, in_block-one}
use Rattle.q_judge.proofs.BlockRuns.{block_vars, block_back, block-size, among-block, block-among, run-forward, back-size, among-back, back-among, run-back}

pub get-in : (xs : List (Option Binding)) (v : ℕ) (s : Binding) → slice_index_or xs v None ≡ Some s → v < length xs
get-in [] v s e = cc
get-in (x ∷ xs) zero s e = omega arith
get-in (x ∷ xs) (suc v) s e = let i : v < length xs = get-in xs v s e in omega arith

pub positive-in : (counts : List ℕ) (r : ℕ) → 0 < get_or counts r 0 → r < length counts
positive-in [] r h = absurd (omega arith)
positive-in (x ∷ counts) zero h = omega arith
positive-in (x ∷ counts) (suc r) h = let i : r < length counts = positive-in counts r h in omega arith

pub linked-room : (bindings : List (Option Binding)) (P : Prefix) → AreLinked (binding_at bindings) None P None → HaveRoom P (length bindings)
linked-room bindings P l v h = let r = binding-in (binding_at bindings) None P None l v h in get-in bindings v r.0 r.1

in_block-none : (f : ℕ → ℕ) (r : ℕ) (P : Prefix) → ((v : ℕ) → is_bound P v ≡ true → f v ≢ r) → in_block f r P ≡ 0
in_block-none f r [] h = refl
in_block-none f r (b ∷ P) h = rw (ne_eqb (f b.var) r (h b.var (is_bound-first b P))) (in_block-none f r P (λ v i. h v (is_bound-later b P v i)))

pub in_block-few : (f : ℕ → ℕ) (r : ℕ) (P : Prefix) → in_block f r P ≤ length P
in_block-few f r [] = omega arith
in_block-few f r (b ∷ P) = let i : in_block f r P ≤ length P = in_block-few f r P in go (eqb (f b.var) r) i
  where
    go : (s : Bool) → in_block f r P ≤ length P → cond s (in_block f r P + 1) (in_block f r P) ≤ suc (length P)
    go true i = omega arith
    go false i = omega arith

in_block-two : (f : ℕ → ℕ) (r s : ℕ) (P : Prefix) → r ≢ s → in_block f r P + in_block f s P ≤ length P
in_block-two f r s [] n = omega arith
in_block-two f r s (b ∷ P) n =
    let i : in_block f r P + in_block f s P ≤ length P = in_block-two f r s P n in
    let x = in_block-one f r b P in
    let y = in_block-one f s b P in
    elim (cases_eq (f b.var) r) [
      | inl e ↦ let q : eqb (f b.var) r ≡ true = grind (arith, nat_tests) in let p : eqb (f b.var) s ≡ false = ne_eqb (f b.var) s (λ k. n (sym e ∙ k)) in rw (q, p) (omega arith)
      | inr e ↦ rw (ne_eqb (f b.var) r e) (elim (cases_eq (f b.var) s) [
        | inl k ↦ let p : eqb (f b.var) s ≡ true = grind (arith, nat_tests) in rw p (omega arith)
        | inr k ↦ rw (ne_eqb (f b.var) s k) (omega arith)
      ])
    ]

-- g numbers the variables as f does, but for one number
abbrev pub Merges : (ℕ → ℕ) → (ℕ → ℕ) → ℕ → ℕ → Prefix → Type 0
Merges f g from to P = (v : ℕ) → is_bound P v ≡ true → g v ≡ cond (eqb (f v) from) to (f v)

module _ (f g : ℕ → ℕ) (from to : ℕ) (apart : from ≢ to) where
  merged-from : (P : Prefix) → Merges f g from to P → in_block g from P ≡ 0
  merged-from P m = in_block-none g from P (λ v i e. elim (cases_eq (f v) from) [
    | inl k ↦ let q : eqb (f v) from ≡ true = grind (arith, nat_tests) in apart (sym (sym (m v i ∙ ap (λ (s : Bool). cond s to (f v)) q) ∙ e))
    | inr k ↦ k (sym (m v i ∙ ap (λ (s : Bool). cond s to (f v)) (ne_eqb (f v) from k)) ∙ e)
  ])

  merged-to : (P : Prefix) → Merges f g from to P → in_block g to P ≡ in_block f to P + in_block f from P
  merged-to [] m = refl
  merged-to (b ∷ P) m =
      let i : in_block g to P ≡ in_block f to P + in_block f from P = merged-to P (λ v k. m v (is_bound-later b P v k)) in
      let e = m b.var (is_bound-first b P) in
      elim (cases_eq (f b.var) from) [
        | inl k ↦
            let q : eqb (f b.var) from ≡ true = grind (arith, nat_tests) in
            let h : g b.var ≡ to = e ∙ ap (λ (s : Bool). cond s to (f b.var)) q in
            let p : eqb (g b.var) to ≡ true = grind (arith, nat_tests) in
            let n : eqb (f b.var) to ≡ false = ne_eqb (f b.var) to (λ z. apart (sym k ∙ z)) in
            rw (p, q, n) (omega arith)
        | inr k ↦
            let q : eqb (f b.var) from ≡ false = ne_eqb (f b.var) from k in
            let h : g b.var ≡ f b.var = e ∙ ap (λ (s : Bool). cond s to (f b.var)) q in
            rw (h, q) (go (eqb (f b.var) to) i)
      ]
    where
      go : (s : Bool) → in_block g to P ≡ in_block f to P + in_block f from P → cond s (in_block g to P + 1) (in_block g to P) ≡ cond s (in_block f to P + 1) (in_block f to P) + in_block f from P
      go true i = omega arith
      go false i = i

  merged-other : (r : ℕ) (P : Prefix) → r ≢ from → r ≢ to → Merges f g from to P → in_block g r P ≡ in_block f r P
  merged-other r [] n k m = refl
  merged-other r (b ∷ P) n k m =
      let i : in_block g r P ≡ in_block f r P = merged-other r P n k (λ v j. m v (is_bound-later b P v j)) in
      let e = m b.var (is_bound-first b P) in
      elim (cases_eq (f b.var) from) [
        | inl z ↦
            let q : eqb (f b.var) from ≡ true = grind (arith, nat_tests) in
            let h : g b.var ≡ to = e ∙ ap (λ (s : Bool). cond s to (f b.var)) q in
            let p : eqb (g b.var) r ≡ false = ne_eqb (g b.var) r (λ w. k (sym w ∙ h)) in
            let o : eqb (f b.var) r ≡ false = ne_eqb (f b.var) r (λ w. n (sym w ∙ z)) in
            rw (p, o) i
        | inr z ↦
            let h : g b.var ≡ f b.var = e ∙ ap (λ (s : Bool). cond s to (f b.var)) (ne_eqb (f b.var) from z) in
            rw (h, i) refl
      ]

-- numbers that rise and agree where others do
ranked-map : (f g : ℕ → ℕ) (b : Bound) (P : Prefix) → ((x y : ℕ) → is_bound (b ∷ P) x ≡ true → is_bound (b ∷ P) y ≡ true → (f x ≡ f y → g x ≡ g y) × (f x < f y → g x < g y)) → AreRanked f (Some b) P → AreRanked g (Some b) P
ranked-map f g b [] m h = tt
ranked-map f g b (c ∷ P) m h =
    let k = m b.var c.var (is_bound-first b (c ∷ P)) (is_bound-later b (c ∷ P) c.var (is_bound-first c P)) in (
      elim h.0 [ inl e ↦ inl (e.0, k.0 e.1) | inr e ↦ inr (e.0, k.1 e.1) ],
      ranked-map f g c P (λ x y i j. m x y (is_bound-later b (c ∷ P) x i) (is_bound-later b (c ∷ P) y j)) h.1,
    )

-- a block's last variable went, and these are beside it now
pub record IsMeeting (A : Prefix) (a c : Bound) (C : Prefix) (bindings : List (Option Binding)) (counts : List ℕ) : Type 0 where
  pub last : last_or A None ≡ Some a
  pub distinct : Distinct (A ++ c ∷ C)
  pub linked : AreLinked (binding_at bindings) None (A ++ c ∷ C) None
  pub only : (v : ℕ) (s : Binding) → binding_at bindings v ≡ Some s → is_bound (A ++ c ∷ C) v ≡ true
  pub outer : AreRanked (rank_at bindings) None A
  pub inner : AreRanked (rank_at bindings) (Some c) C
  pub less : rank_at bindings a.var < rank_at bindings c.var
  pub same : same_quant a.quant c.quant ≡ true
  pub counted : (r : ℕ) → get_or counts r 0 ≡ in_block (rank_at bindings) r (A ++ c ∷ C)

module _ (A : Prefix) (a c : Bound) (C : Prefix) (bindings : List (Option Binding)) (counts : List ℕ) (m : IsMeeting A a c C bindings counts) where
  rank : ℕ → ℕ
  rank v = rank_at bindings v

  last-in : (B : Prefix) → last_or B None ≡ Some a → is_bound B a.var ≡ true
  last-in [] e = cc
  last-in (b ∷ B) e = let r = last-bound b B None in let q : r.0 ≡ a = same r.0 a (sym r.1 ∙ e) in subst (λ (x : Bound). is_bound (b ∷ B) x.var ≡ true) q r.2
    where
      same : (x y : Bound) → Some x ≡ Some y → x ≡ y
      same x y e = cc

  pub low : (v : ℕ) → is_bound A v ≡ true → rank_at bindings v ≤ rank_at bindings a.var
  low v i = ranked-last (rank_at bindings) None A a v m.outer m.last i

  pub high : (v : ℕ) → is_bound (c ∷ C) v ≡ true → rank_at bindings c.var ≤ rank_at bindings v
  high v i = elim (bound-cases c C v i) [
    | inl e ↦ let x : rank_at bindings c.var ≡ rank_at bindings v = ap (rank_at bindings) e in omega arith
    | inr k ↦ ranked-rises (rank_at bindings) c C v m.inner k.1
  ]

  a-in : is_bound (A ++ c ∷ C) a.var ≡ true
  a-in = bound-left A (c ∷ C) a.var (last-in A m.last)

  c-in : is_bound (A ++ c ∷ C) c.var ≡ true
  c-in = bound-right A (c ∷ C) c.var (is_bound-first c C)

  counts-in : (v : ℕ) → is_bound (A ++ c ∷ C) v ≡ true → rank_at bindings v < length counts
  counts-in v i = positive-in counts (rank_at bindings v) (subst (λ (n : ℕ). 0 < n) (sym (m.counted (rank_at bindings v))) (some-in_block (rank_at bindings) (A ++ c ∷ C) v i))

  few : (r s : ℕ) → r ≢ s → get_or counts r 0 + get_or counts s 0 ≤ length bindings
  few r s n =
      let x = in_block-two (rank_at bindings) r s (A ++ c ∷ C) n in
      let y = few-below (length bindings) (A ++ c ∷ C) m.distinct (linked-room bindings (A ++ c ∷ C) m.linked) in
      omega (arith, x, y, m.counted r, m.counted s)

  apart : rank_at bindings a.var ≢ rank_at bindings c.var
  apart e = let l = m.less in omega arith

  binding-rank : (v : ℕ) (s : Binding) → binding_at bindings v ≡ Some s → rank_at bindings v ≡ s.rank
  binding-rank v s e = ap rank_in e

  pub movable-low : length bindings < 2 ^ 63 → IsMovable bindings counts (Some a.var) (rank_at bindings a.var) (rank_at bindings c.var) false
  movable-low small = record {
    vars = block_back (rank_at bindings) (rank_at bindings a.var) [] A;
    run = subst (λ (o : Option Bound). IsRun (binding_at bindings) false (var_of o) (block_back (rank_at bindings) (rank_at bindings a.var) [] A)) m.last (run-back (rank_at bindings) (rank_at bindings a.var) (binding_at bindings) [] None A (first_or (c ∷ C) None) tt (λ v i. refl) (distinct-left A (c ∷ C) m.distinct) (linked-left (binding_at bindings) None A (c ∷ C) None m.linked) m.outer low (inl refl));
    size = size;
    all_there = λ v s e. all v s e (m.only v s e);
    from_in = counts-in a.var a-in;
    to_in = counts-in c.var c-in;
    apart = apart;
    few = (let x = few (rank_at bindings a.var) (rank_at bindings c.var) apart in omega (arith, x, small));
  }
    where
      size : length (block_back (rank_at bindings) (rank_at bindings a.var) [] A) ≡ get_or counts (rank_at bindings a.var) 0
      size =
          let x = back-size (rank_at bindings) (rank_at bindings a.var) [] A in
          let y = in_block-append (rank_at bindings) (rank_at bindings a.var) A (c ∷ C) in
          let z = in_block-none (rank_at bindings) (rank_at bindings a.var) (c ∷ C) (λ v i e. let h = high v i in let l = m.less in absurd (omega arith)) in
          omega (arith, x, y, z, m.counted (rank_at bindings a.var))

      all : (v : ℕ) (s : Binding) → binding_at bindings v ≡ Some s → is_bound (A ++ c ∷ C) v ≡ true → is_among (block_back (rank_at bindings) (rank_at bindings a.var) [] A) v ≡ eqb s.rank (rank_at bindings a.var)
      all v s e i = elim (cases_eq s.rank (rank_at bindings a.var)) [
        | inl k ↦
            let q : eqb s.rank (rank_at bindings a.var) ≡ true = grind (arith, nat_tests) in
            rw q (elim (bound-either A (c ∷ C) v i) [
              | inl j ↦ back-among (rank_at bindings) (rank_at bindings a.var) [] A v j (binding-rank v s e ∙ k)
              | inr j ↦ let h = high v j in let l = m.less in let r = binding-rank v s e in absurd (omega (arith, h, l, r, k))
            ])
        | inr k ↦ rw (ne_eqb s.rank (rank_at bindings a.var) k) (go (is_among (block_back (rank_at bindings) (rank_at bindings a.var) [] A) v) refl k)
      ]
        where
          go : (t : Bool) → is_among (block_back (rank_at bindings) (rank_at bindings a.var) [] A) v ≡ t → s.rank ≢ rank_at bindings a.var → t ≡ false
          go true q n = elim (among-back (rank_at bindings) (rank_at bindings a.var) [] A v q) [
            | inl j ↦ absurd (true≢false (sym j))
            | inr j ↦ absurd (n (sym (binding-rank v s e) ∙ j.1))
          ]
          go false q n = refl

  pub movable-high : length bindings < 2 ^ 63 → IsMovable bindings counts (Some c.var) (rank_at bindings c.var) (rank_at bindings a.var) true
  movable-high small = record {
    vars = block_vars (rank_at bindings) (rank_at bindings c.var) (c ∷ C);
    run = run-forward (rank_at bindings) (rank_at bindings c.var) (binding_at bindings) (last_or A None) c C (linked-right (binding_at bindings) None A (c ∷ C) None m.linked) (distinct-right A (c ∷ C) m.distinct) m.inner refl;
    size = size;
    all_there = λ v s e. all v s e (m.only v s e);
    from_in = counts-in c.var c-in;
    to_in = counts-in a.var a-in;
    apart = λ e. apart (sym e);
    few = (let x = few (rank_at bindings c.var) (rank_at bindings a.var) (λ e. apart (sym e)) in omega (arith, x, small));
  }
    where
      size : length (block_vars (rank_at bindings) (rank_at bindings c.var) (c ∷ C)) ≡ get_or counts (rank_at bindings c.var) 0
      size =
          let x = block-size (rank_at bindings) (rank_at bindings c.var) (c ∷ C) in
          let y = in_block-append (rank_at bindings) (rank_at bindings c.var) A (c ∷ C) in
          let z = in_block-none (rank_at bindings) (rank_at bindings c.var) A (λ v i e. let h = low v i in let l = m.less in absurd (omega arith)) in
          omega (arith, x, y, z, m.counted (rank_at bindings c.var))

      all : (v : ℕ) (s : Binding) → binding_at bindings v ≡ Some s → is_bound (A ++ c ∷ C) v ≡ true → is_among (block_vars (rank_at bindings) (rank_at bindings c.var) (c ∷ C)) v ≡ eqb s.rank (rank_at bindings c.var)
      all v s e i = elim (cases_eq s.rank (rank_at bindings c.var)) [
        | inl k ↦
            let q : eqb s.rank (rank_at bindings c.var) ≡ true = grind (arith, nat_tests) in
            rw q (elim (bound-either A (c ∷ C) v i) [
              | inl j ↦ let h = low v j in let l = m.less in let r = binding-rank v s e in absurd (omega (arith, h, l, r, k))
              | inr j ↦ block-among (rank_at bindings) (rank_at bindings c.var) (c ∷ C) v j (binding-rank v s e ∙ k)
            ])
        | inr k ↦ rw (ne_eqb s.rank (rank_at bindings c.var) k) (go (is_among (block_vars (rank_at bindings) (rank_at bindings c.var) (c ∷ C)) v) refl k)
      ]
        where
          go : (t : Bool) → is_among (block_vars (rank_at bindings) (rank_at bindings c.var) (c ∷ C)) v ≡ t → s.rank ≢ rank_at bindings c.var → t ≡ false
          go true q n = absurd (n (sym (binding-rank v s e) ∙ (among-block (rank_at bindings) (rank_at bindings c.var) (c ∷ C) v q).1))
          go false q n = refl

  renumbered-binding : (f g : ℕ → Option Binding) (from to : ℕ) (o : Option Bound) (b : Bound) (n : Option ℕ) → ((v : ℕ) → g v ≡ renumbered from to (f v)) → IsBindingOf f o b n → IsBindingOf g o b n
  renumbered-binding f g from to o b n e s = go (eqb s.binding.rank from) (e b.var ∙ ap (renumbered from to) s.there)
    where
      go : (t : Bool) → g b.var ≡ cond t (with_rank to (Some s.binding)) (Some s.binding) → IsBindingOf g o b n
      go true k = record { binding = record { rank = to; quant = s.binding.quant; before = s.binding.before; after = s.binding.after }; there = k; quant = s.quant; before = s.before; after = s.after }
      go false k = record { binding = s.binding; there = k; quant = s.quant; before = s.before; after = s.after }

  renumbered-linked : (f g : ℕ → Option Binding) (from to : ℕ) (o : Option Bound) (P : Prefix) (n : Option ℕ) → ((v : ℕ) → g v ≡ renumbered from to (f v)) → AreLinked f o P n → AreLinked g o P n
  renumbered-linked f g from to o [] n e l = tt
  renumbered-linked f g from to o (b ∷ P) n e l = (renumbered-binding f g from to o b (first_or P n) e l.0, renumbered-linked f g from to (Some b) P n e l.1)

  renumbered-some : (from to : ℕ) (x : Option Binding) (s : Binding) → renumbered from to x ≡ Some s → (t : Binding) × (x ≡ Some t)
  renumbered-some from to None s e = go (eqb 0 from) e
    where
      go : (t : Bool) → cond t None None ≡ Some s → (t : Binding) × (None ≡ Some t)
      go true e = cc
      go false e = cc
  renumbered-some from to (Some t) s e = (t, refl)

  renumbered-rank : (from to : ℕ) (s : Binding) → rank_in (renumbered from to (Some s)) ≡ cond (eqb s.rank from) to s.rank
  renumbered-rank from to s = go (eqb s.rank from)
    where
      go : (t : Bool) → rank_in (cond t (with_rank to (Some s)) (Some s)) ≡ cond t to s.rank
      go true = refl
      go false = refl

  -- one block takes the other one's number
  pub moved : (from to : ℕ) (bindings' : List (Option Binding)) (counts' : List ℕ) → ((from ≡ rank_at bindings a.var) × (to ≡ rank_at bindings c.var)) ⊎ ((from ≡ rank_at bindings c.var) × (to ≡ rank_at bindings a.var)) → IsMoved bindings counts from to bindings' counts' → AreScoped (A ++ c ∷ C) (first_or (A ++ c ∷ C) None) bindings' counts'
  moved from to bindings' counts' way k = record {
    distinct = m.distinct;
    first_is = refl;
    linked = renumbered-linked (binding_at bindings) (binding_at bindings') from to None (A ++ c ∷ C) None k.bindings_are m.linked;
    only = λ v s e. let r = renumbered-some from to (binding_at bindings v) s (sym (k.bindings_are v) ∙ e) in m.only v r.0 r.1;
    ranked = ranked-join (rank_at bindings') None A (c ∷ C) (outer A m.outer (λ v i. i)) (joint (last_or A None) m.last, inner);
    counted = counted;
  }
    where
      two : from ≢ to
      two e = elim way [ inl w ↦ apart (sym w.0 ∙ e ∙ w.1) | inr w ↦ apart (sym w.1 ∙ sym e ∙ w.0) ]

      merges : Merges (rank_at bindings) (rank_at bindings') from to (A ++ c ∷ C)
      merges v i = let r = binding-in (binding_at bindings) None (A ++ c ∷ C) None m.linked v i in let n : rank_at bindings v ≡ r.0.rank = ap rank_in r.1 in ap rank_in (k.bindings_are v ∙ ap (renumbered from to) r.1) ∙ renumbered-rank from to r.0 ∙ ap (λ (x : ℕ). cond (eqb x from) to x) (sym n)

      -- the new number of a variable
      now : (v : ℕ) → is_bound (A ++ c ∷ C) v ≡ true → ((rank_at bindings v ≡ from) × (rank_at bindings' v ≡ to)) ⊎ ((rank_at bindings v ≢ from) × (rank_at bindings' v ≡ rank_at bindings v))
      now v i = elim (cases_eq (rank_at bindings v) from) [
        | inl e ↦ let q : eqb (rank_at bindings v) from ≡ true = grind (arith, nat_tests) in inl (e, merges v i ∙ ap (λ (t : Bool). cond t to (rank_at bindings v)) q)
        | inr e ↦ inr (e, merges v i ∙ ap (λ (t : Bool). cond t to (rank_at bindings v)) (ne_eqb (rank_at bindings v) from e))
      ]

      rises : (x y : ℕ) → is_bound (A ++ c ∷ C) x ≡ true → is_bound (A ++ c ∷ C) y ≡ true → ((rank_at bindings x ≤ rank_at bindings a.var) × (rank_at bindings y ≤ rank_at bindings a.var)) ⊎ ((rank_at bindings c.var ≤ rank_at bindings x) × (rank_at bindings c.var ≤ rank_at bindings y)) → (rank_at bindings x ≡ rank_at bindings y → rank_at bindings' x ≡ rank_at bindings' y) × (rank_at bindings x < rank_at bindings y → rank_at bindings' x < rank_at bindings' y)
      rises x y i j side = (equal (now x i) (now y j), less (now x i) (now y j) side way)
        where
          equal : ((rank_at bindings x ≡ from) × (rank_at bindings' x ≡ to)) ⊎ ((rank_at bindings x ≢ from) × (rank_at bindings' x ≡ rank_at bindings x)) → ((rank_at bindings y ≡ from) × (rank_at bindings' y ≡ to)) ⊎ ((rank_at bindings y ≢ from) × (rank_at bindings' y ≡ rank_at bindings y)) → rank_at bindings x ≡ rank_at bindings y → rank_at bindings' x ≡ rank_at bindings' y
          equal (inl p) (inl q) e = p.1 ∙ sym q.1
          equal (inl p) (inr q) e = absurd (q.0 (sym e ∙ p.0))
          equal (inr p) (inl q) e = absurd (p.0 (e ∙ q.0))
          equal (inr p) (inr q) e = p.1 ∙ e ∙ sym q.1

          less : ((rank_at bindings x ≡ from) × (rank_at bindings' x ≡ to)) ⊎ ((rank_at bindings x ≢ from) × (rank_at bindings' x ≡ rank_at bindings x)) → ((rank_at bindings y ≡ from) × (rank_at bindings' y ≡ to)) ⊎ ((rank_at bindings y ≢ from) × (rank_at bindings' y ≡ rank_at bindings y)) → ((rank_at bindings x ≤ rank_at bindings a.var) × (rank_at bindings y ≤ rank_at bindings a.var)) ⊎ ((rank_at bindings c.var ≤ rank_at bindings x) × (rank_at bindings c.var ≤ rank_at bindings y)) → ((from ≡ rank_at bindings a.var) × (to ≡ rank_at bindings c.var)) ⊎ ((from ≡ rank_at bindings c.var) × (to ≡ rank_at bindings a.var)) → rank_at bindings x < rank_at bindings y → rank_at bindings' x < rank_at bindings' y
          less (inl p) (inl q) s w e = absurd (omega (arith, p.0, q.0, e))
          less (inr p) (inr q) s w e = omega (arith, p.1, q.1, e)
          less (inl p) (inr q) (inl s) (inl w) e = absurd (omega (arith, p.0, s.1, w.0, e))
          less (inl p) (inr q) (inl s) (inr w) e = absurd (omega (arith, p.0, s.0, w.0, m.less))
          less (inl p) (inr q) (inr s) (inl w) e = absurd (omega (arith, p.0, s.0, w.0, m.less))
          less (inl p) (inr q) (inr s) (inr w) e = omega (arith, p.0, p.1, q.1, w.0, w.1, e, m.less)
          less (inr p) (inl q) (inl s) (inl w) e = omega (arith, q.0, q.1, p.1, w.0, w.1, e, m.less)
          less (inr p) (inl q) (inl s) (inr w) e = absurd (omega (arith, q.0, s.1, w.0, m.less))
          less (inr p) (inl q) (inr s) (inl w) e = absurd (omega (arith, q.0, s.1, w.0, m.less))
          less (inr p) (inl q) (inr s) (inr w) e = absurd (omega (arith, q.0, s.0, w.0, e))

      outer : (B : Prefix) → AreRanked (rank_at bindings) None B → ((v : ℕ) → is_bound B v ≡ true → is_bound A v ≡ true) → AreRanked (rank_at bindings') None B
      outer [] h i = tt
      outer (b ∷ B) h i = (tt, ranked-map (rank_at bindings) (rank_at bindings') b B (λ x y j l. rises x y (bound-left A (c ∷ C) x (i x j)) (bound-left A (c ∷ C) y (i y l)) (inl (low x (i x j), low y (i y l)))) h.1)

      inner : AreRanked (rank_at bindings') (Some c) C
      inner = ranked-map (rank_at bindings) (rank_at bindings') c C (λ x y j l. rises x y (bound-right A (c ∷ C) x j) (bound-right A (c ∷ C) y l) (inr (high x j, high y l))) m.inner

      meet : rank_at bindings' a.var ≡ rank_at bindings' c.var
      meet = elim way [
        | inl w ↦ elim (now a.var a-in) [
          | inl p ↦ elim (now c.var c-in) [
            | inl q ↦ p.1 ∙ sym q.1
            | inr q ↦ p.1 ∙ w.1 ∙ sym q.1
          ]
          | inr p ↦ absurd (p.0 (sym w.0))
        ]
        | inr w ↦ elim (now c.var c-in) [
          | inl q ↦ elim (now a.var a-in) [
            | inl p ↦ p.1 ∙ sym q.1
            | inr p ↦ p.1 ∙ sym w.1 ∙ sym q.1
          ]
          | inr q ↦ absurd (q.0 (sym w.0))
        ]
      ]

      joint : (o : Option Bound) → o ≡ Some a → Follows (rank_at bindings') o c
      joint None e = cc
      joint (Some b) e = let q : b ≡ a = alike b a e in subst (λ (x : Bound). IsNext (rank_at bindings') x c) (sym q) (inl (m.same, meet))
        where
          alike : (x y : Bound) → Some x ≡ Some y → x ≡ y
          alike x y e = cc

      from_in : from < length counts
      from_in = elim way [ inl w ↦ subst (λ (n : ℕ). n < length counts) (sym w.0) (counts-in a.var a-in) | inr w ↦ subst (λ (n : ℕ). n < length counts) (sym w.0) (counts-in c.var c-in) ]

      to_in : to < length counts
      to_in = elim way [ inl w ↦ subst (λ (n : ℕ). n < length counts) (sym w.1) (counts-in c.var c-in) | inr w ↦ subst (λ (n : ℕ). n < length counts) (sym w.1) (counts-in a.var a-in) ]

      counted : (r : ℕ) → get_or counts' r 0 ≡ in_block (rank_at bindings') r (A ++ c ∷ C)
      counted r = ap (λ (xs : List ℕ). get_or xs r 0) k.counts_are ∙ elim (cases_eq r to) [
        | inl e ↦ rw e (get_or-set_same (set counts from 0) to (get_or counts to 0 + get_or counts from 0) 0 (subst (λ (n : ℕ). to < n) (sym (length-set counts from 0)) to_in) ∙ (let x = merged-to (rank_at bindings) (rank_at bindings') from to two (A ++ c ∷ C) merges in omega (arith, x, m.counted to, m.counted from)))
        | inr e ↦ get_or-set_other (set counts from 0) to r (get_or counts to 0 + get_or counts from 0) 0 e ∙ elim (cases_eq r from) [
          | inl q ↦ rw q (get_or-set_same counts from 0 0 from_in ∙ sym (merged-from (rank_at bindings) (rank_at bindings') from to two (A ++ c ∷ C) merges))
          | inr q ↦ get_or-set_other counts from r 0 0 q ∙ m.counted r ∙ sym (merged-other (rank_at bindings) (rank_at bindings') from to two r (A ++ c ∷ C) q e merges)
        ]
      ]
