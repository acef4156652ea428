-- Counts that change.
use Rattle.std.proofs.Common.{inl, inr, ◌≡◌, ℕ, zero, suc, ◌+◌, ◌<◌, ◌≤◌, Bool, true, false, eqb, List, [], ◌∷◌, ◌++◌, length, take, drop, set, get_or, refl, sym, ap, ◌∙◌, subst, arith}
use Rattle.std.proofs.lemmas.Bool.{cases_lt, cases_eq}
use Rattle.std.proofs.lemmas.List.{length-set, get_or-set_same, get_or-set_other, take_more, take-append-drop, take_all}
use Rattle.q_logic.specs.declared.verdict.Standing.{Standing}
use Rattle.q_logic.specs.Decisions.{is_true}
use Rattle.q_solve.specs.declared.counts.Count.{Count}
use Rattle.q_solve.specs.Counting.{if_so, is_chosen, number_of, times, count_at, IsMoved, CanMove, CanShift, IsShifted}

pub none-and : (n : ℕ) → 0 + n ≡ n
none-and n = omega arith

-- a count among those of a row
pub number-there : (p : Count → Bool) (row : List Count) (i : ℕ) (d : Count) → i < length row → if_so (p (get_or row i d)) 1 ≤ number_of p row
number-there p [] i d h = absurd (omega arith)
number-there p (c ∷ row) zero d h = omega arith
number-there p (c ∷ row) (suc i) d h = let k = number-there p row i d (omega arith) in omega arith

pub number-set : (p : Count → Bool) (row : List Count) (i : ℕ) (c d : Count) → i < length row →
    number_of p (set row i c) + if_so (p (get_or row i d)) 1 ≡ number_of p row + if_so (p c) 1
number-set p [] i c d h = absurd (omega arith)
number-set p (b ∷ row) zero c d h = omega arith
number-set p (b ∷ row) (suc i) c d h = let k = number-set p row i c d (omega arith) in omega arith

pub so-few : (b : Bool) → if_so b 1 ≤ 1
so-few true = omega arith
so-few false = omega arith

pub number-few : (p : Count → Bool) (row : List Count) → number_of p row ≤ length row
number-few p [] = omega arith
number-few p (c ∷ row) = let k = number-few p row in let s = so-few (p c) in omega arith

pub number-push : (p : Count → Bool) (row : List Count) (c : Count) → number_of p (row ++ c ∷ []) ≡ number_of p row + if_so (p c) 1
number-push p [] c = omega arith
number-push p (b ∷ row) c = let k = number-push p row c in omega arith

pub times-append : (n : ℕ) (xs ys : List ℕ) → times n (xs ++ ys) ≡ times n xs + times n ys
times-append n [] ys = omega arith
times-append n (x ∷ xs) ys = let k = times-append n xs ys in omega arith

-- one number of a row
times-more : (n : ℕ) (row : List ℕ) (k x : ℕ) → k < length row → x ≡ get_or row k x → times n (take (k + 1) row) ≡ times n (take k row) + times n (x ∷ [])
times-more n row k x h e =
    ap (times n) (take_more row k x h ∙ ap (λ (y : ℕ). take k row ++ y ∷ []) (sym e)) ∙ times-append n (take k row) (x ∷ [])

times-part : (n : ℕ) (row : List ℕ) (k x : ℕ) → k < length row → x ≡ get_or row k x → times n (take k row) + times n (x ∷ []) ≤ times n row
times-part n row k x h e =
    let a = times-more n row k x h e in
    let b : times n (take (k + 1) row) + times n (drop (k + 1) row) ≡ times n row = sym (times-append n (take (k + 1) row) (drop (k + 1) row)) ∙ ap (times n) (take-append-drop (k + 1) row) in
    omega arith

times-itself : (n : ℕ) → times n (n ∷ []) ≡ 1
times-itself n = let e : eqb n n ≡ true = grind arith in ap (λ (b : Bool). if_so b 1 + 0) e

times-other : (n m : ℕ) → (m ≡ n → ⊥) → times n (m ∷ []) ≡ 0
times-other n m h = go (eqb m n) refl
  where
    go : (b : Bool) → eqb m n ≡ b → if_so b 1 + 0 ≡ 0
    go true e = absurd (h (grind arith))
    go false e = refl

-- moves one after another
can-step : (a b : Bool) (m r n c d M : ℕ) → if_so a n ≤ c → c < M → c + if_so b n < M + if_so a n → d + if_so a m ≡ c + if_so b m → m + r ≤ n →
    (if_so a r ≤ d) × (d < M) × (d + if_so b r < M + if_so a r)
can-step true true m r n c d M h l f e k = (omega arith, omega arith, omega arith)
can-step true false m r n c d M h l f e k = (omega arith, omega arith, omega arith)
can-step false true m r n c d M h l f e k = (omega arith, omega arith, omega arith)
can-step false false m r n c d M h l f e k = (omega arith, omega arith, omega arith)

moved-step : (a b : Bool) (m n c d e : ℕ) → d + if_so a m ≡ c + if_so b m → e + if_so a n ≡ d + if_so b n → e + if_so a (m + n) ≡ c + if_so b (m + n)
moved-step true true m n c d e h f = omega arith
moved-step true false m n c d e h f = omega arith
moved-step false true m n c d e h f = omega arith
moved-step false false m n c d e h f = omega arith

so-none : (a : Bool) → if_so a 0 ≡ 0
so-none true = refl
so-none false = refl

moved-none : (c : Count) (from to : Standing) → IsMoved c c 0 from to
moved-none c from to =
    let a = so-none (is_true from) in
    let b = so-none (is_true to) in
    let d = so-none (is_chosen from) in
    let e = so-none (is_chosen to) in
    record { trues = omega arith; opens = omega arith; both = refl }

can-moved : (c d : Count) (m r n : ℕ) (from to : Standing) → CanMove c n from to → IsMoved c d m from to → m + r ≤ n → CanMove d r from to
can-moved c d m r n from to h e k =
    let t = can-step (is_true from) (is_true to) m r n c.trues d.trues 18446744073709551616 h.trues h.trues_small h.trues_fit e.trues k in
    let o = can-step (is_chosen from) (is_chosen to) m r n c.opens d.opens 18446744073709551616 h.opens h.opens_small h.opens_fit e.opens k in
    record { trues = t.0; opens = o.0; trues_small = t.1; opens_small = o.1; trues_fit = t.2; opens_fit = o.2 }

moved-moved : (c d e : Count) (m n : ℕ) (from to : Standing) → IsMoved c d m from to → IsMoved d e n from to → IsMoved c e (m + n) from to
moved-moved c d e m n from to h f = record {
  trues = moved-step (is_true from) (is_true to) m n c.trues d.trues e.trues h.trues f.trues;
  opens = moved-step (is_chosen from) (is_chosen to) m n c.opens d.opens e.opens h.opens f.opens;
  both = f.both ∙ h.both;
}

-- the count at one place
pub can-one : (row : List Count) (at' : ℕ) (from to : Standing) → CanShift row (at' ∷ []) from to → CanMove (count_at row at') 1 from to
can-one row at' from to h = subst (λ (n : ℕ). CanMove (count_at row at') n from to) (times-itself at') (h.each at')

pub shift-one : (row : List Count) (at' : ℕ) (c : Count) (from to : Standing) → at' < length row → IsMoved (count_at row at') c 1 from to →
    IsShifted row (set row at' c) (at' ∷ []) from to
shift-one row at' c from to h m = record {
  as_many = length-set row at' c;
  each = λ i. elim (cases_eq i at') [
    | inl e ↦
        subst (λ (j : ℕ). IsMoved (count_at row j) (count_at (set row at' c) j) (times j (at' ∷ [])) from to) (sym e)
        (subst (λ (n : ℕ). IsMoved (count_at row at') (count_at (set row at' c) at') n from to) (sym (times-itself at'))
        (subst (λ (d : Count). IsMoved (count_at row at') d 1 from to) (sym (get_or-set_same row at' c none h)) m))
    | inr n ↦
        subst (λ (k : ℕ). IsMoved (count_at row i) (count_at (set row at' c) i) k from to) (sym (times-other i at' (λ q. n (sym q))))
        (subst (λ (d : Count). IsMoved (count_at row i) d 0 from to) (sym (get_or-set_other row at' i c none n)) (moved-none (count_at row i) from to))
  ];
}
  where
    none : Count
    none = record { trues = 0; opens = 0; both = false }

-- the loop
module _ (old now : List Count) (row : List ℕ) (k x : ℕ) (from to : Standing) (h : k < length row) (e : x ≡ get_or row k x) (s : IsShifted old now (take k row) from to) where
  pub next-there : CanShift old row from to → x < length now
  next-there c = elim (cases_lt x (length now)) [
    | inl l ↦ l
    | inr l ↦
        let z : times x row ≡ 0 = c.there x (let a = s.as_many in omega arith) in
        let p = times-part x row k x h e in
        let o = times-itself x in
        absurd (omega arith)
  ]

  pub next-can : CanShift old row from to → CanShift now (x ∷ []) from to
  next-can c = record {
    there = λ i l.
        let z : times i row ≡ 0 = c.there i (let a = s.as_many in omega arith) in
        let p = times-part i row k x h e in
        omega arith;
    each = λ i. can-moved (count_at old i) (count_at now i) (times i (take k row)) (times i (x ∷ [])) (times i row) from to (c.each i) (s.each i) (times-part i row k x h e);
  }

  pub next-shifted : (new : List Count) → IsShifted now new (x ∷ []) from to → IsShifted old new (take (k + 1) row) from to
  next-shifted new t = record {
    as_many = t.as_many ∙ s.as_many;
    each = λ i.
        subst (λ (n : ℕ). IsMoved (count_at old i) (count_at new i) n from to) (sym (times-more i row k x h e))
        (moved-moved (count_at old i) (count_at now i) (count_at new i) (times i (take k row)) (times i (x ∷ [])) from to (s.each i) (t.each i));
  }

pub none-shifted : (row : List Count) (from to : Standing) → IsShifted row row [] from to
none-shifted row from to = record { as_many = refl; each = λ i. moved-none (count_at row i) from to }

pub all-shifted : (old new : List Count) (row : List ℕ) (k : ℕ) (from to : Standing) → length row ≤ k → IsShifted old new (take k row) from to → IsShifted old new row from to
all-shifted old new row k from to h s = subst (λ (xs : List ℕ). IsShifted old new xs from to) (take_all k row h) s
