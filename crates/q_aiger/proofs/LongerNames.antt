-- Names, with one more.
use Rattle.std.proofs.Common.{◌≡◌, inl, inr, ℕ, zero, suc, ◌<◌, ◌≤◌, Bool, true, false, not, ◌||◌, cond, eqb, List, [], ◌∷◌, length, get_or, set, replicate, refl, ap, sym, ◌∙◌, arith, subst, nat_lt, nat_le, Result, Ok, Err, OnOk, is_err}
use Rattle.std.proofs.lemmas.Bool.{both_ways, cases_eq}
use Rattle.std.proofs.lemmas.List.{length-set, get_or-set_same, get_or-set_other}
use Rattle.std.specs.List.{list_any}
use Rattle.std.specs.HashSet.{HashSet, contains}
use Rattle.q_logic.proofs.Common.{or-swap, cond-or}
use Rattle.q_logic.proofs.Booleans.{both-left, both-right}
use Rattle.q_aiger.specs.Symbols.{is_used, is_free_name, AreApart}
use Rattle.q_aiger.specs.Naming.{AreUsed}

pub unused-none : (n v : ℕ) → 1 ≤ v → is_used (replicate n 0) v ≡ false
unused-none zero v h = refl
unused-none (suc n) v h = let e : eqb 0 v ≡ false = grind arith in ap (λ b. b || is_used (replicate n 0) v) e ∙ unused-none n v h

pub zero-at : (n i : ℕ) → ◌≡◌ {A = ℕ} (get_or (replicate n 0) i 0) 0
zero-at zero i = refl
zero-at (suc n) zero = refl
zero-at (suc n) (suc i) = zero-at n i

pub apart-none : (n : ℕ) → AreApart (replicate n 0)
apart-none n i j a b h e = absurd (let z = zero-at n i in omega arith)

pub used-more : (names : List ℕ) (i v w : ℕ) → i < length names → get_or names i 0 ≡ 0 → 1 ≤ w → is_used (set names i v) w ≡ eqb v w || is_used names w
used-more [] i v w lt e h = absurd (omega arith)
used-more (n ∷ names) zero v w lt e h =
    let f : eqb n w ≡ false = grind arith in
    ap (λ b. eqb v w || (b || is_used names w)) (sym f)
used-more (n ∷ names) (suc i) v w lt e h = ap (λ b. eqb n w || b) (used-more names i v w (omega arith) e h) ∙ or-swap (eqb n w) (eqb v w) (is_used names w)

pub used-at : (names : List ℕ) (i v : ℕ) → i < length names → get_or names i 0 ≡ v → is_used names v ≡ true
used-at [] i v lt e = absurd (omega arith)
used-at (n ∷ names) zero v lt e = let f : eqb n v ≡ true = grind arith in ap (λ b. b || is_used names v) f
used-at (n ∷ names) (suc i) v lt e = or-true (eqb n v) (is_used names v) (used-at names i v (omega arith) e)
  where
    or-true : (a b : Bool) → b ≡ true → a || b ≡ true
    or-true true b e = refl
    or-true false b e = e

pub apart-more : (names : List ℕ) (i v : ℕ) → AreApart names → is_used names v ≡ false → AreApart (set names i v)
apart-more names i v a u j k bj bk h e =
    let l = length-set names i v in
    let lj : j < length names = omega arith in
    let lk : k < length names = omega arith in
    elim (cases_eq j i) [
      | inl p ↦ elim (cases_eq k i) [
        | inl q ↦ p ∙ sym q
        | inr q ↦
            let here : get_or (set names i v) j 0 ≡ v = subst (λ (x : ℕ). get_or (set names i v) x 0 ≡ v) (sym p) (get_or-set_same names i v 0 (omega arith)) in
            absurd (both_ways (is_used names v) u (used-at names k v lk (sym (get_or-set_other names i k v 0 q) ∙ (sym e ∙ here))))
      ]
      | inr p ↦ elim (cases_eq k i) [
        | inl q ↦
            let here : get_or (set names i v) k 0 ≡ v = subst (λ (x : ℕ). get_or (set names i v) x 0 ≡ v) (sym q) (get_or-set_same names i v 0 (omega arith)) in
            absurd (both_ways (is_used names v) u (used-at names j v lj (sym (get_or-set_other names i j v 0 p) ∙ (e ∙ here))))
        | inr q ↦
            let ej = get_or-set_other names i j v 0 p in
            a j k lj lk (omega arith) (sym ej ∙ (e ∙ get_or-set_other names i k v 0 q))
      ]
    ]

pub on-ok : {X E : Type 0} {P : Type 0} (r : Result X E) → is_err r ≡ false → OnOk r P → P
on-ok (Ok x) e h = h
on-ok (Err x) e h = absurd (both_ways true e refl)

not-is : (a : Bool) → not a ≡ true → a ≡ false
not-is true e = absurd (both_ways false refl e)
not-is false e = refl

pub record IsFree (names : List ℕ) (i v : ℕ) : Type 0 where
  pub there : i < length names
  pub variable : 1 ≤ v
  pub most : v ≤ 16777215
  pub unnamed : get_or names i 0 ≡ 0
  pub unused : is_used names v ≡ false

pub free : (names : List ℕ) (i v : ℕ) → is_free_name names i v ≡ true → IsFree names i v
free names i v e =
    let a : nat_lt i (length names) ≡ true = both-left _ _ e in
    let e1 = both-right (nat_lt i (length names)) _ e in
    let b : nat_le 1 v ≡ true = both-left _ _ e1 in
    let e2 = both-right (nat_le 1 v) _ e1 in
    let m : nat_le v 16777215 ≡ true = both-left _ _ e2 in
    let e3 = both-right (nat_le v 16777215) _ e2 in
    let d : eqb (get_or names i 0) 0 ≡ true = both-left _ _ e3 in
    record {
      there = grind arith;
      variable = grind arith;
      most = grind arith;
      unnamed = grind arith;
      unused = not-is (is_used names v) (both-right (eqb (get_or names i 0) 0) _ e3);
    }

pub names-given : {S : Type 0} (used used2 : HashSet ℕ S) (names : List ℕ) (i v : ℕ) → AreUsed used names → is_free_name names i v ≡ true → ((q : ℕ) → contains eqb used2 q ≡ cond (eqb v q) true (contains eqb used q)) → AreUsed used2 (set names i v)
names-given used used2 names i v a e u =
    let f = free names i v e in
    record {
      known = λ w h. u w ∙ (cond-or (eqb v w) (contains eqb used w) ∙ (ap (λ b. eqb v w || b) (a.known w h) ∙ sym (used-more names i v w f.there f.unnamed h)));
      apart = apart-more names i v a.apart f.unused;
    }

pub names-none : {S : Type 0} (used : HashSet ℕ S) (names : List ℕ) (n : ℕ) → used.keys ≡ [] → names ≡ replicate n 0 → AreUsed used names
names-none used names n k e =
    subst (AreUsed used) (sym e) (record {
      known = λ v h. ap (list_any (eqb v)) k ∙ sym (unused-none n v h);
      apart = apart-none n;
    })
