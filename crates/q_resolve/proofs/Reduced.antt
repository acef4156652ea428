-- What the tests of a reduction say of it.
use Rattle.std.proofs.Common.{◌≡◌, ℕ, suc, ◌<◌, ◌≤◌, Bool, true, false, cond, not, eqb, nat_lt, List, [], ◌∷◌, ◌++◌, ◌⊎◌, inl, inr, length, arith, refl, sym, subst}
use Rattle.q_logic.specs.Prelude.{Literal, Prefix, IsIn, is_bound, is_existential, has}
use Rattle.q_logic.specs.Prefixes.{place}
use Rattle.q_logic.proofs.Common.{has-IsIn, IsIn-has, IsIn-append_left, IsIn-append_right}
use Rattle.q_derive.specs.Traces.{IsKept, IsShed, AreBound}
use Rattle.q_derive.specs.Testing.{every, some}
use Rattle.q_derive.proofs.Testing.{Decides, both, either, neither, every-decides, some-decides, has-decides, below-decides}
use Rattle.q_resolve.specs.Tests.{is_gone, is_away, is_front, lesser, outermost, outermost_from}
use Rattle.q_resolve.specs.Reduced.{front_of, back_of}

pub place-within : (P : Prefix) (x : ℕ) → is_bound P x ≡ true → place P x < length P
place-within [] x h = absurd (cc)
place-within (b ∷ P) x h = go (eqb b.var x) h (place-within P x)
  where
    go : (t : Bool) → cond t true (is_bound P x) ≡ true → (is_bound P x ≡ true → place P x < length P) → cond t 0 (suc (place P x)) < suc (length P)
    go true h ih = omega arith
    go false h ih = let z = ih h in omega arith

-- tests of one literal
gone-decides : (P : Prefix) (T : List Literal) (k : Literal) → Decides (is_gone P T k) ((IsIn k T → ⊥) × (is_existential P k.var ≡ false))
gone-decides P T k = both (not (has k T)) (not (is_existential P k.var)) (IsIn k T → ⊥) (is_existential P k.var ≡ false)
    (neither (has k T) (IsIn k T) (has-decides k T)) (other (is_existential P k.var))
  where
    other : (b : Bool) → Decides (not b) (b ≡ false)
    other true = (λ h. absurd (cc), λ h. absurd (cc))
    other false = (λ h. refl, λ h. refl)

pub away-decides : (P : Prefix) (T : List Literal) (k : Literal) → Decides (is_away P T k) ((IsIn k T → ⊥) × (is_existential P k.var ≡ true))
away-decides P T k = both (not (has k T)) (is_existential P k.var) (IsIn k T → ⊥) (is_existential P k.var ≡ true)
    (neither (has k T) (IsIn k T) (has-decides k T)) (λ h. h, λ h. h)

front-decides : (P : Prefix) (at : ℕ) (k : Literal) → Decides (is_front P at k) ((is_existential P k.var ≡ true) ⊎ (place P k.var < at))
front-decides P at k = either (is_existential P k.var) (nat_lt (place P k.var) at) (is_existential P k.var ≡ true) (place P k.var < at)
    (λ h. h, λ h. h) (below-decides (place P k.var) at)

pub true-or : (b : Bool) → (b ≡ true) ⊎ (b ≡ false)
true-or true = inl refl
true-or false = inr refl

-- of all literals
pub lost-is : (P : Prefix) (R T : List Literal) → some (λ (k : Literal). is_gone P T k) R ≡ true → IsKept P R T → ⊥
lost-is P R T e h =
    let r = (some-decides (λ (k : Literal). is_gone P T k) (λ (k : Literal). (IsIn k T → ⊥) × (is_existential P k.var ≡ false)) R (gone-decides P T)).0 e in
    r.2.0 (h r.0 r.1 r.2.1)

pub kept-is : (P : Prefix) (R T : List Literal) → some (λ (k : Literal). is_gone P T k) R ≡ false → IsKept P R T
kept-is P R T e k m o = go (has k T) refl
  where
    go : (b : Bool) → has k T ≡ b → IsIn k T
    go true q = has-IsIn k T q
    go false q = absurd (let z : some (λ (j : Literal). is_gone P T j) R ≡ true =
        (some-decides (λ (j : Literal). is_gone P T j) (λ (j : Literal). (IsIn j T → ⊥) × (is_existential P j.var ≡ false)) R (gone-decides P T)).1
        (k, m, (λ i. let y : has k T ≡ true = IsIn-has k T i in cc, o)) in cc)

-- the outermost literal that is taken away
least-below : (P : Prefix) (T R : List Literal) (n : ℕ) → outermost_from P T R n ≤ n
least-below P T [] n = omega arith
least-below P T (k ∷ R) n = go (is_away P T k) (nat_lt (place P k.var) n) refl (least-below P T R)
  where
    go : (b c : Bool) → nat_lt (place P k.var) n ≡ c → ((m : ℕ) → outermost_from P T R m ≤ m) →
        outermost_from P T R (cond b (cond c (place P k.var) n) n) ≤ n
    go true true e ih = let i = ih (place P k.var) in let l : place P k.var < n = (below-decides (place P k.var) n).0 e in omega arith
    go true false e ih = ih n
    go false c e ih = ih n

pub least-taken : (P : Prefix) (T R : List Literal) (n : ℕ) (g : Literal) → IsIn g R → is_away P T g ≡ true → outermost_from P T R n ≤ place P g.var
least-taken P T [] n g m a = absurd m
least-taken P T (k ∷ R) n g (inl e) a =
    let b : is_away P T k ≡ true = subst (λ (x : Literal). is_away P T x ≡ true) e a in
    subst (λ (x : Literal). outermost_from P T R (cond (is_away P T k) (lesser (place P k.var) n) n) ≤ place P x.var) (sym e)
    (subst (λ (t : Bool). outermost_from P T R (cond t (lesser (place P k.var) n) n) ≤ place P k.var) (sym b) (go (nat_lt (place P k.var) n) refl))
  where
    go : (c : Bool) → nat_lt (place P k.var) n ≡ c → outermost_from P T R (cond c (place P k.var) n) ≤ place P k.var
    go true q = least-below P T R (place P k.var)
    go false q = let i = least-below P T R n in let l : (place P k.var < n) → ⊥ = λ h. (let z : nat_lt (place P k.var) n ≡ true = (below-decides (place P k.var) n).1 h in cc) in grind arith
least-taken P T (k ∷ R) n g (inr m) a = least-taken P T R (cond (is_away P T k) (lesser (place P k.var) n) n) g m a

abbrev pub Outermost : Prefix → List Literal → List Literal → ℕ → Type 0
Outermost P T R n = (g : Literal) × IsIn g R × (is_away P T g ≡ true) × (place P g.var ≡ outermost_from P T R n)

pub least-there : (P : Prefix) (T R : List Literal) (n : ℕ) → outermost_from P T R n < n → Outermost P T R n
least-there P T [] n h = absurd (omega arith)
least-there P T (k ∷ R) n h = go (is_away P T k) refl (nat_lt (place P k.var) n) refl h (least-there P T R)
  where
    Found : ℕ → Type 0
    Found m = (g : Literal) × IsIn g (k ∷ R) × (is_away P T g ≡ true) × (place P g.var ≡ outermost_from P T R m)

    Below : Type 0
    Below = (m : ℕ) → outermost_from P T R m < m → Outermost P T R m

    later : Below → (m : ℕ) → outermost_from P T R m < m → Found m
    later ih m l = let r = ih m l in (r.0, inr r.1, r.2, r.3)

    here : Below → is_away P T k ≡ true → (l : Bool) → nat_lt (outermost_from P T R (place P k.var)) (place P k.var) ≡ l → Found (place P k.var)
    here ih a true e = later ih (place P k.var) ((below-decides (outermost_from P T R (place P k.var)) (place P k.var)).0 e)
    here ih a false e = (
      k,
      inl refl,
      a,
      let i = least-below P T R (place P k.var) in
          let l : (outermost_from P T R (place P k.var) < place P k.var) → ⊥ = λ q. (let z : nat_lt (outermost_from P T R (place P k.var)) (place P k.var) ≡ true = (below-decides (outermost_from P T R (place P k.var)) (place P k.var)).1 q in cc) in grind arith,
    )

    go : (b : Bool) → is_away P T k ≡ b → (c : Bool) → nat_lt (place P k.var) n ≡ c → outermost_from P T R (cond b (cond c (place P k.var) n) n) < n →
        Below → Found (cond b (cond c (place P k.var) n) n)
    go true a true e l ih = here ih a (nat_lt (outermost_from P T R (place P k.var)) (place P k.var)) refl
    go true a false e l ih = later ih n l
    go false a c e l ih = later ih n l

pub away-true : (P : Prefix) (T : List Literal) (g : Literal) → (IsIn g T → ⊥) → is_existential P g.var ≡ true → is_away P T g ≡ true
away-true P T g n o = (away-decides P T g).1 (n, o)

-- all literals of the opponent stand before it
clear-before : (P : Prefix) (R : List Literal) (at : ℕ) → every (λ (k : Literal). is_front P at k) R ≡ true →
    (k : Literal) → IsIn k R → is_existential P k.var ≡ false → place P k.var < at
clear-before P R at e k m o =
    elim ((every-decides (λ (j : Literal). is_front P at j) (λ (j : Literal). (is_existential P j.var ≡ true) ⊎ (place P j.var < at)) R (front-decides P at)).0 e k m) [
      | inl q ↦ absurd (cc)
      | inr l ↦ l
    ]

pub shed-is : (P : Prefix) (R T : List Literal) → every (λ (k : Literal). is_front P (outermost P T R) k) R ≡ true → IsShed P R T
shed-is P R T e g m o = go (has g T) refl
  where
    go : (b : Bool) → has g T ≡ b → IsIn g T ⊎ ((k : Literal) → IsIn k R → is_existential P k.var ≡ false → place P k.var < place P g.var)
    go true q = inl (has-IsIn g T q)
    go false q = inr (λ k i p.
        let l : place P k.var < outermost P T R = clear-before P R (outermost P T R) e k i p in
        let n : outermost P T R ≤ place P g.var = least-taken P T R (length P) g m (away-true P T g (λ y. let z : has g T ≡ true = IsIn-has g T y in cc) o) in
        omega arith)

pub unshed-is : (P : Prefix) (R T : List Literal) → AreBound P R → every (λ (k : Literal). is_front P (outermost P T R) k) R ≡ false → IsShed P R T → ⊥
unshed-is P R T b e h =
    let all : ((k : Literal) → IsIn k R → is_front P (outermost P T R) k ≡ true) → ⊥ =
    λ f. (let z : every (λ (k : Literal). is_front P (outermost P T R) k) R ≡ true = (every-decides (λ (k : Literal). is_front P (outermost P T R) k) (λ (k : Literal). is_front P (outermost P T R) k ≡ true) R (λ k. (λ q. q, λ q. q))).1 f in cc) in
    all each
  where
    each : (k : Literal) → IsIn k R → is_front P (outermost P T R) k ≡ true
    each k m = elim (true-or (is_existential P k.var)) [
      | inl o ↦ (front-decides P (outermost P T R) k).1 (inl o)
      | inr o ↦ (front-decides P (outermost P T R) k).1 (inr (before o (nat_lt (place P k.var) (outermost P T R)) refl))
    ]
      where
        before : is_existential P k.var ≡ false → (c : Bool) → nat_lt (place P k.var) (outermost P T R) ≡ c → place P k.var < outermost P T R
        before o true q = (below-decides (place P k.var) (outermost P T R)).0 q
        before o false q = absurd (
            let l : place P k.var < length P = place-within P k.var (b k m) in
            let u : (place P k.var < outermost P T R) → ⊥ = λ y. (let z : nat_lt (place P k.var) (outermost P T R) ≡ true = (below-decides (place P k.var) (outermost P T R)).1 y in cc) in
            let w : outermost P T R < length P = grind arith in
            let r = least-there P T R (length P) w in
            let a = (away-decides P T r.0).0 r.2 in
            elim (h r.0 r.1 a.1) [ inl i ↦ a.0 i | inr f ↦ u (let y = f k m o in let x = r.3 in omega arith) ])

-- what is before a place, and what is not
pub front-in : (P : Prefix) (at : ℕ) (R : List Literal) (k : Literal) → IsIn k (front_of P at R) → IsIn k R × (place P k.var < at)
front-in P at [] k m = absurd m
front-in P at (j ∷ R) k m = go (nat_lt (place P j.var) at) refl m (front-in P at R k)
  where
    go : (b : Bool) → nat_lt (place P j.var) at ≡ b → IsIn k (cond b (j ∷ front_of P at R) (front_of P at R)) →
        (IsIn k (front_of P at R) → IsIn k R × (place P k.var < at)) → IsIn k (j ∷ R) × (place P k.var < at)
    go true e (inl q) ih = (inl q, subst (λ (x : Literal). place P x.var < at) (sym q) ((below-decides (place P j.var) at).0 e))
    go true e (inr i) ih = let r = ih i in (inr r.0, r.1)
    go false e i ih = let r = ih i in (inr r.0, r.1)

pub back-in : (P : Prefix) (at : ℕ) (R : List Literal) (k : Literal) → IsIn k (back_of P at R) → IsIn k R × (at ≤ place P k.var)
back-in P at [] k m = absurd m
back-in P at (j ∷ R) k m = go (nat_lt (place P j.var) at) refl m (back-in P at R k)
  where
    behind : nat_lt (place P j.var) at ≡ false → at ≤ place P j.var
    behind e = let u : (place P j.var < at) → ⊥ = λ y. (let z : nat_lt (place P j.var) at ≡ true = (below-decides (place P j.var) at).1 y in cc) in grind arith

    go : (b : Bool) → nat_lt (place P j.var) at ≡ b → IsIn k (cond b (back_of P at R) (j ∷ back_of P at R)) →
        (IsIn k (back_of P at R) → IsIn k R × (at ≤ place P k.var)) → IsIn k (j ∷ R) × (at ≤ place P k.var)
    go true e i ih = let r = ih i in (inr r.0, r.1)
    go false e (inl q) ih = (inl q, subst (λ (x : Literal). at ≤ place P x.var) (sym q) (behind e))
    go false e (inr i) ih = let r = ih i in (inr r.0, r.1)

pub front-or-back : (P : Prefix) (at : ℕ) (R : List Literal) (k : Literal) → IsIn k R → IsIn k (front_of P at R ++ back_of P at R)
front-or-back P at R k m = elim (either-in R m) [ inl i ↦ IsIn-append_left k (front_of P at R) (back_of P at R) i | inr i ↦ IsIn-append_right k (front_of P at R) (back_of P at R) i ]
  where
    either-in : (S : List Literal) → IsIn k S → IsIn k (front_of P at S) ⊎ IsIn k (back_of P at S)
    either-in [] m = absurd m
    either-in (j ∷ S) m = go (nat_lt (place P j.var) at) m (either-in S)
      where
        go : (b : Bool) → (k ≡ j) ⊎ IsIn k S → (IsIn k S → IsIn k (front_of P at S) ⊎ IsIn k (back_of P at S)) →
            IsIn k (cond b (j ∷ front_of P at S) (front_of P at S)) ⊎ IsIn k (cond b (back_of P at S) (j ∷ back_of P at S))
        go true (inl e) ih = inl (inl e)
        go true (inr i) ih = elim (ih i) [ inl x ↦ inl (inr x) | inr x ↦ inr x ]
        go false (inl e) ih = inr (inl e)
        go false (inr i) ih = elim (ih i) [ inl x ↦ inl x | inr x ↦ inr (inr x) ]

-- what goes from the outermost place on are literals of the owner
pub back-owned : (P : Prefix) (R T : List Literal) → AreBound P R → IsShed P R T → (k : Literal) → IsIn k (back_of P (outermost P T R) R) → is_existential P k.var ≡ true
back-owned P R T b shed k m = elim (true-or (is_existential P k.var)) [
  | inl o ↦ o
  | inr o ↦ absurd (
      let r = back-in P (outermost P T R) R k m in
      let l : place P k.var < length P = place-within P k.var (b k r.0) in
      let n = r.1 in
      let w : outermost P T R < length P = omega arith in
      let y = least-there P T R (length P) w in
      let a = (away-decides P T y.0).0 y.2 in
      elim (shed y.0 y.1 a.1) [ inl i ↦ a.0 i | inr f ↦ (let z = f k r.0 o in let x = y.3 in omega arith) ])
]

-- what stands before it stays
pub front-stays : (P : Prefix) (R T : List Literal) → IsKept P R T → (k : Literal) → IsIn k (front_of P (outermost P T R) R) → IsIn k T
front-stays P R T kept k m = elim (true-or (is_existential P k.var)) [ inl o ↦ go o (has k T) refl | inr o ↦ kept k (front-in P (outermost P T R) R k m).0 o ]
  where
    go : is_existential P k.var ≡ true → (c : Bool) → has k T ≡ c → IsIn k T
    go o true q = has-IsIn k T q
    go o false q = absurd (
        let r = front-in P (outermost P T R) R k m in
        let n : outermost P T R ≤ place P k.var = least-taken P T R (length P) k r.0 (away-true P T k (λ y. let z : has k T ≡ true = IsIn-has k T y in cc) o) in
        let l = r.1 in omega arith)

-- nothing stands behind the end of the prefix
pub back-none : (P : Prefix) (at : ℕ) (R : List Literal) → length P ≤ at → AreBound P R → back_of P at R ≡ []
back-none P at [] l b = refl
back-none P at (k ∷ R) l b =
    let w : place P k.var < length P = place-within P k.var (b k (inl refl)) in
    let e : nat_lt (place P k.var) at ≡ true = grind arith in
    let r : back_of P at R ≡ [] = back-none P at R l (λ j m. b j (inr m)) in rw (e, r) refl

pub in-front : (P : Prefix) (at : ℕ) (R : List Literal) (k : Literal) → IsIn k R → place P k.var < at → IsIn k (front_of P at R)
in-front P at [] k m l = absurd m
in-front P at (j ∷ R) k (inl q) l =
    let e : nat_lt (place P j.var) at ≡ true = subst (λ (x : Literal). nat_lt (place P x.var) at ≡ true) q ((below-decides (place P k.var) at).1 l) in
    rw e (inl q)
in-front P at (j ∷ R) k (inr m) l = go (nat_lt (place P j.var) at) (in-front P at R k m l)
  where
    go : (b : Bool) → IsIn k (front_of P at R) → IsIn k (cond b (j ∷ front_of P at R) (front_of P at R))
    go true i = inr i
    go false i = i
