-- How many nodes of an order are gates.
use Rattle.std.proofs.Common.{◌≡◌, ◌≢◌, ℕ, zero, suc, ◌+◌, ◌<◌, ◌≤◌, Bool, true, false, cond, eqb, ltb, List, [], ◌∷◌, ◌++◌, length, get_or, arith, refl, sym, ap, ◌∙◌, subst}
use Rattle.q_herbrand.specs.Settled.{gates_among}

pub among-last : (k : ℕ) (xs : List ℕ) (x : ℕ) →
    gates_among k (xs ++ x ∷ []) ≡ gates_among k xs + cond (ltb x k) 0 1
among-last k [] x = go (ltb x k)
  where
    go : (b : Bool) → cond b 0 (0 + 1) ≡ 0 + cond b 0 1
    go true = omega arith
    go false = omega arith
among-last k (y ∷ xs) x = go (ltb y k) (among-last k xs x)
  where
    go : (b : Bool) → gates_among k (xs ++ x ∷ []) ≡ gates_among k xs + cond (ltb x k) 0 1 →
        cond b (gates_among k (xs ++ x ∷ [])) (gates_among k (xs ++ x ∷ []) + 1) ≡ cond b (gates_among k xs)
        (gates_among k xs + 1) + cond (ltb x k) 0 1
    go true h = h
    go false h = omega arith

-- how often a number stands in a list
abbrev times : ℕ → List ℕ → ℕ
times x [] = 0
times x (y ∷ ys) = cond (eqb y x) (times x ys + 1) (times x ys)

-- how many stand from k on and below m
abbrev between : ℕ → ℕ → List ℕ → ℕ
between k m [] = 0
between k m (y ∷ ys) = cond (ltb y k) (between k m ys) (cond (ltb y m) (between k m ys + 1) (between k m ys))

times-none : (x : ℕ) (ys : List ℕ) → ((i : ℕ) → i < length ys → get_or ys i 0 ≢ x) → times x ys ≡ 0
times-none x [] h = refl
times-none x (y ∷ ys) h = go (eqb y x) refl (times-none x ys (λ i lt. h (suc i) (omega arith)))
  where
    go : (b : Bool) → eqb y x ≡ b → times x ys ≡ 0 → cond (eqb y x) (times x ys + 1) (times x ys) ≡ 0
    go true e f = absurd (h 0 (omega arith) (grind arith))
    go false e f = ap (λ (b : Bool). cond b (times x ys + 1) (times x ys)) e ∙ f

apart-rest : (y : ℕ) (ys : List ℕ) → ((i j : ℕ) → i < length (y ∷ ys) → j < length (y ∷ ys) →
    get_or (y ∷ ys) i 0 ≡ get_or (y ∷ ys) j 0 → i ≡ j) →
    (i j : ℕ) → i < length ys → j < length ys → get_or ys i 0 ≡ get_or ys j 0 → i ≡ j
apart-rest y ys d i j il jl e = let s : suc i ≡ suc j = d (suc i) (suc j) (omega arith) (omega arith) e in omega arith

times-once : (x : ℕ) (ys : List ℕ) → ((i j : ℕ) → i < length ys → j < length ys →
    get_or ys i 0 ≡ get_or ys j 0 → i ≡ j) → times x ys ≤ 1
times-once x [] d = omega arith
times-once x (y ∷ ys) d = go (eqb y x) refl (times-once x ys (apart-rest y ys d))
  where
    go : (b : Bool) → eqb y x ≡ b → times x ys ≤ 1 → cond (eqb y x) (times x ys + 1) (times x ys) ≤ 1
    go true e f =
        let none : times x ys ≡ 0 = times-none x ys (λ i lt q.
        let yx : y ≡ x = grind arith in
        absurd (let s : 0 ≡ suc i = d 0 (suc i) (omega arith) (omega arith) (yx ∙ sym q) in omega arith)) in
        subst (λ (b : Bool). cond b (times x ys + 1) (times x ys) ≤ 1) (sym e) (omega arith)
    go false e f = subst (λ (b : Bool). cond b (times x ys + 1) (times x ys) ≤ 1) (sym e) f

between-none : (k : ℕ) (ys : List ℕ) → between k k ys ≡ 0
between-none k [] = refl
between-none k (y ∷ ys) = go (ltb y k) (between-none k ys)
  where
    go : (b : Bool) → between k k ys ≡ 0 → cond b (between k k ys) (cond b (between k k ys + 1) (between k k ys)) ≡ 0
    go true h = h
    go false h = h

between-more : (k m : ℕ) (ys : List ℕ) → between k (m + 1) ys ≤ between k m ys + times m ys
between-more k m [] = omega arith
between-more k m (y ∷ ys) = go (ltb y k) (ltb y m) (ltb y (m + 1)) (eqb y m) refl refl refl (between-more k m ys)
  where
    go : (a b c d : Bool) → ltb y m ≡ b → ltb y (m + 1) ≡ c → eqb y m ≡ d →
        between k (m + 1) ys ≤ between k m ys + times m ys →
        cond a (between k (m + 1) ys) (cond c (between k (m + 1) ys + 1) (between k (m + 1) ys)) ≤ cond a
        (between k m ys) (cond b (between k m ys + 1) (between k m ys)) + cond d (times m ys + 1) (times m ys)
    go true b c true eb ec ed h = omega arith
    go true b c false eb ec ed h = omega arith
    go false true true true eb ec ed h = omega arith
    go false true true false eb ec ed h = omega arith
    go false true false true eb ec ed h = omega arith
    go false true false false eb ec ed h = omega arith
    go false false true true eb ec ed h = omega arith
    go false false true false eb ec ed h = absurd (grind arith)
    go false false false true eb ec ed h = omega arith
    go false false false false eb ec ed h = omega arith

between-most : (k n : ℕ) (ys : List ℕ) → ((i j : ℕ) → i < length ys → j < length ys →
    get_or ys i 0 ≡ get_or ys j 0 → i ≡ j) → between k (k + n) ys ≤ n
between-most k zero ys d =
    let e : k + 0 ≡ k = omega arith in
    let z : between k (k + 0) ys ≡ 0 = ap (λ (m : ℕ). between k m ys) e ∙ between-none k ys in omega arith
between-most k (suc n) ys d =
    let e : k + suc n ≡ k + n + 1 = omega arith in
    let f : between k (k + suc n) ys ≡ between k (k + n + 1) ys = ap (λ (m : ℕ). between k m ys) e in
    let a = between-most k n ys d in
    let b = between-more k (k + n) ys in
    let c = times-once (k + n) ys d in
    omega arith

among-between : (k m : ℕ) (ys : List ℕ) → ((i : ℕ) → i < length ys → get_or ys i 0 < m) →
    gates_among k ys ≡ between k m ys
among-between k m [] h = refl
among-between k m (y ∷ ys) h =
    let lt : y < m = h 0 (omega arith) in
    go (ltb y k) (ltb y m) (grind arith) (among-between k m ys (λ i l. h (suc i) (omega arith)))
  where
    go : (a b : Bool) → b ≡ true → gates_among k ys ≡ between k m ys →
        cond a (gates_among k ys) (gates_among k ys + 1) ≡ cond a (between k m ys)
        (cond b (between k m ys + 1) (between k m ys))
    go true b e f = f
    go false true e f = ap (λ (n : ℕ). n + 1) f
    go false false e f = absurd (cc)

-- Of nodes that stand once each, no more are gates than there are gates.
pub among-most : (k n : ℕ) (ys : List ℕ) → ((i : ℕ) → i < length ys → get_or ys i 0 < k + n) →
    ((i j : ℕ) → i < length ys → j < length ys → get_or ys i 0 ≡ get_or ys j 0 → i ≡ j) → gates_among k ys ≤ n
among-most k n ys h d =
    let e : gates_among k ys ≡ between k (k + n) ys = among-between k (k + n) ys h in
    let b = between-most k n ys d in
    omega arith
