-- However a file's gates are ordered, there are so many of them.
use Rattle.std.proofs.Common.{◌≡◌, ◌≢◌, ◌⊎◌, ℕ, zero, suc, ◌+◌, ◌<◌, ◌≤◌, Bool, true, false, cond, eqb, List, length, get_or, refl, sym, ap, ◌∙◌, subst, inl, inr, arith, Ok}
use Rattle.std.proofs.lemmas.Bool.Decides.{nat_tests}
use Rattle.std.proofs.lemmas.List.{length-map}
use Rattle.q_logic.specs.Prelude.{CertificateView, Gate}
use Rattle.q_gates.specs.Uses.{IsFullOrder}
use Rattle.q_aiger.specs.Circuits.{parse, AreCircuits, moved_gate, sorted_circuits}

-- a function on numbers below m that is one to one into those below n
pub pigeons : (m n : ℕ) (f : ℕ → ℕ) → ((i : ℕ) → i < m → f i < n) → ((i j : ℕ) → i < m → j < m → f i ≡ f j → i ≡ j) → m ≤ n
pigeons zero n f h k = omega arith
pigeons (suc m) zero f h k = absurd (let z = h 0 (omega arith) in omega arith)
pigeons (suc m) (suc n) f h k =
    let r : m ≤ n = pigeons m n g below once in omega arith
  where
    g : ℕ → ℕ
    g i = cond (eqb (f i) n) (f m) (f i)

    apart : (i : ℕ) → i < m → f i ≢ f m
    apart i l e = let z : i ≡ m = k i m (omega arith) (omega arith) e in omega arith

    below : (i : ℕ) → i < m → g i < n
    below i l = go (eqb (f i) n) refl
      where
        go : (b : Bool) → eqb (f i) n ≡ b → cond b (f m) (f i) < n
        go true e =
            let z : f i ≡ n = grind (arith, nat_tests) in
            let w : f m < suc n = h m (omega arith) in
            let u : f m ≢ n = (λ x. apart i l (z ∙ sym x)) in
            omega arith
        go false e =
            let z : f i ≢ n = grind (arith, nat_tests) in
            let w : f i < suc n = h i (omega arith) in
            omega arith

    once : (i j : ℕ) → i < m → j < m → g i ≡ g j → i ≡ j
    once i j a b e = go (eqb (f i) n) (eqb (f j) n) refl refl e
      where
        go : (s t : Bool) → eqb (f i) n ≡ s → eqb (f j) n ≡ t → cond s (f m) (f i) ≡ cond t (f m) (f j) → i ≡ j
        go true true p q x =
            let z : f i ≡ n = grind (arith, nat_tests) in
            let w : f j ≡ n = grind (arith, nat_tests) in
            k i j (omega arith) (omega arith) (z ∙ sym w)
        go true false p q x = absurd (apart j b (sym x))
        go false true p q x = absurd (apart i a x)
        go false false p q x = k i j (omega arith) (omega arith) x

full-length : (gates : List Gate) (order : List ℕ) → IsFullOrder gates order → length order ≡ length gates
full-length gates order f =
    let few : length order ≤ length gates =
    pigeons (length order) (length gates) (λ i. get_or order i 0) (λ i l. f.sorted.there i l) (λ i j a b e. f.sorted.once i j a b e) in
    let many : length gates ≤ length order =
    pigeons (length gates) (length order) (λ g. place g) place-below place-once in
    omega arith
  where
    cases : (g : ℕ) → (g < length gates) ⊎ (length gates ≤ g)
    cases g = grind arith

    at : (g : ℕ) → (g < length gates) ⊎ (length gates ≤ g) → ℕ
    at g (inl l) = (f.all g l).0
    at g (inr l) = 0

    place : ℕ → ℕ
    place g = at g (cases g)

    at-below : (g : ℕ) (s : (g < length gates) ⊎ (length gates ≤ g)) → g < length gates → at g s < length order
    at-below g (inl l) h = (f.all g l).1
    at-below g (inr l) h = absurd (omega arith)

    place-below : (g : ℕ) → g < length gates → place g < length order
    place-below g h = at-below g (cases g) h

    at-is : (g : ℕ) (s : (g < length gates) ⊎ (length gates ≤ g)) → g < length gates → get_or order (at g s) 0 ≡ g
    at-is g (inl l) h = (f.all g l).2
    at-is g (inr l) h = absurd (omega arith)

    place-once : (g k : ℕ) → g < length gates → k < length gates → place g ≡ place k → g ≡ k
    place-once g k a b e = sym (at-is g (cases g) a) ∙ ap (λ (i : ℕ). get_or order i 0) e ∙ at-is k (cases k) b

sorted-length : (w : CertificateView) (order : List ℕ) → IsFullOrder w.gates order → length (sorted_circuits order w).gates ≡ length w.gates
sorted-length w order f = length-map order _ ∙ full-length w.gates order f

pub one-count : (bytes : List ℕ) (c d : CertificateView) → AreCircuits bytes c → AreCircuits bytes d → length c.gates ≡ length d.gates
one-count bytes c d p q =
    let same : q.written ≡ p.written = one (q.parsed) (p.parsed) in
    ap (λ (x : CertificateView). length x.gates) p.sorted ∙ sorted-length p.written p.order p.full ∙
    sym (ap (λ (x : CertificateView). length x.gates) same) ∙
    sym (ap (λ (x : CertificateView). length x.gates) q.sorted ∙ sorted-length q.written q.order q.full)
  where
    one : parse bytes ≡ Ok q.written → parse bytes ≡ Ok p.written → q.written ≡ p.written
    one a b = cc
