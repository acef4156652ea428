-- Marked gates, counted.
use Rattle.std.proofs.Common.{◌≡◌, ◌<◌, ◌≤◌, ℕ, zero, suc, ◌+◌, Bool, true, false, cond, List, [], ◌∷◌, length, map, get_or, inl, inr, arith, refl, subst}
use Rattle.q_logic.specs.Prelude.{IsIn, GateNode, gate_at, CertificateView}
use Rattle.q_aig.specs.declared.output.Output.{Output}
use Rattle.q_aig.specs.Prelude.{no_output, output_of, marked_count}
use Rattle.q_certificate.specs.Copied.{IsNeeded, root, left, right, AreMarked, marked_upto}
use Rattle.q_certificate.specs.Cones.{InCones, HasCones}

pub upto-most : (marks : List Bool) (n : ℕ) → marked_upto marks n ≤ n
upto-most marks zero = omega arith
upto-most marks (suc n) = go (get_or marks n false) (upto-most marks n)
  where
    go : (b : Bool) → marked_upto marks n ≤ n → cond b (marked_upto marks n + 1) (marked_upto marks n) ≤ suc n
    go true h = omega arith
    go false h = omega arith

upto-fewer : (ms ns : List Bool) (n : ℕ) → ((g : ℕ) → get_or ms g false ≡ true → get_or ns g false ≡ true) → marked_upto ms n ≤ marked_upto ns n
upto-fewer ms ns zero h = omega arith
upto-fewer ms ns (suc n) h = go (get_or ms n false) (get_or ns n false) (h n) (upto-fewer ms ns n h)
  where
    go : (a b : Bool) → (a ≡ true → b ≡ true) → marked_upto ms n ≤ marked_upto ns n → cond a (marked_upto ms n + 1) (marked_upto ms n) ≤ cond b (marked_upto ns n + 1) (marked_upto ns n)
    go true true k i = omega arith
    go true false k i = let z = k refl in cc
    go false true k i = omega arith
    go false false k i = i

upto-first : (b : Bool) (bs : List Bool) (n : ℕ) → marked_upto (b ∷ bs) (suc n) ≡ marked_upto bs n + cond b 1 0
upto-first true bs zero = omega arith
upto-first false bs zero = omega arith
upto-first b bs (suc n) = go (get_or bs n false) (upto-first b bs n)
  where
    go : (a : Bool) → marked_upto (b ∷ bs) (suc n) ≡ marked_upto bs n + cond b 1 0 →
        cond a (marked_upto (b ∷ bs) (suc n) + 1) (marked_upto (b ∷ bs) (suc n)) ≡ cond a (marked_upto bs n + 1) (marked_upto bs n) + cond b 1 0
    go true i = omega arith
    go false i = i

upto-none : (n : ℕ) → marked_upto [] n ≡ 0
upto-none zero = refl
upto-none (suc n) = upto-none n

upto-all : (bs : List Bool) (n : ℕ) → marked_upto bs n ≤ marked_count bs
upto-all [] n = let e = upto-none n in omega arith
upto-all (b ∷ bs) zero = omega arith
upto-all (b ∷ bs) (suc n) = go b (upto-first b bs n) (upto-all bs n)
  where
    go : (a : Bool) → marked_upto (b ∷ bs) (suc n) ≡ marked_upto bs n + cond a 1 0 → marked_upto bs n ≤ marked_count bs → marked_upto (b ∷ bs) (suc n) ≤ cond a (marked_count bs + 1) (marked_count bs)
    go true e i = omega arith
    go false e i = omega arith

IsIn-at : (os : List Output) (i : ℕ) → i < length os → IsIn (output_of (get_or os i no_output)) (map output_of os)
IsIn-at [] i h = absurd (omega arith)
IsIn-at (o ∷ os) zero h = inl refl
IsIn-at (o ∷ os) (suc i) h = inr (IsIn-at os i (omega arith))

-- what is marked as needed is in a cone
needed-in : (c : CertificateView) (os : List Output) → map output_of os ≡ c.outputs → (x : GateNode) → IsNeeded c.gates os x → InCones c x
needed-in c os e x (root i h) = InCones.output (output_of (get_or os i no_output)) (subst (IsIn (output_of (get_or os i no_output))) e (IsIn-at os i h))
needed-in c os e x (left g y q n) = InCones.left g y q (needed-in c os e (gate_at g) n)
needed-in c os e x (right g y q n) = InCones.right g y q (needed-in c os e (gate_at g) n)

-- whoever marks the cones marks as many gates at least
pub cones-count : (c : CertificateView) (os : List Output) (ms ns : List Bool) (n : ℕ) → map output_of os ≡ c.outputs → AreMarked c.gates os ms → HasCones c ns → marked_upto ms n ≤ marked_count ns
cones-count c os ms ns n e m h =
    let a = upto-fewer ms ns n (λ g t. h g (needed-in c os e (gate_at g) (m.needed g t))) in
    let b = upto-all ns n in
    omega arith
