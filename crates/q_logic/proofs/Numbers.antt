-- Cases of numbers.
use Rattle.std.proofs.Common.{◌≡◌, ◌⊎◌, ℕ, zero, suc, ◌+◌, ◌<◌, ◌≤◌, inl, inr, refl, arith}

pub before_or_at : (n i : ℕ) → n < i + 1 → (n < i) ⊎ (n ≡ i)
before_or_at n i h = grind arith

pub none_or_some : (n : ℕ) → (n ≡ 0) ⊎ (1 ≤ n)
none_or_some zero = inl refl
none_or_some (suc n) = inr (omega arith)
