-- Members of a list that grows at its front or at its end, and lists in which no number stands twice.
use Rattle.std.proofs.Common.{◌≡◌, ◌⊎◌, ℕ, zero, suc, ◌<◌, inl, inr, Contains, List, [], ◌∷◌, ◌++◌, length, refl, sym, subst, arith}
use Rattle.std.proofs.lemmas.List.Elements.{Contains-append_cases}
use Rattle.q_arena.specs.Prelude.{Has, AreApart}
use Rattle.q_arena.proofs.RingPaths.{Misses-not}
use Rattle.q_kernel.specs.Visits.{AreOnce}

pub Contains-none : (q : ℕ) → Contains [] q → ⊥
Contains-none q h = let i = h.1 in absurd (omega arith)

pub Contains-here : (d : ℕ) (xs : List ℕ) → Contains (d ∷ xs) d
Contains-here d xs = (0, omega arith, refl)

pub Contains-further : (d : ℕ) (xs : List ℕ) (q : ℕ) → Contains xs q → Contains (d ∷ xs) q
Contains-further d xs q h = (suc h.0, (let i : h.0 < length xs = h.1 in omega arith), h.2)

one-item : (d q : ℕ) → Contains (d ∷ []) q → q ≡ d
one-item d q (zero, i, e) = sym e
one-item d q (suc k, i, e) = absurd (omega arith)

pub Contains-last : (xs : List ℕ) (d q : ℕ) → Contains (xs ++ d ∷ []) q → Contains xs q ⊎ (q ≡ d)
Contains-last xs d q h = elim (Contains-append_cases xs (d ∷ []) q h) [ inl a ↦ inl a | inr a ↦ inr (one-item d q a) ]

pub Contains-first : (d : ℕ) (xs : List ℕ) (q : ℕ) → Contains (d ∷ xs) q → (q ≡ d) ⊎ Contains xs q
Contains-first d xs q h = elim (Contains-append_cases (d ∷ []) xs q h) [ inl a ↦ inl (one-item d q a) | inr a ↦ inr a ]

pub Contains-Has : (xs : List ℕ) (q : ℕ) → Contains xs q → Has xs q
Contains-Has [] q h = absurd (Contains-none q h)
Contains-Has (x ∷ xs) q h = elim (Contains-first x xs q h) [ inl e ↦ inl e | inr i ↦ inr (Contains-Has xs q i) ]

pub Has-Contains : (xs : List ℕ) (q : ℕ) → Has xs q → Contains xs q
Has-Contains [] q h = absurd h
Has-Contains (x ∷ xs) q (inl e) = subst (λ (y : ℕ). Contains (x ∷ xs) y) (sym e) (Contains-here x xs)
Has-Contains (x ∷ xs) q (inr h) = Contains-further x xs q (Has-Contains xs q h)

pub once-apart : (xs : List ℕ) → AreApart xs → AreOnce xs
once-apart [] a = tt
once-apart (x ∷ xs) a = (λ h. Misses-not x x xs a.0 (Contains-Has xs x h) refl, once-apart xs a.1)
