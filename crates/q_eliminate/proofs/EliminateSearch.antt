-- Variables that a search has passed.
use Rattle.std.proofs.Common.{◌≡◌, ◌≤◌, ◌<◌, ◌+◌, ℕ, inl, inr, arith, subst}
use Rattle.q_logic.specs.declared.rule_bounds.Bounds.{Bounds}
use Rattle.q_logic.specs.Prelude.{greatest, place}
use Rattle.q_logic.specs.Targets as theory
use Rattle.q_logic.proofs.Common.{is_bound-greatest, before_or_at, existential-is_bound}
use Rattle.q_kernel.specs.Prelude.{Seen, Applies}
use Rattle.q_eliminate.specs.declared.target.Target.{Target}
use Rattle.q_eliminate.specs.declared.target.Target.TheVariants.{Eliminate}
use Rattle.q_eliminate.specs.Targets.{target_of}

-- no target from one variable on and before another one applies
abbrev pub ArePassed : Bounds → Seen → ℕ → ℕ → Type 0
ArePassed B k from to = (v : ℕ) → from ≤ v → v < to → Applies B k (theory.eliminate v) → ⊥

pub passed-begun : (B : Bounds) (k : Seen) (from : ℕ) → ArePassed B k from from
passed-begun B k from v h g = absurd (omega arith)

pub passed-more : (B : Bounds) (k : Seen) (from to : ℕ) → (Applies B k (theory.eliminate to) → ⊥) → ArePassed B k from to → ArePassed B k from (to + 1)
passed-more B k from to n h v f g a = elim (before_or_at v to g) [
  | inl b ↦ h v f b a
  | inr e ↦ n (subst (λ (w : ℕ). Applies B k (theory.eliminate w)) e a)
]

pub passed-all : (B : Bounds) (k : Seen) (from to end : ℕ) → end ≡ greatest k.prefix + 1 → end ≤ to → ArePassed B k from to → (t : Target) → from ≤ place (target_of t) → Applies B k (target_of t) → ⊥
passed-all B k from to end e g h (Eliminate v) f a =
    let b = is_bound-greatest k.prefix v (existential-is_bound k.prefix v a.fits.existential) in
    h v f (omega arith) a
