use Rattle.std.proofs.Common.{◌≡◌, ◌≤◌, ◌<◌, ◌+◌, ℕ, ap, arith}
use Rattle.q_logic.specs.declared.rule_bounds.Bounds.{Bounds}
use Rattle.q_logic.specs.Prelude.{greatest, place, expand_universal}
use Rattle.q_logic.proofs.Common.{is_bound-greatest, universal-is_bound}
use Rattle.q_kernel.specs.Prelude.{Seen, Applies}
use Rattle.q_expand.specs.declared.target.Target.{Target}
use Rattle.q_expand.specs.declared.target.Target.TheVariants.{Expand}
use Rattle.q_expand.specs.Targets.{target_of}
use Rattle.q_expand.proofs.find.find_from.Goals as goal

passed : (B : Bounds) (k : Seen) (from to end : ℕ) → end ≡ greatest k.prefix + 1 → end ≤ to → ((v : ℕ) → from ≤ v → v < to → Applies B k (expand_universal v) → ⊥) → (t : Target) → from ≤ place (target_of t) → Applies B k (target_of t) → ⊥
passed B k from to end e g h (Expand v) p a =
    let b = is_bound-greatest k.prefix v (universal-is_bound k.prefix v a.fits.universal) in
    h v p (omega arith) a

pub returns : goal.returns
returns c = record {
  some = λ t e. absurd (cc);
  none = λ e t p a. passed c.args.bounds.now c.args.kernel.now c.args.from c.loop-u.u (c.greatest_var-u-end.result + 1) (ap (λ n. n + 1) c.greatest_var-u-end.ensures) c.loop-u-test.false c.loop-u.invariant t p a;
}
