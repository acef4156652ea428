use Rattle.std.proofs.Common.{◌≡◌, ◌≤◌, ℕ, sym, ◌∙◌, inl, inr, arith}
use Rattle.q_logic.specs.Prelude.{place}
use Rattle.q_logic.proofs.Common.{before_or_at, none_of}
use Rattle.q_rule.proofs.RuleSearch.{found-more, found-none}
use Rattle.q_equiv.specs.Targets.{target_of}
use Rattle.q_equiv.proofs.LiteralPairs.{place-bound}
use Rattle.q_equiv.proofs.find.find_from.Goals as goal

at-least : (from v p : ℕ) → from ≤ v → p ≡ v → from ≤ p
at-least from v p h e = omega arith

pub returns-then-is_some : goal.returns-then-is_some
returns-then-is_some c = found-more target_of c.args.kernel.now (λ t. place (target_of t) ≡ c.loop-var.var) (λ t. c.args.from ≤ place (target_of t)) c.in_ok-found.found
    (sym c.is_some.ensures ∙ c.if-is_some.true) (λ t e. at-least c.args.from c.loop-var.var (place (target_of t)) c.loop-var.auto.var e) c.in_ok-found.ensures.found

pub loop-var-preserved : goal.loop-var-preserved
loop-var-preserved c = record {
  falling = c.in_ok-found.ensures.falling;
  none = λ t low high B f. elim (before_or_at (place (target_of t)) c.loop-var.var high) [
    | inl l ↦ c.loop-var.invariant.none t low l B f
    | inr e ↦ c.in_ok-found.ensures.found.none (none_of c.in_ok-found.found (sym c.is_some.ensures ∙ c.if-is_some.false)) t e B f
  ];
}

pub returns : goal.returns
returns c = found-none target_of c.args.kernel.now (λ t. c.args.from ≤ place (target_of t)) (λ t low B f.
    c.loop-var.invariant.none t low (let b = place-bound c.args.kernel.now t B f in let g = c.greatest_var-var-end.ensures in omega arith) B f)
