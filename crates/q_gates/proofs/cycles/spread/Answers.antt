use Rattle.std.proofs.Common.{◌∙◌, ap, sym, ℕ, inl, inr, Option}
use Rattle.q_gates.specs.Gates.{gates_view}
use Rattle.q_gates.proofs.SearchSteps.{spread-stacked}
use Rattle.q_gates.proofs.cycles.spread.Goals as goal

pub meet-requires-clause-uses : goal.meet-requires-clause-uses
meet-requires-clause-uses c = λ h e.
    let u = ap (λ (p : Option ℕ × Option ℕ). p.0) (sym c.parts_at-left.ensures) ∙ e in
    (inl u, c.requires.defined c.args.g h c.requires.there (inl u))

pub meet-requires-2-clause-uses : goal.meet-requires-2-clause-uses
meet-requires-2-clause-uses c = λ h e.
    let u = ap (λ (p : Option ℕ × Option ℕ). p.1) (sym c.parts_at-left.ensures) ∙ e in
    (inr u, c.requires.defined c.args.g h c.requires.there (inr u))

pub returns-clause-whole : goal.returns-clause-whole
returns-clause-whole c = spread-stacked (gates_view c.args.parts.now) c.args.start c.meet-2.new.marks c.meet-2.new.stack.items c.args.g c.in_ok-meet-2.ensures.spread
    (λ h u. elim u [
      | inl a ↦ c.in_ok-meet-2.ensures.kept h (c.in_ok-meet.ensures.met h (ap (λ (p : Option ℕ × Option ℕ). p.0) c.parts_at-left.ensures ∙ a))
      | inr b ↦ c.in_ok-meet-2.ensures.met h (ap (λ (p : Option ℕ × Option ℕ). p.1) c.parts_at-left.ensures ∙ b)
    ])
