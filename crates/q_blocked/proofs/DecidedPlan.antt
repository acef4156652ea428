-- What a decision tells: whether the target fits, and its plan.
use Rattle.std.proofs.Common.{◌≡◌, ◌∙◌, ◌↔◌, Bool, true, false, ℕ, Option, List, length, refl, sym, ap, subst, true≢false, IsTrue}
use Rattle.q_logic.specs.declared.rule_bounds.Bounds.{Bounds}
use Rattle.q_logic.specs.Prelude.{Literal, IsBelow, Clause, ArePairs, clause_of, others, cover, Fits}
use Rattle.q_logic.proofs.Common.{clause_of-ordered_clause, live-slot}
use Rattle.q_kernel.specs.Prelude.{Seen, slots, formula_in, IsSound}
use Rattle.q_kernel.proofs.TextCosts.{proper-in_order}
use Rattle.q_blocked.specs.declared.growth.Growth.{Growth}
use Rattle.q_blocked.specs.declared.plan.Plan.{Plan}
use Rattle.q_blocked.specs.declared.plan.Stage.{Stage}
use Rattle.q_blocked.specs.Plans.{front, MayGo, IsWay, IsPlanFor}
use Rattle.q_blocked.specs.Growths.{Covered, HasDecided}

pub decided-fits : (k : Seen) (c : ℕ) (g : Growth) (yes : Bool) → HasDecided k c g yes → (B : Bounds) → IsTrue yes ↔ Fits B k.prefix (slots k) (cover c)
decided-fits k c g true h B = ((λ t. (h.0, h.1, h.2.covers)), (λ f. refl))
decided-fits k c g false h B = ((λ t. absurd (true≢false (sym t))), (λ f. absurd (h f.0 f.1 f.2)))

pub planned : (k : Seen) (c : ℕ) (g : Growth) (p : Plan) → IsSound k → Covered k c g → p.lits.items ≡ g.set → p.stages.items ≡ g.plan.stages.items → p.last ≡ g.plan.last → IsPlanFor k.prefix (slots k) c p
planned k c g p s (C, e, h) lits stages last = (
  C,
  e,
  record {
    begins = subst (λ (S : Clause). front S (length C) ≡ C) (sym lits) (ap clause_of h.begins ∙ clause_of-ordered_clause C ordered);
    within = subst (λ (S : Clause). Rattle.q_logic.specs.Steps.Within k.prefix S) (sym lits) h.within;
    to = g.base;
    way = subst (λ (S : Clause). IsWay k.prefix (others c (slots k)) S (length C) p.stages.items g.base) (sym lits)
        (subst (λ (ss : List Stage). IsWay k.prefix (others c (slots k)) g.set (length C) ss g.base) (sym stages) h.way);
    goes = subst (λ (S : Clause). MayGo k.prefix (others c (slots k)) (front S g.base) p.last) (sym lits)
        (subst (λ (o : Option Literal). MayGo k.prefix (others c (slots k)) (front g.set g.base) o) (sym last) h.goes);
  },
)
  where
    ordered : ArePairs IsBelow C
    ordered = proper-in_order (formula_in k) C s.proper (live-slot (slots k) c C e)
