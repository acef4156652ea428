-- The laws of Strengthen: the shorter clause is implied by both, and then holds the longer one.
use Rattle.std.proofs.Common.{ℕ, length, arith, ap, ◌∙◌}
use Rattle.q_logic.specs.Prelude.{Literal, slot, live, others, formula_of, strengthen, change}
use Rattle.q_logic.proofs.Heights.{weight}
use Rattle.q_logic.proofs.Ways.{at-most, lits-weight}
use Rattle.q_logic.proofs.InOrder.{others-order, slot-order, shortened-order}
use Rattle.q_logic.proofs.MeasureFalls.{falls-shortened}
use Rattle.q_logic.proofs.PlainRuns.{strengthen-run}
use Rattle.q_logic.proofs.Decided.{decided-strengthen}
use Rattle.q_logic.proofs.RuleLaws.{Laws, empty-none, shortened-elsewhere}

pub laws : (c : ℕ) (d : ℕ) (l : Literal) → Laws (strengthen c d l)
laws c d l = record {
  run = λ B P N f m a. at-most 1 (weight length (live N)) (formula_of P (live N)) (change P N (strengthen c d l)) (omega arith) (let i = lits-weight P (live N) m in omega arith) (strengthen-run B P N c d l f.closed a.fits);
  distinct = λ P N d. d;
  falls = λ B P N h. falls-shortened B P N d h.1 l h.4 h.5;
  order = λ P N o. shortened-order l (slot N d) (others d N) (slot-order N d o) (others-order d N o);
  renumbered = λ B P M N r h. record {
    target = strengthen (r.number c) (r.number d) l;
    fits = (h.0, h.1, r.apart c d h.0 h.1 h.3 h.4 h.2, r.there c h.0 h.3, r.there d h.1 h.4, h.5, h.6, h.7);
    changed = shortened-elsewhere P M N r l d h.1 h.4;
    kept = λ i. ap (λ x. strengthen x (r.number d) l) (i c) ∙ ap (λ x. strengthen c x l) (i d);
  };
  nothing = λ B N o a h. empty-none N d h.1 l o h.4 h.5;
  decided = λ B P N n o. decided-strengthen B P N c d l;
}
