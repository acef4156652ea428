-- The laws of Tautology: what is true whatever the values is implied.
use Rattle.std.proofs.Common.{ℕ, arith, ap}
use Rattle.q_logic.specs.Prelude.{live, formula_of, tautology, change}
use Rattle.q_logic.proofs.Ways.{at-most}
use Rattle.q_logic.proofs.InOrder.{others-order}
use Rattle.q_logic.proofs.MeasureFalls.{falls-gone}
use Rattle.q_logic.proofs.PlainRuns.{tautology-run}
use Rattle.q_logic.proofs.Decided.{decided-tautology}
use Rattle.q_logic.proofs.RuleLaws.{Laws, empty-none}

pub laws : (c : ℕ) → Laws (tautology c)
laws c = record {
  run = λ B P N f m a. at-most 0 0 (formula_of P (live N)) (change P N (tautology c)) (omega arith) (omega arith) (tautology-run B P N c a.fits);
  distinct = λ P N d. d;
  falls = λ B P N h. falls-gone B P N c h.0 h.1;
  order = λ P N o. others-order c N o;
  renumbered = λ B P M N r h. record { target = tautology (r.number c); fits = (h.0, r.there c h.0 h.1, h.2); changed = ap (formula_of P) (r.beside c h.0 h.1); kept = λ i. ap tautology (i c) };
  nothing = λ B N o a h. empty-none N c h.0 h.2.0 o h.1 h.2.1;
  decided = λ B P N n o. decided-tautology B P N c;
}
