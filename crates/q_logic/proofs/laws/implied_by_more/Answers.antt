use Rattle.q_logic.proofs.Propagation.{implied-same}
use Rattle.q_logic.proofs.laws.implied_by_more.Goals as goal

pub returns : goal.returns
returns c =
    record {
      clauses = λ X Y S h. implied-same X Y S S h (λ k m. m);
      literals = λ X S T h. implied-same X X S T (λ D m. m) h;
    }
