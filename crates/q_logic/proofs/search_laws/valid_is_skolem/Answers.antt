use Rattle.q_logic.proofs.HitNodes.{valid-skolem, skolem-valid}
use Rattle.q_logic.proofs.search_laws.valid_is_skolem.Goals as goal

pub returns : goal.returns
returns c q l fed = (valid-skolem q l fed, skolem-valid q l fed)
