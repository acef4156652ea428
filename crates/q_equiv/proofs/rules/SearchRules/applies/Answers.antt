use Rattle.std.proofs.Common.{◌≡◌, sym, subst}
use Rattle.q_logic.specs.Prelude.{Target, merge}
use Rattle.q_logic.proofs.Common.{ok-iff}
use Rattle.q_kernel.specs.Prelude.{Applies}
use Rattle.q_equiv.specs.Targets.{target_of}
use Rattle.q_equiv.proofs.LiteralPairs.{merge-target}
use Rattle.q_equiv.proofs.BridgeClauses.{merge-applies}
use Rattle.q_equiv.proofs.rules.SearchRules.applies.Goals as goal

pub returns-clause-yes : goal.returns-clause-yes
returns-clause-yes c =
    let B = c.args.bounds.now in
    let k = c.args.kernel.now in
    let t : Target = merge c.keep.result c.gone.result in
    let e : t ≡ target_of c.args.target.now = merge-target c.args.target.now c.keep.result c.gone.result c.keep.ensures c.gone.ensures in
    ok-iff {B = Applies B k (target_of c.args.target.now)} c.fits.result (
      (λ m. subst (λ (T : Target). Applies B k T) e (merge-applies B k c.keep.result c.gone.result c.requires.ready.limits m)),
      (λ a. (subst (λ (T : Target). Applies B k T) (sym e) a).fits),
    ) c.fits.ensures
