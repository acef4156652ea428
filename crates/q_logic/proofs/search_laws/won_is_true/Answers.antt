use Rattle.std.proofs.Common.{◌≡◌, sym, ◌∙◌}
use Rattle.q_logic.specs.Truth.{is_true}
use Rattle.q_logic.specs.Prelude.{nothing}
use Rattle.q_logic.specs.Decisions.{search_of}
use Rattle.q_logic.proofs.WonSearch.{explored-won}
use Rattle.q_logic.proofs.search_laws.won_is_true.Goals as goal

pub returns : goal.returns
returns c F f =
    let e : (search_of F).won ≡ is_true F = explored-won F.prefix F.matrix nothing f.distinct in (
      λ h. (c.truth_is_decided.ensures F).0 (sym e ∙ h),
      λ h. e ∙ (c.truth_is_decided.ensures F).1 h,
    )
