use Rattle.std.proofs.Common.{◌∙◌, sym, true≢false}
use Rattle.q_blocked.proofs.ApartNotes.{apart-none}
use Rattle.q_blocked.proofs.search.Search.forget.Goals as goal

pub returns : goal.returns
returns c k = record { units = λ e. absurd (true≢false (sym e ∙ c.forget.ensures)); watches = c.forget-2.ensures k; apart = apart-none k c.forget-3.new.self c.forget-3.ensures }
