-- What a search learns of a formula.
use Rattle.q_kernel.specs.Prelude.{Seen, slots}
use Rattle.q_watch.specs.Watches.{AreRightFor}
use Rattle.q_blocked.specs.declared.search.Search.{Search}
use Rattle.q_blocked.specs.Units.{AreRight}
use Rattle.q_blocked.specs.Notes.{AreApart}

-- it is right for a kernel
pub record IsRightFor (k : Seen) (s : Search) : Type 0 where
  pub units : AreRight (slots k) s.units
  pub watches : AreRightFor k s.watches
  pub apart : AreApart k s.apart
