-- The place at which a builder of entries stands.
use Rattle.q_log.specs.Builders.{open_in}
use Rattle.q_hinted.specs.declared.builder.EntryBuilder.{EntryBuilder}
use Rattle.q_hinted.specs.Filled.{place_in}
use Rattle.q_hinted.specs.Grammar.{Place}

abbrev pub place_of : EntryBuilder → Place
place_of b = place_in b.phase (open_in b.steps) b.waiting b.proof
