use Rattle.std.proofs.Common.{ℕ, Option, Some, None, sym, subst, unwrap_or}
use Rattle.std.specs.Prelude.{MatchOption}
use Rattle.q_logic.specs.Prelude.{Clause, IsIn, Slots}
use Rattle.q_prop.specs.Slots.{Holds, filled}
use Rattle.q_judge.proofs.SlotCollections.{in-held}
use Rattle.q_herbrand.proofs.steps.place_of.Goals as goal

there : (s : Slots) (C : Clause) (o : Option ℕ) → IsIn C (filled s) →
    MatchOption o ((n : ℕ) → Holds s n C → ⊥) (λ n. Holds s n C) → Holds s (unwrap_or o 0) C
there s C None m h = let r = in-held s C m in absurd (h r.0 r.1)
there s C (Some n) m h = h

pub returns : goal.returns
returns c =
    let L = c.args.ledger.now in
    let f = rw c.store.ensures at c.find.ensures in
    subst (λ (n : ℕ). Holds L.slots n c.args.clause.now) (sym c.unwrap_or.ensures)
    (there L.slots c.args.clause.now c.find.result c.requires f)
