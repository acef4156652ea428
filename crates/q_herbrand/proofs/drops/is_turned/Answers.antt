use Rattle.std.proofs.Common.{◌≡◌, true, sym, subst}
use Rattle.q_logic.specs.Prelude.{Literal, is_bound}
use Rattle.q_logic.proofs.Common.{universal-is_bound}
use Rattle.q_herbrand.proofs.drops.is_turned.Goals as goal

pub resolves-requires : goal.resolves-requires
resolves-requires c =
    let P = c.args.ledger.now.prefix in
    subst (λ (k : Literal). is_bound P k.var ≡ true) (sym c.negated-2.ensures)
    (universal-is_bound P c.args.lit.var c.requires.universal)
