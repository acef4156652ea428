use Rattle.std.proofs.Common.{◌≡◌, Some}
use Rattle.q_logic.specs.Prelude.{negation}
use Rattle.q_prop.specs.Holders.{IsHolder}
use Rattle.q_prop.proofs.SlotLemmas.{same_slice_get}
use Rattle.q_prop.proofs.store.Store.is_apart.Goals as goal

pub returns-then-is_only : goal.returns-then-is_only
returns-then-is_only c told =
    let s = c.args.self.now in
    let list = c.is_only.ensures c.if-is_only.true in
    let here = (c.holders.ensures.members c.args.at).0 list.has in
    record {
      has = λ d e.
          let same : here.0 ≡ d = let h : Some here.0 ≡ Some d = same_slice_get s c.args.at (Some here.0) (Some d) here.1 e in cc in
          rw same at here.2;
      only = λ m h. list.only m ((c.holders.ensures.members m).1 h);
      met = λ m d e i.
          let h : IsHolder s m (negation c.args.lit) = (d, e, i) in
          c.are_met.ensures told m d ((c.holders-then-is_only.ensures.members m).1 (rw c.negated.ensures h)) e;
    }
