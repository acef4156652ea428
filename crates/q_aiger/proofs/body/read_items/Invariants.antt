use Rattle.std.proofs.Common.{◌≡◌, ◌+◌, ◌-◌}
use Rattle.q_aiger.specs.Lines.{lines_of}
use Rattle.q_aiger.specs.Headers.{header_view}
use Rattle.q_aiger.specs.Items.{items_from, items_of}
use Rattle.q_aiger.proofs.body.read_items.Given as goal

abbrev pub invariant-loop : goal.invariant-loop
invariant-loop l = record {
  line : l.line ≡ 2 + l.counter;
  items : items_from (header_view l.header) l.last l.line l.items (l.end - l.counter) (lines_of l.rest) ≡ items_of (header_view l.header) l.last (lines_of l.text);
}
