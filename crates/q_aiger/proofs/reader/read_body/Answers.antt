use Rattle.std.proofs.Common.{◌≡◌, ◌+◌, length, arith}
use Rattle.q_aiger.specs.Lines.{lines_of}
use Rattle.q_aiger.specs.Headers.{header_view}
use Rattle.q_aiger.specs.Bodies.{behind_view}
use Rattle.q_aiger.proofs.ItemCounts.{items-counted}
use Rattle.q_aiger.proofs.reader.read_body.Goals as goal

pub read_names-requires : goal.read_names-requires
read_names-requires c =
    let n = items-counted (header_view c.args.header) c.args.last (lines_of c.args.text.now) (behind_view c.in_ok-behind.behind) c.in_ok-behind.ensures.answer in
    let l : c.in_ok-behind.behind.line + length (lines_of c.in_ok-behind.behind.rest.now) ≡ 2 + length (lines_of c.args.text.now) = n.1 in
    omega arith

pub resolve-requires-clause-counts : goal.resolve-requires-clause-counts
resolve-requires-clause-counts c = (items-counted (header_view c.args.header) c.args.last (lines_of c.args.text.now) (behind_view c.in_ok-behind.behind) c.in_ok-behind.ensures.answer).0
