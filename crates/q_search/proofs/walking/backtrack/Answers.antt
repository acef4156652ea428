use Rattle.std.proofs.Common.{sym}
use Rattle.q_search.proofs.NodeSteps.{turning-start, turning-inner, turning-across, turning-up}
use Rattle.q_search.proofs.walking.backtrack.Goals as goal

pub loop-quant-init : goal.loop-quant-init
loop-quant-init g c = record { turning = turning-start (g.N.Position.seen c.args.node.now) c.args.won; kept = g.met.N.Position.keeps_itself c.args.node.now }

pub down-requires : goal.down-requires
down-requires g c = turning-inner (g.N.Position.seen c.loop-quant.node) (g.N.Position.seen c.up.new.self) c.in-Some.quant c.in-Some.value c.in-Some.ensures.last

pub returns-then-has_second : goal.returns-then-has_second
returns-then-has_second g c =
    let k = g.met.N.Position.keeps_on c.args.node.now c.loop-quant.node c.up.new.self c.loop-quant.invariant.kept c.in-Some.ensures.kept in record {
      turned = turning-across (g.N.Position.seen c.args.node.now) (g.N.Position.seen c.loop-quant.node) (g.N.Position.seen c.up.new.self) (g.N.Position.seen c.down.new.self)
          c.in-Some.quant c.in-Some.value c.args.won c.loop-quant.invariant.turning c.in-Some.ensures.last (sym c.if-has_second.ensures) c.in_ok-down.ensures.ok;
      kept = g.met.N.Position.keeps_on c.args.node.now c.up.new.self c.down.new.self k c.in_ok-down.ensures.kept;
    }

pub loop-quant-preserved : goal.loop-quant-preserved
loop-quant-preserved g c = record {
  turning = turning-up (g.N.Position.seen c.args.node.now) (g.N.Position.seen c.loop-quant.node) (g.N.Position.seen c.up.new.self)
      c.in-Some.quant c.in-Some.value c.args.won c.loop-quant.invariant.turning c.in-Some.ensures.last (sym c.if-has_second.ensures);
  kept = g.met.N.Position.keeps_on c.args.node.now c.loop-quant.node c.up.new.self c.loop-quant.invariant.kept c.in-Some.ensures.kept;
}
