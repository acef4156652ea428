use Rattle.std.proofs.Common.{true}
use Rattle.q_logic.specs.declared.verdict.Verdict.TheVariants.{Lost, Won, Open}
use Rattle.q_search.proofs.NodeSteps.{IsLooked, looked, look-down, look-out, look-next, look-end, look-lost, going-start, leaf-won}
use Rattle.q_search.proofs.walking.find_lost.Goals as goal

pub loop-left-init : goal.loop-left-init
loop-left-init g c = record {
  going = going-start (g.N.Position.seen c.args.node.now) c.args.budget c.requires.start;
  kept = g.met.N.Position.keeps_itself c.args.node.now;
}

pub returns-then-not-pay : goal.returns-then-not-pay
returns-then-not-pay g c =
    let seen = g.N.Position.seen in
    let l : IsLooked (seen c.args.node.now) (seen c.loop-left.node) (seen c.verdict.new.self) c.args.budget c.loop-left.left Open =
    looked (seen c.args.node.now) (seen c.loop-left.node) (seen c.verdict.new.self) c.args.budget c.loop-left.left
    _ Open c.loop-left.invariant.going c.in_ok-verdict.ensures.same c.in_ok-verdict.ensures.value c.in-Open.is in
    let kept = g.met.N.Position.keeps_on c.args.node.now c.loop-left.node c.verdict.new.self c.loop-left.invariant.kept c.in_ok-verdict.ensures.kept in
    record {
      ending = look-out (seen c.args.node.now) (seen c.loop-left.node) (seen c.verdict.new.self) c.args.budget c.loop-left.left c.pay.new.left l (c.in_ok-verdict.ensures.open c.in-Open.is) c.if-not-pay.ensures;
      kept = kept;
    }

pub loop-left-smaller-in_ok-down-in-Open : goal.loop-left-smaller-in_ok-down-in-Open
loop-left-smaller-in_ok-down-in-Open g c =
    let seen = g.N.Position.seen in
    let l : IsLooked (seen c.args.node.now) (seen c.loop-left.node) (seen c.verdict.new.self) c.args.budget c.loop-left.left Open =
    looked (seen c.args.node.now) (seen c.loop-left.node) (seen c.verdict.new.self) c.args.budget c.loop-left.left
    _ Open c.loop-left.invariant.going c.in_ok-verdict.ensures.same c.in_ok-verdict.ensures.value c.in-Open.is in
    (look-down (seen c.args.node.now) (seen c.loop-left.node) (seen c.verdict.new.self) (seen c.down.new.self) c.args.budget c.loop-left.left c.pay.new.left l
    (c.in_ok-verdict.ensures.open c.in-Open.is) c.if-not-pay.ensures c.in_ok-down-in-Open.ensures.ok).1

pub loop-left-preserved-in_ok-down-in-Open : goal.loop-left-preserved-in_ok-down-in-Open
loop-left-preserved-in_ok-down-in-Open g c =
    let seen = g.N.Position.seen in
    let l : IsLooked (seen c.args.node.now) (seen c.loop-left.node) (seen c.verdict.new.self) c.args.budget c.loop-left.left Open =
    looked (seen c.args.node.now) (seen c.loop-left.node) (seen c.verdict.new.self) c.args.budget c.loop-left.left
    _ Open c.loop-left.invariant.going c.in_ok-verdict.ensures.same c.in_ok-verdict.ensures.value c.in-Open.is in
    let kept = g.met.N.Position.keeps_on c.args.node.now c.loop-left.node c.verdict.new.self c.loop-left.invariant.kept c.in_ok-verdict.ensures.kept in
    record {
      going = (look-down (seen c.args.node.now) (seen c.loop-left.node) (seen c.verdict.new.self) (seen c.down.new.self) c.args.budget c.loop-left.left c.pay.new.left l
          (c.in_ok-verdict.ensures.open c.in-Open.is) c.if-not-pay.ensures c.in_ok-down-in-Open.ensures.ok).0;
      kept = g.met.N.Position.keeps_on c.args.node.now c.verdict.new.self c.down.new.self kept c.in_ok-down-in-Open.ensures.kept;
    }

pub loop-left-smaller : goal.loop-left-smaller
loop-left-smaller g c =
    let seen = g.N.Position.seen in
    let l : IsLooked (seen c.args.node.now) (seen c.loop-left.node) (seen c.verdict.new.self) c.args.budget c.loop-left.left Won =
    looked (seen c.args.node.now) (seen c.loop-left.node) (seen c.verdict.new.self) c.args.budget c.loop-left.left
    _ Won c.loop-left.invariant.going c.in_ok-verdict.ensures.same c.in_ok-verdict.ensures.value c.in-Won.is in
    (look-next (seen c.args.node.now) (seen c.loop-left.node) (seen c.verdict.new.self) (seen c.backtrack.new.node) c.args.budget c.loop-left.left Won true _ l
    (leaf-won (seen c.verdict.new.self)) c.in_ok-backtrack-in-Won.ensures.turned c.if-not-branch.false).1

pub loop-left-preserved : goal.loop-left-preserved
loop-left-preserved g c =
    let seen = g.N.Position.seen in
    let l : IsLooked (seen c.args.node.now) (seen c.loop-left.node) (seen c.verdict.new.self) c.args.budget c.loop-left.left Won =
    looked (seen c.args.node.now) (seen c.loop-left.node) (seen c.verdict.new.self) c.args.budget c.loop-left.left
    _ Won c.loop-left.invariant.going c.in_ok-verdict.ensures.same c.in_ok-verdict.ensures.value c.in-Won.is in
    let kept = g.met.N.Position.keeps_on c.args.node.now c.loop-left.node c.verdict.new.self c.loop-left.invariant.kept c.in_ok-verdict.ensures.kept in
    record {
      going = (look-next (seen c.args.node.now) (seen c.loop-left.node) (seen c.verdict.new.self) (seen c.backtrack.new.node) c.args.budget c.loop-left.left Won true _ l
          (leaf-won (seen c.verdict.new.self)) c.in_ok-backtrack-in-Won.ensures.turned c.if-not-branch.false).0;
      kept = g.met.N.Position.keeps_on c.args.node.now c.verdict.new.self c.backtrack.new.node kept c.in_ok-backtrack-in-Won.ensures.kept;
    }

pub returns-then-not-branch : goal.returns-then-not-branch
returns-then-not-branch g c =
    let seen = g.N.Position.seen in
    let l : IsLooked (seen c.args.node.now) (seen c.loop-left.node) (seen c.verdict.new.self) c.args.budget c.loop-left.left Won =
    looked (seen c.args.node.now) (seen c.loop-left.node) (seen c.verdict.new.self) c.args.budget c.loop-left.left
    _ Won c.loop-left.invariant.going c.in_ok-verdict.ensures.same c.in_ok-verdict.ensures.value c.in-Won.is in
    let kept = g.met.N.Position.keeps_on c.args.node.now c.loop-left.node c.verdict.new.self c.loop-left.invariant.kept c.in_ok-verdict.ensures.kept in
    record {
      ending = look-end (seen c.args.node.now) (seen c.loop-left.node) (seen c.verdict.new.self) (seen c.backtrack.new.node) c.args.budget c.loop-left.left Won true _ l
          (leaf-won (seen c.verdict.new.self)) c.in_ok-backtrack-in-Won.ensures.turned c.if-not-branch.true;
      kept = g.met.N.Position.keeps_on c.args.node.now c.verdict.new.self c.backtrack.new.node kept c.in_ok-backtrack-in-Won.ensures.kept;
    }

pub returns-in-Lost : goal.returns-in-Lost
returns-in-Lost g c =
    let seen = g.N.Position.seen in
    let l : IsLooked (seen c.args.node.now) (seen c.loop-left.node) (seen c.verdict.new.self) c.args.budget c.loop-left.left Lost =
    looked (seen c.args.node.now) (seen c.loop-left.node) (seen c.verdict.new.self) c.args.budget c.loop-left.left
    _ Lost c.loop-left.invariant.going c.in_ok-verdict.ensures.same c.in_ok-verdict.ensures.value c.in-Lost.is in
    let kept = g.met.N.Position.keeps_on c.args.node.now c.loop-left.node c.verdict.new.self c.loop-left.invariant.kept c.in_ok-verdict.ensures.kept in
    let r = look-lost (seen c.args.node.now) (seen c.loop-left.node) (seen c.verdict.new.self) c.args.budget c.loop-left.left c.requires.universal l in
    record { ending = ((r.0, r.1), r.2); kept = kept }
