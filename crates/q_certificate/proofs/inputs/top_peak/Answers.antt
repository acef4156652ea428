use Rattle.std.proofs.Common.{◌≡◌, ◌+◌, max, sym, subst}
use Rattle.q_aig.specs.Prelude.{Net, tree_at, net_of}
use Rattle.q_certificate.specs.Peaks.{IsPeak, IsTop}
use Rattle.q_certificate.proofs.InputWeights.{top-none, top-more}
use Rattle.q_certificate.proofs.inputs.top_peak.Goals as goal

pub loop-k-init : goal.loop-k-init
loop-k-init c = top-none c.args.given.now c.args.weights.now

pub loop-k-preserved : goal.loop-k-preserved
loop-k-preserved c =
    let peak : IsPeak (net_of c.args.given.now) c.args.weights.now (tree_at (net_of c.args.given.now) c.literal_at-lit.result) c.peak_of-peak.result =
    subst (λ (a : Net). IsPeak a c.args.weights.now (tree_at a c.literal_at-lit.result) c.peak_of-peak.result) c.aig-in-loop-k.ensures c.peak_of-peak.ensures in
    let e : c.greater-top.result ≡ max c.loop-k.top c.peak_of-peak.result = c.greater-top.ensures in
    subst (IsTop c.args.given.now (c.loop-k.k + 1) c.args.weights.now) (sym e)
    (top-more c.args.given.now c.loop-k.k c.literal_at-lit.result c.loop-k.top c.peak_of-peak.result c.args.weights.now c.loop-k.invariant c.literal_at-lit.ensures.tree peak)
