use Rattle.std.proofs.Common.{◌≡◌, ◌≤◌, ◌+◌, ◌++◌, ◌∷◌, [], List, Bool, length, ap, sym, subst, arith}
use Rattle.std.proofs.lemmas.List.{length_push}
use Rattle.q_logic.specs.Branches.{claim_of}
use Rattle.q_validate.specs.Stands.{Spot, IsStand}
use Rattle.q_validate.proofs.NodeValues.{block-given, line-given}
use Rattle.q_validate.proofs.node.Node.give.Goals as goal

pub invariant_of-self-2 : goal.invariant_of-self-2
invariant_of-self-2 c =
    let x = c.self.inside in
    let k = c.self.invariant in
    let v = c.args.value in
    let q = claim_of x.formula.now x.certificate.now in
    let path : List Bool = x.path.items in
    let l : length path ≡ length c.args.self.now.path = ap (λ (t : Spot). length t.path) c.self.view_is in
    let n : length x.certificate.now.inputs ≡ length c.args.self.now.certificate.inputs = ap (λ (t : Spot). length t.certificate.inputs) c.self.view_is in
    let m : length (path ++ v ∷ []) ≡ length path + 1 = length_push path v in
    let w : length (path ++ v ∷ []) ≤ length x.certificate.now.inputs = omega (arith, c.requires) in
    subst (λ (p : List Bool). IsStand x.formula.now x.certificate.now x.circuits.items x.places p x.block c.straight-self-inside.result) (sym c.in_ok-push.ensures.items)
    (record {
      net = k.net;
      circuits = k.circuits;
      are_places = k.are_places;
      trees = k.trees;
      within = w;
      told = block-given q path v x.block k.told;
      straight = line-given q path v x.line c.straight-self-inside.result c.straight-self-inside.ensures k.straight;
    })
