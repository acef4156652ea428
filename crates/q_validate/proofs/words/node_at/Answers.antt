use Rattle.std.proofs.Common.{◌++◌, ◌∷◌, [], ◌<◌, eqb, Bool, List, false, length, get_or, sym, ap, ◌∙◌, subst, arith}
use Rattle.std.proofs.lemmas.List.{take_more}
use Rattle.q_validate.proofs.WordBits.{path-root, path-step, step-small, byte-small, byte-bit, node-small}
use Rattle.q_validate.proofs.words.node_at.Goals as goal

pub loop-value-init : goal.loop-value-init
loop-value-init c = record { positive = omega arith; small = omega arith; path = path-root }

pub loop-value-preserved : goal.loop-value-preserved
loop-value-preserved c =
    let k = c.loop-value.invariant in
    let i = c.loop-value.value-index in
    let vs = c.args.path.now in
    let v = get_or vs i false in
    let b : c.from.result < 2 = subst (λ n. n < 2) (sym c.from.ensures) (byte-small v) in
    let t : i < length vs = c.loop-value-test.true in
    let s = step-small i c.loop-value.node c.from.result (omega arith) k.small b in
    record {
      positive = omega (arith, k.positive);
      small = s.1;
      path = path-step c.loop-value.node c.from.result v k.positive s.0 b (ap (λ n. eqb n 1) c.from.ensures ∙ byte-bit v)
          ∙ ap (λ (p : List Bool). p ++ v ∷ []) k.path ∙ sym (take_more vs i false t);
    }

pub returns-clause-small : goal.returns-clause-small
returns-clause-small c =
    node-small c.loop-value.value-index c.loop-value.node (length c.args.path.now) (omega arith) c.requires c.loop-value.invariant.small
