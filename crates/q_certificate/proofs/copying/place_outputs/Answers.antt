use Rattle.std.proofs.Common.{◌≡◌, ◌<◌, ◌≤◌, ℕ, ◌+◌, ◌-◌, ◌∷◌, List, get_or, refl, drop, length, sym, subst, ap, arith, ◌∙◌}
use Rattle.std.proofs.lemmas.List.{drop_more}
use Rattle.q_aig.specs.declared.output.Output.{Output}
use Rattle.q_aig.specs.Prelude.{no_output}
use Rattle.q_certificate.specs.Copied.{ArePlaced}
use Rattle.q_certificate.proofs.CircuitCopies.{placed-more}
use Rattle.q_certificate.proofs.copying.place_outputs.Goals as goal

pub loop-i-preserved : goal.loop-i-preserved
loop-i-preserved c =
    let b : c.loop-i.i ≤ length c.args.outputs.now = c.loop-i.invariant.bound in
    let lt : c.loop-i.i - 1 < length c.args.outputs.now = omega arith in
    let back : c.loop-i.i - 1 + 1 ≡ c.loop-i.i = omega arith in
    let o : Output = get_or c.args.outputs.now (c.loop-i.i - 1) no_output in
    let d : drop (c.loop-i.i - 1) c.args.outputs.now ≡ get_or c.args.outputs.now (c.loop-i.i - 1) no_output ∷ drop c.loop-i.i c.args.outputs.now = drop_more c.args.outputs.now (c.loop-i.i - 1) no_output lt ∙ ap (λ (n : ℕ). get_or c.args.outputs.now (c.loop-i.i - 1) no_output ∷ drop n c.args.outputs.now) back in
    record {
      bound = omega arith;
      placed = subst (λ (os : List Output). ArePlaced c.args.old.now c.args.inputs.now.items c.args.row.now c.args.outputs.now os c.put.new.row.items) (sym d)
          (placed-more c.args.old.now c.args.inputs.now.items c.loop-i.circuits.items c.put.new.row.items c.args.row.now c.args.outputs.now (drop c.loop-i.i c.args.outputs.now) (c.loop-i.i - 1) c.translate-lit.result (get_or c.args.outputs.now (c.loop-i.i - 1) no_output) refl lt (c.requires.outputs.literals (c.loop-i.i - 1) lt) c.loop-i.invariant.placed c.translate-lit.ensures c.in_ok-put.ensures.ok);
    }

pub returns : goal.returns
returns c =
    let none : c.loop-i.i ≡ 0 = omega arith in
    subst (λ (n : ℕ). ArePlaced c.args.old.now c.args.inputs.now.items c.args.row.now c.args.outputs.now (drop n c.args.outputs.now) c.loop-i.circuits.items) none c.loop-i.invariant.placed
