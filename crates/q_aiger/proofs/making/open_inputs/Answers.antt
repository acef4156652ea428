use Rattle.std.proofs.Common.{◌≡◌, ◌∙◌, ◌++◌, ◌∷◌, [], ap, sym, length, ℕ, List, arith, take, get_or, add-one}
use Rattle.std.proofs.Math.Seq.{take-suc}
use Rattle.std.proofs.lemmas.List.{length-take-le}
use Rattle.q_logic.specs.Prelude.{input_at}
use Rattle.q_aiger.specs.Making.{plain}
use Rattle.q_aiger.proofs.GatePlaces.{inputs-more}
use Rattle.q_aiger.proofs.making.open_inputs.Goals as goal

pub loop-name-preserved : goal.loop-name-preserved
loop-name-preserved c =
    let names : List ℕ = c.args.names.now in
    let size : length c.loop-name.aig.inputs ≡ c.loop-name.name-index = ap length c.loop-name.invariant.inputs ∙ length-take-le c.loop-name.name-index c.args.names.now (omega arith) in
    record {
      inputs = c.in_ok-lit.ensures.inputs ∙ (ap (λ (x : List ℕ). x ++ get_or names c.loop-name.name-index 0 ∷ []) c.loop-name.invariant.inputs ∙ (sym (take-suc names c.loop-name.name-index 0 c.loop-name-test.true) ∙ ap (λ (k : ℕ). take k names) (sym (add-one c.loop-name.name-index))));
      gates = c.in_ok-lit.ensures.gates ∙ c.loop-name.invariant.gates;
      row = inputs-more c.loop-name.row.items c.push.new.self.items c.loop-name.name-index c.in_ok-lit.lit c.loop-name.invariant.row c.in_ok-push.ensures.items (c.in_ok-lit.ensures.literal ∙ ap (λ (x : ℕ). plain (input_at x)) size);
    }
