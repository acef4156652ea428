use Rattle.std.proofs.Common.{◌≡◌, ◌∙◌, ap, List, ℕ, ◌++◌}
use Rattle.q_logic.specs.Prelude.{PrenexFormula}
use Rattle.q_logic.proofs.Common.{on_err}
use Rattle.q_dimacs.specs.Writing.{formula_text}
use Rattle.q_gen.specs.Generated.{Generated}
use Rattle.std.proofs.lemmas.Result.{on_ok_weaker, on_err_weaker}
use Rattle.q_gen.proofs.GeneratedFile.{untouched, not_created, whole, part}
use Rattle.q_gen.proofs.output.write_generated.Goals as goal

pub returns-in_default-clause-part : goal.returns-in_default-clause-part
returns-in_default-clause-part g c = untouched c.args.name.now c.args.seed c.args.size (g.F.Files.held c.args.files.now)

pub returns-in_default-write-clause-part : goal.returns-in_default-write-clause-part
returns-in_default-write-clause-part g c = untouched c.args.name.now c.args.seed c.args.size (g.F.Files.held c.args.files.now)

pub returns-in_err-create-clause-part : goal.returns-in_err-create-clause-part
returns-in_err-create-clause-part g c = on_err c.from_residual.result (not_created c.args.name.now c.args.seed c.args.size _ _ c.in_err-create.ensures.err)

pub returns-clause-whole : goal.returns-clause-whole
returns-clause-whole g c =
    let text : c.deref.result.now ≡ formula_text (Generated c.args.seed c.args.size) = c.deref.ensures.value ∙ (c.in-Ok-write.ensures.ok ∙ (ap (λ (xs : List ℕ). xs ++ formula_text c.in-Ok.formula) c.new-text.ensures.items ∙ ap (λ (F : PrenexFormula). formula_text F) c.in-Ok.ensures.value)) in
    on_ok_weaker c.append.result (λ all. whole c.args.name.now c.args.seed c.args.size c.deref.result.now _ _ _ c.in_ok-create.ensures.empty all text) c.append.ensures.all

pub returns-clause-part : goal.returns-clause-part
returns-clause-part g c =
    let text : c.deref.result.now ≡ formula_text (Generated c.args.seed c.args.size) = c.deref.ensures.value ∙ (c.in-Ok-write.ensures.ok ∙ (ap (λ (xs : List ℕ). xs ++ formula_text c.in-Ok.formula) c.new-text.ensures.items ∙ ap (λ (F : PrenexFormula). formula_text F) c.in-Ok.ensures.value)) in
    on_err_weaker c.append.result (λ some. part c.args.name.now c.args.seed c.args.size c.deref.result.now _ _ _ c.in_ok-create.ensures.empty some text) c.append.ensures.err
