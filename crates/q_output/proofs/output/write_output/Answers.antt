use Rattle.std.proofs.Common.{◌∙◌, ap, List, ℕ, ◌++◌}
use Rattle.q_io.proofs.StoreContents.{untouched, not_created}
use Rattle.q_dimacs.specs.Writing.{formula_text, front_text}
use Rattle.q_output.proofs.Putting.{output-stopped, output-last, output-whole}
use Rattle.std.proofs.lemmas.Result.{on_err_weaker}
use Rattle.q_logic.proofs.Common.{on_err, on_both}
use Rattle.q_output.proofs.output.write_output.Goals as goal

pub returns-in_err-put_front-clause-part : goal.returns-in_err-put_front-clause-part
returns-in_err-put_front-clause-part g c = on_err _ (untouched c.args.name.now (formula_text c.args.formula.now) (g.F.Files.held c.args.files.now))

pub returns-in_err-create-clause-part : goal.returns-in_err-create-clause-part
returns-in_err-create-clause-part g c = on_err _ (not_created c.args.name.now (formula_text c.args.formula.now) _ _ c.in_err-create.ensures.err)

pub returns-in_err-put_clauses-clause-part : goal.returns-in_err-put_clauses-clause-part
returns-in_err-put_clauses-clause-part g c =
    let text = c.in_ok-put_front.ensures.ok ∙ ap (λ (xs : List ℕ). xs ++ front_text c.args.formula.now) c.new-text.ensures.items in
    on_err _ (output-stopped c.args.formula.now c.args.name.now c.put_front.new.text.items _ _ _ text c.in_ok-create.ensures.empty c.in_err-put_clauses.ensures.part)

pub returns-clause-whole : goal.returns-clause-whole
returns-clause-whole g c =
    let text = c.in_ok-put_front.ensures.ok ∙ ap (λ (xs : List ℕ). xs ++ front_text c.args.formula.now) c.new-text.ensures.items in
    on_both c.put_piece.result c.put_piece.ensures.goes_on c.put_piece.ensures.short (λ goes_on short. output-whole c.args.formula.now c.args.name.now c.put_front.new.text.items c.put_clauses.new.text.items c.put_piece.new.text.items _ _ _ _ text c.in_ok-create.ensures.empty c.in_ok-put_clauses.ensures.goes_on goes_on short)

pub returns-clause-part : goal.returns-clause-part
returns-clause-part g c =
    let text = c.in_ok-put_front.ensures.ok ∙ ap (λ (xs : List ℕ). xs ++ front_text c.args.formula.now) c.new-text.ensures.items in
    on_err_weaker c.put_piece.result (λ part. output-last c.args.formula.now c.args.name.now c.put_front.new.text.items c.put_clauses.new.text.items _ _ _ _ text c.in_ok-create.ensures.empty c.in_ok-put_clauses.ensures.goes_on part) c.put_piece.ensures.part
