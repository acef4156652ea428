use Rattle.std.proofs.Common.{◌<◌, ◌∙◌, length, arith, ap, ◌∷◌, [], ◌++◌, List, Vec, Global}
use Rattle.q_logic.proofs.Common.{on_err}
use Rattle.q_watch.specs.declared.entry.Entry.{Entry}
use Rattle.q_watch.proofs.RowLemmas.{row_set_other, pushed-at, kept-at}
use Rattle.q_watch.proofs.rows.push_at.Goals as goal

pub returns-in_err-push-clause-err : goal.returns-in_err-push-clause-err
returns-in_err-push-clause-err c =
    let f : Vec Entry Global → List Entry = λ v. v.items in
    let vs = c.args.rows.now.items in
    let room : c.args.at < length vs = omega (arith, c.requires, c.args.rows.now.ok.0) in
    let e = c.in_err-push.ensures.items ∙ ap f c.index_mut-row.ensures.value in
    on_err c.from_residual.result (kept-at f vs c.push.new.self c.index_mut-row.result.now c.args.at room e)

pub returns-in_err-push-clause-others : goal.returns-in_err-push-clause-others
returns-in_err-push-clause-others c j n =
    let f : Vec Entry Global → List Entry = λ v. v.items in
    row_set_other f c.args.rows.now.items c.args.at j c.push.new.self n

pub returns-clause-ok : goal.returns-clause-ok
returns-clause-ok c =
    let f : Vec Entry Global → List Entry = λ v. v.items in
    let vs = c.args.rows.now.items in
    let room : c.args.at < length vs = omega (arith, c.requires, c.args.rows.now.ok.0) in
    let e = c.in_ok-push.ensures.items ∙ ap (λ (v : Vec Entry Global). v.items ++ c.args.entry ∷ []) c.index_mut-row.ensures.value in
    pushed-at f vs c.push.new.self c.index_mut-row.result.now c.args.at room c.args.entry e

pub returns-clause-others : goal.returns-clause-others
returns-clause-others c j n =
    let f : Vec Entry Global → List Entry = λ v. v.items in
    row_set_other f c.args.rows.now.items c.args.at j c.push.new.self n
