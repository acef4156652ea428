use Rattle.std.proofs.Common.{◌<◌, ℕ, [], ◌∷◌, ◌++◌, List, Vec, Global, length, ap, ◌∙◌, arith}
use Rattle.q_solve.proofs.CountRows.{pushed}
use Rattle.q_solve.proofs.holders.push_at.Goals as goal

pub returns : goal.returns
returns c =
    let room : c.args.at < length c.args.rows.now.items = omega (arith, c.requires, c.args.rows.now.ok.0) in
    let f : Vec ℕ Global → List ℕ = λ v. v.items in
    let row = c.index_mut-row.result.now in
    let e = c.in_ok-push.ensures.items ∙ ap (λ (v : Vec ℕ Global). v.items ++ c.args.number ∷ []) c.index_mut-row.ensures.value in
    pushed f c.args.rows.now.items c.push.new.self row c.args.at c.args.number room e
