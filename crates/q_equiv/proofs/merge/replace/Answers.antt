use Rattle.q_logic.proofs.Common.{test-false, is_tautology-whole, is_tautology-none}
use Rattle.q_equiv.proofs.ClauseReplacement.{may-go_alone, replaced_by_nothing, may-come, may-go_then, replaced_by_it}
use Rattle.q_equiv.proofs.merge.replace.Goals as goal

pub delete_implied-requires : goal.delete_implied-requires
delete_implied-requires c =
    let t = is_tautology-whole c.args.clause.now (c.is_tautology.ensures.0 c.if-is_tautology.true) in
    may-go_alone c.args.kernel.now c.args.id c.args.clause.now c.requires c.sound.ensures t

pub returns-then-is_tautology : goal.returns-then-is_tautology
returns-then-is_tautology c =
    let t = is_tautology-whole c.args.clause.now (c.is_tautology.ensures.0 c.if-is_tautology.true) in
    replaced_by_nothing c.args.kernel.now c.args.id c.args.clause.now c.requires c.sound.ensures c.delete_implied.new.self t c.delete_implied.ensures

pub add_implied-requires : goal.add_implied-requires
add_implied-requires c = may-come c.args.kernel.now c.args.id c.args.clause.now c.requires c.sound.ensures

pub delete_implied-requires-2 : goal.delete_implied-requires-2
delete_implied-requires-2 c =
    let t = is_tautology-none c.args.clause.now (test-false c.is_tautology.result c.is_tautology.ensures c.if-is_tautology.false) in
    may-go_then c.args.kernel.now c.args.id c.args.clause.now c.requires c.sound.ensures c.add_implied.new.self c.add_implied.result c.add_implied.ensures t

pub returns : goal.returns
returns c =
    let t = is_tautology-none c.args.clause.now (test-false c.is_tautology.result c.is_tautology.ensures c.if-is_tautology.false) in
    replaced_by_it c.args.kernel.now c.args.id c.args.clause.now c.requires c.sound.ensures c.add_implied.new.self c.add_implied.result c.add_implied.ensures c.delete_implied-2.new.self t c.delete_implied-2.ensures
