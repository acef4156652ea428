use Rattle.std.proofs.Common.{refl, ◌+◌, ◌/◌, ◌∙◌}
use Rattle.q_logic.specs.Prelude.{clause_of}
use Rattle.q_gen.proofs.DrawnClauses.{generated-proper, generated-limits}
use Rattle.q_gen.proofs.GeneratedClauses.{drawn-none, drawn-one, drawn-formula, drawn-lawful}
use Rattle.q_gen.proofs.formula.generate.Goals as goal

pub returns-in_err-prefix-clause-proper : goal.returns-in_err-prefix-clause-proper
returns-in_err-prefix-clause-proper c = generated-proper c.args.seed c.args.size c.requires

pub returns-in_err-prefix-clause-limits : goal.returns-in_err-prefix-clause-limits
returns-in_err-prefix-clause-limits c = generated-limits c.args.seed c.args.size c.requires

pub loop-init : goal.loop-init
loop-init c =
    rw c.new-clauses.ensures
    (drawn-none c.args.seed c.args.size (1 + c.args.size / 5) c.seed_from_u64-words.result c.seed_from_u64-words.ensures)

pub returns-in_err-put_clause-clause-proper : goal.returns-in_err-put_clause-clause-proper
returns-in_err-put_clause-clause-proper c = generated-proper c.args.seed c.args.size c.requires

pub returns-in_err-put_clause-clause-limits : goal.returns-in_err-put_clause-clause-limits
returns-in_err-put_clause-clause-limits c = generated-limits c.args.seed c.args.size c.requires

pub loop-preserved : goal.loop-preserved
loop-preserved c =
    drawn-one c.args.seed c.args.size (1 + c.args.size / 5) c.loop.counter c.loop.words c.draw.new.words c.loop.clauses c.put_clause.new.clauses
    (clause_of c.draw.result) c.loop-test.true c.loop.invariant c.draw.ensures c.in_ok-put_clause.ensures

pub from_parts-requires : goal.from_parts-requires
from_parts-requires c =
    drawn-lawful c.args.seed c.args.size (1 + c.args.size / 5) c.loop.counter c.loop.words c.in_ok-prefix.prefix.items c.loop.clauses _ _ c.loop.invariant c.loop-test.false
    c.in_ok-prefix.ensures refl c.requires c.into_parts-lits.ensures.ends c.into_parts-lits.ensures.clauses

pub returns-clause-value : goal.returns-clause-value
returns-clause-value c =
    c.from_parts.ensures.value
    ∙ drawn-formula c.args.seed c.args.size (1 + c.args.size / 5) c.loop.counter c.loop.words c.in_ok-prefix.prefix.items c.loop.clauses _ c.loop.invariant c.loop-test.false
    c.in_ok-prefix.ensures refl c.into_parts-lits.ensures.clauses

pub returns-clause-proper : goal.returns-clause-proper
returns-clause-proper c = generated-proper c.args.seed c.args.size c.requires

pub returns-clause-limits : goal.returns-clause-limits
returns-clause-limits c = generated-limits c.args.seed c.args.size c.requires
