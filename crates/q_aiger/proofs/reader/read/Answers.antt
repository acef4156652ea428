use Rattle.std.proofs.lemmas.Result.{IfOk-weaker, IfErr-weaker}
use Rattle.q_aiger.specs.Circuits.{AreCircuits, FailsWith}
use Rattle.q_aiger.specs.Grammar.{Circuits, IsNoFile}
use Rattle.q_aiger.proofs.AigerGrammar.{read-grammar}
use Rattle.q_aiger.proofs.NoOffence.{no-file}
use Rattle.q_aiger.proofs.reader.read.Goals as goal

pub returns-clause-grammar : goal.returns-clause-grammar
returns-clause-grammar c = IfOk-weaker c.read_circuits.result (AreCircuits c.args.bytes.now) (Circuits c.args.bytes.now) (λ circuits h. read-grammar c.args.bytes.now circuits h) c.read_circuits.ensures.ok

pub returns-clause-no_file : goal.returns-clause-no_file
returns-clause-no_file c = IfErr-weaker c.read_circuits.result (FailsWith c.args.bytes.now) (IsNoFile c.args.bytes.now) (λ error h. no-file c.args.bytes.now error h) c.read_circuits.ensures.err
