-- The words on circuits and their nets, passed on from one place. Declares nothing.
pub use Rattle.q_aig.specs.Nets.{Net, tree_at, operand_of, IsLiteral, IsNet, Keeps, AreDistinct}
pub use Rattle.q_aig.specs.Nets.{gate_of, turned, IsNew}
pub use Rattle.q_aig.specs.Serving.{Serves, IsConjunction}
pub use Rattle.q_aig.specs.Walking.{marked_count, IsMarked}
pub use Rattle.q_aig.specs.Outputs.{net_of, output_of, no_output, AreOutputs, IsNewName}
