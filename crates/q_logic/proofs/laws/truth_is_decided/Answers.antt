use Rattle.std.proofs.Common.{false}
use Rattle.q_logic.proofs.TruthDecided.{is_true_under-sound, is_true_under-complete}
use Rattle.q_logic.proofs.laws.truth_is_decided.Goals as goal

pub returns : goal.returns
returns c F = (is_true_under-sound F.prefix F.matrix (λ x. false), is_true_under-complete F.prefix F.matrix (λ x. false))
