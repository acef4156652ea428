-- The words on circuits that fit a prefix, passed on from one place. Declares nothing.
pub use Rattle.q_certificate.specs.Covered.{OutersCovered, ClauseCovered, IsCovered, EntryCovered, weight}
pub use Rattle.q_certificate.specs.Standing.{look_at, AreLiterals, IsAt, InputsAt, Stands}
pub use Rattle.q_certificate.specs.Standing.{literal_operand}
pub use Rattle.q_certificate.specs.Growing.{IsGrown, IsRaised, IsAllOf, IsDisjunction}
pub use Rattle.q_certificate.specs.Undone.{IsUndone}
pub use Rattle.q_certificate.specs.Copied.{AreCopied, AreMarked, ArePlaced, copied_operand, or_zero}
pub use Rattle.q_certificate.specs.Copied.{tree_of_gate, marked_upto, strategy_of, copied_plain}
pub use Rattle.q_certificate.specs.Made.{universals, IsNamed, IsOpened, existentials}
pub use Rattle.q_certificate.specs.Cones.{HasCones}
pub use Rattle.q_certificate.specs.Refusals.{Fits, IsMisfit}
pub use Rattle.q_certificate.specs.Tabled.{is_there, AreCircuits, AreExistentials}
