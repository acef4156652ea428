-- The laws of each target: those of its rule.
use Rattle.q_logic.specs.Prelude.{Target, tautology, unit, cut, pure, subsumed, strengthen, merge, blocked, blocked_forall, cover, eliminate, expand_universal}
use Rattle.q_logic.proofs.RuleLaws.{Laws}
use Rattle.q_logic.proofs.RuleLaws.Tautology
use Rattle.q_logic.proofs.RuleLaws.Unit
use Rattle.q_logic.proofs.RuleLaws.Cut
use Rattle.q_logic.proofs.RuleLaws.Pure
use Rattle.q_logic.proofs.RuleLaws.Subsumed
use Rattle.q_logic.proofs.RuleLaws.Strengthen
use Rattle.q_logic.proofs.RuleLaws.Merge
use Rattle.q_logic.proofs.RuleLaws.Blocked
use Rattle.q_logic.proofs.RuleLaws.BlockedForall
use Rattle.q_logic.proofs.RuleLaws.Cover
use Rattle.q_logic.proofs.RuleLaws.Eliminate
use Rattle.q_logic.proofs.RuleLaws.ExpandUniversal

pub laws_of : (t : Target) → Laws t
laws_of (tautology c) = Tautology.laws c
laws_of (unit c) = Unit.laws c
laws_of (cut c l) = Cut.laws c l
laws_of (pure l) = Pure.laws l
laws_of (subsumed c d) = Subsumed.laws c d
laws_of (strengthen c d l) = Strengthen.laws c d l
laws_of (merge keep gone) = Merge.laws keep gone
laws_of (blocked c l) = Blocked.laws c l
laws_of (blocked_forall c l) = BlockedForall.laws c l
laws_of (cover c) = Cover.laws c
laws_of (eliminate x) = Eliminate.laws x
laws_of (expand_universal u) = ExpandUniversal.laws u
