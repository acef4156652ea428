-- Turns of the program, as turns of the search.
use Rattle.std.proofs.Common.{◌≡◌, ◌<◌, Bool, true, false, [], ◌∷◌, ◌++◌, length, sym, ap, ◌∙◌, subst}
use Rattle.q_logic.specs.Prelude.{PrenexFormula}
use Rattle.q_logic.specs.Decisions.{verdict}
use Rattle.q_search.specs.Paths.{rest_of}
use Rattle.q_search.specs.Walks.{Walk, moved, IsLast as IsLastWalk, IsNext}
use Rattle.q_search.proofs.NodeSteps.{IsTurning, turning-up, turning-across, turning-inner}
use Rattle.q_solve.specs.declared.node.Decision.{Decision}
use Rattle.q_solve.specs.declared.circuits.Circuits.{Circuits}
use Rattle.q_solve.specs.Places.{Spot, IsLast, walk_of}
use Rattle.q_solve.specs.Waiting.{IsReady, IsWonAt, IsLostAt}
use Rattle.q_solve.specs.Passes.{IsPassed, CanPass, IsDropped, has_second}
use Rattle.q_solve.proofs.DecisionReturns.{can-pass, won-up, won-across, lost-up, lost-across}

same-walk : (now before : Spot) (d : Decision) → IsLast now before d → walk_of before ≡ moved (walk_of now) before.path
same-walk now before d l = ap (λ (F : PrenexFormula). record { test = verdict F.matrix; prefix = F.prefix; path = before.path }) l.formula

unset-walk : (now before : Spot) (d : Decision) → (l : IsLast now before d) → rest_of now.formula.prefix before.path ≡ d.bound ∷ l.rest
unset-walk now before d l = sym (ap (λ (F : PrenexFormula). rest_of F.prefix before.path) l.formula) ∙ l.unset

last-walk : (now before : Spot) (d : Decision) → IsLast now before d → IsLastWalk (walk_of now) (walk_of before) d.bound.quant d.value
last-walk now before d l = record {
  same = same-walk now before d l;
  path = l.path;
  variable = d.bound.var;
  rest = l.rest;
  unset = unset-walk now before d l;
}

pub turn-inner : (now before : Spot) (d : Decision) → IsLast now before d → length before.path < length before.formula.prefix
turn-inner now before d l = turning-inner (walk_of now) (walk_of before) d.bound.quant d.value (last-walk now before d l)

pub turn-can : (c : Circuits) (now before : Spot) (d : Decision) → IsLast now before d → IsWonAt c (walk_of now) → CanPass d.bound.quant d.value d.bound.var d.depth c
turn-can c now before d l h =
    can-pass c c (walk_of now) before.path d.bound.var d.depth l.rest d.bound.quant d.value l.path l.depth (unset-walk now before d l) h

-- up to the decision
pub turn-up : (old : Walk) (now before : Spot) (d : Decision) (won : Bool) → IsTurning old (walk_of now) won → IsLast now before d → has_second d.bound.quant d.value won ≡ false → IsTurning old (walk_of before) won
turn-up old now before d won t l h = turning-up old (walk_of now) (walk_of before) d.bound.quant d.value won t (last-walk now before d l) h

pub turn-won : (c c2 : Circuits) (now before : Spot) (d : Decision) → IsLast now before d → IsWonAt c (walk_of now) → IsPassed d.bound.quant d.value d.bound.var d.depth c c2 → has_second d.bound.quant d.value true ≡ false → IsWonAt c2 (walk_of before)
turn-won c c2 now before d l w p h =
    subst (IsWonAt c2) (sym (same-walk now before d l)) (won-up c c2 (walk_of now) before.path d.bound.var d.depth l.rest d.bound.quant d.value l.path l.depth (unset-walk now before d l) w p h)

pub turn-lost : (c c2 : Circuits) (now before : Spot) (d : Decision) → IsLast now before d → IsLostAt c (walk_of now) → IsDropped d.bound.quant d.value c c2 → has_second d.bound.quant d.value false ≡ false → IsLostAt c2 (walk_of before)
turn-lost c c2 now before d l w p h =
    subst (IsLostAt c2) (sym (same-walk now before d l)) (lost-up c c2 (walk_of now) before.path d.bound.var d.depth l.rest d.bound.quant d.value l.path (unset-walk now before d l) w p h)

-- over to the second side
spot-walk : (before new : Spot) (v : Bool) → new ≡ record { formula = before.formula; path = before.path ++ v ∷ [] } → walk_of new ≡ moved (walk_of before) (before.path ++ v ∷ [])
spot-walk before new v e = ap walk_of e

pub turn-next : (old : Walk) (now before new : Spot) (d : Decision) (won : Bool) → IsTurning old (walk_of now) won → IsLast now before d → has_second d.bound.quant d.value won ≡ true →
    new ≡ record { formula = before.formula; path = before.path ++ true ∷ [] } → IsNext old (walk_of new) won
turn-next old now before new d won t l h e =
    turning-across old (walk_of now) (walk_of before) (walk_of new) d.bound.quant d.value won t (last-walk now before d l) h (spot-walk before new true e)

across-walk : (now before new : Spot) (d : Decision) → IsLast now before d → new ≡ record { formula = before.formula; path = before.path ++ true ∷ [] } → walk_of new ≡ moved (walk_of now) (before.path ++ true ∷ [])
across-walk now before new d l e =
    spot-walk before new true e ∙ ap (λ (w : Walk). moved w (before.path ++ true ∷ [])) (same-walk now before d l)

pub turn-won-ready : (c c2 : Circuits) (now before new : Spot) (d : Decision) → IsLast now before d → IsWonAt c (walk_of now) → IsPassed d.bound.quant d.value d.bound.var d.depth c c2 → has_second d.bound.quant d.value true ≡ true →
    new ≡ record { formula = before.formula; path = before.path ++ true ∷ [] } → IsReady c2 (walk_of new)
turn-won-ready c c2 now before new d l w p h e =
    subst (IsReady c2) (sym (across-walk now before new d l e)) (won-across c c2 (walk_of now) before.path d.bound.var d.depth l.rest d.bound.quant d.value l.path (unset-walk now before d l) w p h)

pub turn-lost-ready : (c c2 : Circuits) (now before new : Spot) (d : Decision) → IsLast now before d → IsLostAt c (walk_of now) → IsDropped d.bound.quant d.value c c2 → has_second d.bound.quant d.value false ≡ true →
    new ≡ record { formula = before.formula; path = before.path ++ true ∷ [] } → IsReady c2 (walk_of new)
turn-lost-ready c c2 now before new d l w p h e =
    subst (IsReady c2) (sym (across-walk now before new d l e)) (lost-across c c2 (walk_of now) before.path d.bound.var d.depth l.rest d.bound.quant d.value l.path (unset-walk now before d l) w p h)
