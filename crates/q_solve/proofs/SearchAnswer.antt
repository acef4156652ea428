-- The search from its start to its answer.
use Rattle.std.proofs.Common.{◌≡◌, ℕ, suc, ◌<◌, Bool, true, false, [], ◌∷◌, ◌++◌, length, refl, sym, ap, ◌∙◌, subst, arith, Option, IsTrue}
use Rattle.std.specs.Prelude.{◌↔◌}
use Rattle.q_logic.specs.declared.verdict.Verdict.TheVariants.{Won, Lost, Open}
use Rattle.q_logic.specs.Prelude.{Prefix, PrenexFormula, IsFormula, Holds, CertificateView}
use Rattle.q_logic.specs.Decisions.{verdict, search_of, decisions}
use Rattle.q_search.specs.Walks.{Walk, moved, said_here, IsTurned, IsEnd, IsNext, IsInner}
use Rattle.q_search.specs.Budgets.{IsBelow, IsPayment}
use Rattle.q_search.proofs.NodeSteps.{IsGoing, left_to_do, going-start, going-down, going-next, going-end, leaf-won, leaf-lost}
use Rattle.q_certificate.specs.Prelude.{IsOpened}
use Rattle.q_solve.specs.declared.circuits.Circuits.{Circuits}
use Rattle.q_solve.specs.Places.{Spot, walk_of}
use Rattle.q_solve.specs.Picks.{AreBelow, IsRow}
use Rattle.q_solve.specs.Waiting.{IsWaiting, IsReady, IsWonAt, IsWonOr, IsLostOr}
use Rattle.q_solve.specs.Written.{IsWritten}
use Rattle.q_solve.specs.Found.{IsAnswer}
use Rattle.q_solve.proofs.GrownRows.{row-weaker}
use Rattle.q_solve.proofs.DecisionReturns.{ready-down}
use Rattle.q_solve.proofs.CircuitTable.{answered}

abbrev pub start_of : PrenexFormula → Spot
start_of F = record { formula = F; path = [] }

pub going-here : (F : PrenexFormula) (s : Spot) (budget : Option ℕ) → s ≡ start_of F → IsGoing (walk_of (start_of F)) (walk_of s) budget budget
going-here F s budget e = subst (λ (t : Spot). IsGoing (walk_of (start_of F)) (walk_of t) budget budget) (sym e) (going-start (walk_of (start_of F)) budget refl)

pub ready-here : (F : PrenexFormula) (s : Spot) (c : Circuits) → s ≡ start_of F → IsFormula F → IsOpened c.aig c.inputs.items F.prefix → c.aside.items ≡ [] → IsReady c (walk_of s)
ready-here F s c e f o a = subst (λ (t : Spot). IsReady c (walk_of t)) (sym e) (record {
  distinct = f.distinct;
  inputs = o.inputs;
  literals = o.literals;
  at = o.at;
  waiting = subst (IsWaiting c.aig (verdict F.matrix) F.prefix []) (sym a) IsWaiting.root;
})

-- a decision
pub down-here : (w0 : Walk) (c : Circuits) (s t : Spot) (n k m : Option ℕ) → IsGoing w0 (walk_of s) n k → IsReady c (walk_of s) → said_here (walk_of s) ≡ Open → IsInner (walk_of s) → IsPayment k m true →
    t ≡ record { formula = s.formula; path = s.path ++ false ∷ [] } → (IsGoing w0 (walk_of t) n m × (left_to_do (walk_of t) < left_to_do (walk_of s))) × IsReady c (walk_of t)
down-here w0 c s t n k m g r o i p e = (
  going-down w0 (walk_of s) (walk_of t) n k m g o i p (ap walk_of e),
  ready-down c (walk_of s) (walk_of t) r o (ap walk_of e),
)

-- the next node
pub won-next : (w0 : Walk) (c : Circuits) (s t : Spot) (n k : Option ℕ) → IsGoing w0 (walk_of s) n k → said_here (walk_of s) ≡ Won → (more : Bool) → more ≡ true → IsTurned (walk_of s) (walk_of t) true more → IsWonOr c (walk_of t) more →
    (IsGoing w0 (walk_of t) n k × (left_to_do (walk_of t) < left_to_do (walk_of s))) × IsReady c (walk_of t)
won-next w0 c s t n k g o more e x r =
    let y : IsNext (walk_of s) (walk_of t) true = subst (IsTurned (walk_of s) (walk_of t) true) e x in
    (going-next w0 (walk_of s) (walk_of t) n k true g (leaf-won (walk_of s) o) y, subst (IsWonOr c (walk_of t)) e r)

pub lost-next : (w0 : Walk) (c : Circuits) (s t : Spot) (n k : Option ℕ) → IsGoing w0 (walk_of s) n k → said_here (walk_of s) ≡ Lost → (more : Bool) → more ≡ true → IsTurned (walk_of s) (walk_of t) false more → IsLostOr c (walk_of t) more →
    (IsGoing w0 (walk_of t) n k × (left_to_do (walk_of t) < left_to_do (walk_of s))) × IsReady c (walk_of t)
lost-next w0 c s t n k g o more e x r =
    let y : IsNext (walk_of s) (walk_of t) false = subst (IsTurned (walk_of s) (walk_of t) false) e x in
    (going-next w0 (walk_of s) (walk_of t) n k false g (leaf-lost (walk_of s) o) y, subst (IsLostOr c (walk_of t)) e r)

-- the root
pub root-here : (c : Circuits) (t : Spot) (more : Bool) → more ≡ false → IsWonOr c (walk_of t) more → IsWonAt c (walk_of t) × (t.path ≡ [])
root-here c t more e r = subst (IsWonOr c (walk_of t)) e r

pub root-row : (c : Circuits) (t : Spot) (more : Bool) → more ≡ false → IsWonOr c (walk_of t) more → IsRow 0 c.current
root-row c t more e r =
    let h = root-here c t more e r in
    row-weaker (suc (length t.path)) 0 c.current h.0.circuits.order (omega arith)

pub root-within : (w0 : Walk) (c : Circuits) (s t : Spot) (n k : Option ℕ) (P : Prefix) (more : Bool) → more ≡ false → IsWonOr c (walk_of t) more → IsGoing w0 (walk_of s) n k → walk_of t ≡ moved (walk_of s) t.path → P ≡ w0.prefix → AreBelow (suc (length P)) c.current
root-within w0 c s t n k P more e r g m q =
    let h = root-here c t more e r in
    let z : t.formula.prefix ≡ w0.prefix = ap (λ (w : Walk). w.prefix) (m ∙ ap (λ (w : Walk). moved w t.path) g.same) in
    subst (λ (Q : Prefix). AreBelow (suc (length Q)) c.current) (z ∙ sym q) h.0.circuits.within

not-true : (b : Bool) → b ≡ false → IsTrue b → ⊥
not-true b e h = let z : true ≡ false = sym h ∙ e in cc

pub yes-here : (F : PrenexFormula) (c : Circuits) (s t : Spot) (n k : Option ℕ) (made : CertificateView) (more : Bool) → IsFormula F → IsTrue (search_of F).won ↔ Holds F → more ≡ false →
    IsGoing (walk_of (start_of F)) (walk_of s) n k → said_here (walk_of s) ≡ Won → IsTurned (walk_of s) (walk_of t) true more → IsWonOr c (walk_of t) more → walk_of t ≡ moved (walk_of s) t.path →
    IsWritten c.aig F.prefix c.current made → (¬ IsBelow n (decisions F)) × Holds F × IsAnswer F made
yes-here F c s t n k made more f law e g o x r m wr =
    let y : IsEnd (walk_of s) true = subst (IsTurned (walk_of s) (walk_of t) true) e x in
    let z : (¬ IsBelow n (decisions F)) × ((search_of F).won ≡ true) = going-end (walk_of (start_of F)) (walk_of s) n k true g (leaf-won (walk_of s) o) y in
    let h = root-here c t more e r in
    let w : walk_of t ≡ record { test = verdict F.matrix; prefix = F.prefix; path = t.path } = m ∙ ap (λ (v : Walk). moved v t.path) g.same in
    (z.0, law.0 z.1, answered F c (walk_of t) made f z.1 w h.1 h.0 wr)

pub no-here : (F : PrenexFormula) (s t : Spot) (n k : Option ℕ) (more : Bool) → IsTrue (search_of F).won ↔ Holds F → more ≡ false →
    IsGoing (walk_of (start_of F)) (walk_of s) n k → said_here (walk_of s) ≡ Lost → IsTurned (walk_of s) (walk_of t) false more → (¬ IsBelow n (decisions F)) × (¬ Holds F)
no-here F s t n k more law e g o x =
    let y : IsEnd (walk_of s) false = subst (IsTurned (walk_of s) (walk_of t) false) e x in
    let z : (¬ IsBelow n (decisions F)) × ((search_of F).won ≡ false) = going-end (walk_of (start_of F)) (walk_of s) n k false g (leaf-lost (walk_of s) o) y in
    (z.0, λ h. not-true (search_of F).won z.1 (law.1 h))
