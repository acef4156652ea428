-- What is kept of a search: the circuits of the side that was left last, and those of first sides that wait for the second
-- sides of their universals.
use Rattle.std.specs.Prelude.{◌≡◌, ℕ, suc, Bool, true, false, List, [], ◌∷◌, ◌++◌, length}
use Rattle.q_logic.specs.declared.formulas.Quant.TheVariants.{Exists, Forall}
use Rattle.q_logic.specs.declared.verdict.Verdict.TheVariants.{Open}
use Rattle.q_logic.specs.Prelude.{Prefix, with_value, Circuit, Test, explored, nothing}
use Rattle.q_logic.specs.Prefixes.{is_bound, is_universal, place, Distinct}
use Rattle.q_logic.specs.Decisions.{circuits_at}
use Rattle.q_aig.specs.Prelude.{Net, tree_at, Serves}
use Rattle.q_search.specs.Paths.{along, rest_of, said}
use Rattle.q_search.specs.Walks.{Walk}
use Rattle.q_certificate.specs.Prelude.{AreLiterals, InputsAt, universals}
use Rattle.q_solve.specs.declared.picks.Pick.{Pick}
use Rattle.q_solve.specs.declared.circuits.Circuits.{Circuits}
use Rattle.q_solve.specs.Picks.{lit_at, AreBelow, IsRow}
use Rattle.q_solve.specs.Joins.{AreIn}

-- the row has the circuits of all variables, none before this depth
pub record IsServing (a : Net) (P : Prefix) (low : ℕ) (row : List Pick) (c : ℕ → Circuit) : Type 0 where
  pub order : IsRow low row
  pub within : AreBelow (suc (length P)) row
  pub literals : AreIn a row
  pub serves : (x : ℕ) → is_bound P x ≡ true → Serves (tree_at a (lit_at row (suc (place P x)))) (c x)

-- what the sides of a decision find
abbrev pub side_won : Test → Prefix → List Bool → Prefix → ℕ → Bool → Bool
side_won f P vs R v w = (explored f R (with_value (along P vs nothing) v w)).won

abbrev pub side_circuits : Test → Prefix → List Bool → Prefix → ℕ → Bool → ℕ → Circuit
side_circuits f P vs R v w = circuits_at f R (with_value (along P vs nothing) v w)

-- along a path: where an existential has its second value, the first side is lost; where a universal has, the first side
-- is won, and its circuits wait
pub data IsWaiting (a : Net) (f : Test) (P : Prefix) : List Bool → List (List Pick) → Type 0 where
  root : IsWaiting a f P [] []
  first : (vs : List Bool) (rows : List (List Pick)) → said f P vs nothing ≡ Open → IsWaiting a f P vs rows → IsWaiting a f P (vs ++ false ∷ []) rows
  choice : (vs : List Bool) (rows : List (List Pick)) (v : ℕ) (R : Prefix) → rest_of P vs ≡ record { quant = Exists; var = v } ∷ R → said f P vs nothing ≡ Open →
      side_won f P vs R v false ≡ false → IsWaiting a f P vs rows → IsWaiting a f P (vs ++ true ∷ []) rows
  second : (vs : List Bool) (rows : List (List Pick)) (v : ℕ) (R : Prefix) (row : List Pick) → rest_of P vs ≡ record { quant = Forall; var = v } ∷ R → said f P vs nothing ≡ Open →
      side_won f P vs R v false ≡ true → IsServing a P (suc (suc (length vs))) row (side_circuits f P vs R v false) →
      IsWaiting a f P vs rows → IsWaiting a f P (vs ++ true ∷ []) (rows ++ row ∷ [])

-- at each node
pub record IsReady (c : Circuits) (w : Walk) : Type 0 where
  pub distinct : Distinct w.prefix
  pub inputs : c.aig.inputs ≡ universals w.prefix
  pub literals : AreLiterals c.aig c.inputs.items
  pub at : InputsAt c.aig c.inputs.items (is_universal w.prefix)
  pub waiting : IsWaiting c.aig w.test w.prefix w.path c.aside.items

-- what the node finds
abbrev pub found_here : Walk → Bool
found_here w = (explored w.test (rest_of w.prefix w.path) (along w.prefix w.path nothing)).won

-- at a node that is won, with its circuits
pub record IsWonAt (c : Circuits) (w : Walk) : Type 0 where
  pub ready : IsReady c w
  pub won : found_here w ≡ true
  pub circuits : IsServing c.aig w.prefix (suc (length w.path)) c.current (circuits_at w.test (rest_of w.prefix w.path) (along w.prefix w.path nothing))

-- at a node that is lost
pub record IsLostAt (c : Circuits) (w : Walk) : Type 0 where
  pub ready : IsReady c w
  pub lost : found_here w ≡ false

-- after a climb from a node that is won: at the next node, or at the root
abbrev pub IsWonOr : Circuits → Walk → Bool → Type 0
IsWonOr c w true = IsReady c w
IsWonOr c w false = IsWonAt c w × (w.path ≡ [])

-- after a climb from a node that is lost
abbrev pub IsLostOr : Circuits → Walk → Bool → Type 0
IsLostOr c w true = IsReady c w
IsLostOr c w false = Unit {0}
