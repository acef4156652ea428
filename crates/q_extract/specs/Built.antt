-- Circuits that are built of drops.
use Rattle.std.specs.Prelude.{◌≡◌, ◌≤◌, ℕ, ◌+◌, Bool, true, cond, eqb, List, [], ◌∷◌, ◌⊎◌, length, map, slice_get, Option, None, Some}
use Rattle.q_logic.specs.declared.formulas.Bound.{Bound}
use Rattle.q_logic.specs.Prelude.{IsIn, Prefix, is_existential, is_exists, Assignment, Circuit, value_of, CertificateView, trees_of, circuit_of, Strategy, Lawful, given}
use Rattle.q_aig.specs.Prelude.{Net, IsLiteral, tree_at, Serves}
use Rattle.q_certificate.specs.Prelude.{look_at, AreLiterals, IsAt, IsGrown, universals, existentials}
use Rattle.q_certificate.specs.Tabled.{is_there}
use Rattle.q_long.specs.Valued.{Value}
use Rattle.q_long.specs.Decided.{Drop, alike, every_circuit, either, decided, with_next, circuits_by}
use Rattle.q_extract.specs.Merges.{extra, weight, weights}
use Rattle.q_extract.specs.Rows.{kept_in}

-- the variable has a circuit or is an input
abbrev pub IsGiven : (ℕ → Bool) → Strategy → ℕ → Type 0
IsGiven U c x = (given (c x) ≡ true) ⊎ (U x ≡ true)

abbrev pub AreGiven : (ℕ → Bool) → Strategy → List Value → Type 0
AreGiven U c T = (v : Value) → IsIn v T → IsGiven U c v.var

-- the variable has the value
pub record IsAlike (old new : Net) (ins tb : List (Option ℕ)) (v : Value) (l : ℕ) : Type 0 where
  pub grown : IsGrown old new (extra v.circuit)
  pub there : IsLiteral new l
  pub serves : (U : ℕ → Bool) → (c : Strategy) → IsAt old ins tb U c → IsGiven U c v.var → Serves (tree_at new l) (alike (circuit_of c v.var) v.circuit)

-- all variables have the values
pub record IsEvery (old new : Net) (ins tb : List (Option ℕ)) (T : List Value) (l : ℕ) : Type 0 where
  pub grown : IsGrown old new (weights T)
  pub there : IsLiteral new l
  pub serves : (U : ℕ → Bool) → (c : Strategy) → IsAt old ins tb U c → AreGiven U c T → Serves (tree_at new l) (every_circuit c T)

-- a row for the circuits of guards, none of which is made
pub record IsNoneHeld (n : ℕ) (held : List (Option ℕ)) : Type 0 where
  pub size : length held ≡ n
  pub none : (g : ℕ) → look_at held g ≡ None

-- a place for each guard, and literals where circuits are made
pub record AreHeld (a : Net) (guards : List (List Value)) (held : List (Option ℕ)) : Type 0 where
  pub size : length held ≡ length guards
  pub literals : AreLiterals a held

-- what is made serves, and reads what has its circuit
abbrev pub HeldServe : Net → List (List Value) → List (Option ℕ) → (ℕ → Bool) → Strategy → Type 0
HeldServe a guards held U c =
    (g l : ℕ) → look_at held g ≡ Some l →
    AreGiven U c (kept_in (slice_get guards g)) × Serves (tree_at a l) (every_circuit c (kept_in (slice_get guards g)))

-- what the guards cost that are not made
abbrev pub unmade : List (List Value) → (ℕ → Option ℕ) → ℕ
unmade [] made = 0
unmade (T ∷ guards) made = cond (is_there (made 0)) 0 (weights T) + unmade guards (λ g. made (g + 1))

-- so many gates more at most, beside those of guards, each of which is made once
abbrev pub IsShared : Net → Net → List (List Value) → List (Option ℕ) → List (Option ℕ) → ℕ → Type 0
IsShared old new guards held held2 n =
    length new.gates + unmade guards (look_at held2) ≤ length old.gates + unmade guards (look_at held) + n

-- what all guards cost
abbrev pub whole_weight : List (List Value) → ℕ
whole_weight [] = 0
whole_weight (T ∷ guards) = weights T + whole_weight guards

-- the guard of the values T
pub record IsGuard (old new : Net) (ins tb : List (Option ℕ)) (guards : List (List Value)) (held held2 : List (Option ℕ)) (T : List Value) (l : ℕ) : Type 0 where
  pub grown : IsGrown old new (weights T)
  pub shared : IsShared old new guards held held2 0
  pub there : IsLiteral new l
  pub sound : AreHeld new guards held2
  pub serves : (U : ℕ → Bool) → (c : Strategy) → IsAt old ins tb U c → HeldServe old guards held U c → AreGiven U c T →
      HeldServe new guards held2 U c × Serves (tree_at new l) (every_circuit c T)

-- the value where all is so, and else what was built of the drops behind
pub record IsGiving (old new : Net) (v : Value) (h a l : ℕ) : Type 0 where
  pub grown : IsGrown old new (weight v)
  pub there : IsLiteral new l
  pub serves : Serves (tree_at new l) (either (tree_at old h) v.circuit (tree_at old a))

-- a drop over what was built of those behind it
pub record IsMade (old new : Net) (ins tb : List (Option ℕ)) (guards : List (List Value)) (held held2 : List (Option ℕ)) (v : Value) (T : List Value) (a l : ℕ) : Type 0 where
  pub grown : IsGrown old new (weights T + weight v)
  pub shared : IsShared old new guards held held2 (weight v)
  pub there : IsLiteral new l
  pub sound : AreHeld new guards held2
  pub serves : (U : ℕ → Bool) → (c : Strategy) → (t : Circuit) → IsAt old ins tb U c → HeldServe old guards held U c → AreGiven U c T → Serves (tree_at old a) t →
      HeldServe new guards held2 U c × Serves (tree_at new l) (either (every_circuit c T) v.circuit t)

-- what the drops of e cost, and what all drops do
abbrev pub cost_of : (Drop → ℕ) → ℕ → List Drop → ℕ
cost_of w e [] = 0
cost_of w e (d ∷ ds) = cond (eqb d.value.var e) (w d + cost_of w e ds) (cost_of w e ds)

abbrev pub cost : (Drop → ℕ) → List Drop → ℕ
cost w [] = 0
cost w (d ∷ ds) = w d + cost w ds

-- a drop with its guard, and beside it
abbrev pub whole : Drop → ℕ
whole d = weights d.kept + weight d.value

abbrev pub beside : Drop → ℕ
beside d = weight d.value

-- what the drops of e keep has a circuit or is an input
abbrev pub AllCovered : (ℕ → Bool) → Strategy → ℕ → List Drop → Type 0
AllCovered U c e ds = (d : Drop) → IsIn d ds → eqb d.value.var e ≡ true → AreGiven U c d.kept

-- the circuit of e
pub record IsDecided (old new : Net) (ins tb : List (Option ℕ)) (guards : List (List Value)) (held held2 : List (Option ℕ)) (e : ℕ) (ds : List Drop) (l : ℕ) : Type 0 where
  pub grown : IsGrown old new (cost_of whole e ds)
  pub shared : IsShared old new guards held held2 (cost_of beside e ds)
  pub there : IsLiteral new l
  pub sound : AreHeld new guards held2
  pub serves : (U : ℕ → Bool) → (c : Strategy) → IsAt old ins tb U c → HeldServe old guards held U c → AllCovered U c e ds →
      HeldServe new guards held2 U c × Serves (tree_at new l) (decided ds c e)

-- the circuits with one for the next variable
pub record IsNext (old new : Net) (ins tb tb2 : List (Option ℕ)) (guards : List (List Value)) (held held2 : List (Option ℕ)) (b : Bound) (ds : List Drop) : Type 0 where
  pub grown : IsGrown old new (cond (is_exists b.quant) (cost_of whole b.var ds) 0)
  pub shared : IsShared old new guards held held2 (cond (is_exists b.quant) (cost_of beside b.var ds) 0)
  pub literals : AreLiterals new tb2
  pub sound : AreHeld new guards held2
  pub at : (U : ℕ → Bool) → (c : Strategy) → IsAt old ins tb U c → HeldServe old guards held U c → (is_exists b.quant ≡ true → AllCovered U c b.var ds) →
      HeldServe new guards held2 U c × IsAt new ins tb2 U (with_next (decided ds) c b)

-- the certificate of drops over n merges: its circuits have the values of those of the definition, are lawful, and cost a gate for
-- each literal that is taken away and for each that is kept beside it, three for each merge, and three more for each merged value
pub record IsExtracted (P : Prefix) (ds : List Drop) (n : ℕ) (made : CertificateView) : Type 0 where
  pub inputs : made.inputs ≡ universals P
  pub outputs : map (λ o. o.name) made.outputs ≡ existentials P
  pub values : (x : ℕ) → is_existential P x ≡ true → (A : Assignment) → value_of (circuit_of (trees_of made) x) A ≡ value_of (circuit_of (circuits_by P ds) x) A
  pub lawful : Lawful P (trees_of made)
  pub gates : length made.gates ≤ cost whole ds + (n + n + n)
