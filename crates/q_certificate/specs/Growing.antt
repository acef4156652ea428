-- What parts of circuits cost, and what they stand for.
use Rattle.std.specs.Prelude.{◌≡◌, ◌≤◌, ℕ, ◌+◌, ◌-◌, Bool, cond, List, Option, length}
use Rattle.q_logic.specs.Prelude.{Clause, disjunction, conjunction, inverter, falsum, Strategy, literals_in, some_of, all_of}
use Rattle.q_aig.specs.Prelude.{Net, IsLiteral, tree_at, operand_of, Keeps, Serves}
use Rattle.q_certificate.specs.Covered.{ClauseCovered, OutersCovered}
use Rattle.q_certificate.specs.Standing.{IsAt}

-- so many gates more at most
pub record IsGrown (old new : Net) (n : ℕ) : Type 0 where
  pub inputs : new.inputs ≡ old.inputs
  pub gates : length new.gates ≤ length old.gates + n
  pub kept : Keeps old new

pub record IsDisjunction (old new : Net) (a b l : ℕ) : Type 0 where
  pub grown : IsGrown old new 1
  pub there : IsLiteral new l
  pub serves : Serves (tree_at new l) (disjunction (tree_at old a) (tree_at old b))

pub record IsRaised (old new : Net) (negative : Bool) (a h l : ℕ) : Type 0 where
  pub grown : IsGrown old new 1
  pub there : IsLiteral new l
  pub serves : Serves (tree_at new l) (cond negative (conjunction (tree_at old a) (inverter (tree_at old h))) (disjunction (tree_at old a) (tree_at old h)))

-- some literal of the clause
pub record IsSomeOf (old new : Net) (ins tb : List (Option ℕ)) (O : Clause) (l : ℕ) : Type 0 where
  pub grown : IsGrown old new (length O)
  pub there : IsLiteral new l
  pub serves : (U : ℕ → Bool) → (c : Strategy) → IsAt old ins tb U c → ClauseCovered U c O → Serves (tree_at new l) (some_of c O)

-- all clauses
pub record IsAllOf (old new : Net) (ins tb : List (Option ℕ)) (outers : List Clause) (l : ℕ) : Type 0 where
  pub grown : IsGrown old new (literals_in outers + (length outers - 1))
  pub there : IsLiteral new l
  pub constant : length outers ≡ 0 → (operand_of l).node ≡ falsum
  pub serves : (U : ℕ → Bool) → (c : Strategy) → IsAt old ins tb U c → OutersCovered U c outers → Serves (tree_at new l) (all_of c outers)
