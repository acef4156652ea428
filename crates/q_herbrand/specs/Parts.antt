-- Parts of plain drops.
use Rattle.std.specs.Prelude.{ℕ, Bool, List, Option, length}
use Rattle.q_logic.specs.Prelude.{Literal, Clause, Circuit, Strategy}
use Rattle.q_aig.specs.Prelude.{Net, IsLiteral, tree_at, Serves}
use Rattle.q_certificate.specs.Prelude.{ClauseCovered, AreLiterals, IsAt, IsGrown}
use Rattle.q_logic.specs.Reversals.{none_of, lowered_one, lowered_by}

-- no literal of the clause
pub record IsNoneOf (old new : Net) (ins tb : List (Option ℕ)) (C : Clause) (l : ℕ) : Type 0 where
  pub grown : IsGrown old new (length C)
  pub there : IsLiteral new l
  pub serves : (U : ℕ → Bool) → (c : Strategy) → IsAt old ins tb U c → ClauseCovered U c C →
      Serves (tree_at new l) (none_of c C)

-- the literals are made false where q holds
pub record AreLowered (old new : Net) (ins tb tb2 : List (Option ℕ)) (q : ℕ) (ks : List Literal) : Type 0 where
  pub grown : IsGrown old new (length ks)
  pub literals : AreLiterals new tb2
  pub at : (U : ℕ → Bool) → (c : Strategy) → (h : Circuit) → IsAt old ins tb U c → Serves (tree_at old q) h →
      IsAt new ins tb2 U (lowered_by h ks c)

-- one literal is made false where q holds
pub record IsLoweredOne (old new : Net) (ins tb tb2 : List (Option ℕ)) (q : ℕ) (k : Literal) : Type 0 where
  pub grown : IsGrown old new 1
  pub literals : AreLiterals new tb2
  pub at : (U : ℕ → Bool) → (c : Strategy) → (h : Circuit) → IsAt old ins tb U c → Serves (tree_at old q) h →
      IsAt new ins tb2 U (lowered_one h k c)
