-- A level above the root: the negations of a clause, and what they force.
use Rattle.std.specs.Prelude.{List, ◌++◌, Contains, map, length}
use Rattle.q_logic.specs.Prelude.{Literal, negation, Clause, Matrix}
use Rattle.q_prop.specs.Chains.{IsChain}
use Rattle.q_prop.specs.Slots.{filled, without}
use Rattle.q_prop.specs.Working.{IsReady, AreListed, AreTrue}
use Rattle.q_prop.specs.declared.watched.Watched.{Watched}
use Rattle.q_prop.specs.declared.level.Level.{Level}

-- the known literals are some of a chain from the negations of the clause
pub record AreFollowing (x : Matrix) (c : Clause) (known : List Literal) : Type 0 where
  pub added : List Literal
  pub chain : IsChain x (map negation c) added
  pub within : (l : Literal) → Contains known l → Contains (map negation c ++ added) l

-- the trail has the negations of the clause and all that propagation gives from them over the clauses but one
pub record IsLevel (w : Watched) (v : Level) (known : List Literal) : Type 0 where
  pub ready : IsReady (without w.clauses.slots v.skip) (length known) known w.clauses.pairs
  pub listed : AreListed (without w.clauses.slots v.skip) w.clauses.pairs v.singles.now
  pub singles_true : AreTrue (without w.clauses.slots v.skip) v.singles.now (length v.singles.now) known
  pub negated : (l : Literal) → Contains (map negation v.lits.now) l → Contains known l
  pub following : AreFollowing (filled (without w.clauses.slots v.skip)) v.lits.now known
