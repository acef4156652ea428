-- Which lines may stand by themselves: terms that hit all clauses, or clauses of the formula.
use Rattle.std.specs.Prelude.{Bool, ◌&&◌, List}
use Rattle.q_logic.specs.Prelude.{Literal, Matrix, has, Prefix}
use Rattle.q_logic.specs.Exchanging.{exchanged}
use Rattle.q_derive.specs.Derivations.{IsHitting}
use Rattle.q_derive.specs.Testing.{every, some, is_hitting}
use Rattle.q_derive.specs.Traces.{IsOneOf}
use Rattle.q_resolve.specs.declared.leaves.Owner.{Owner}
use Rattle.q_resolve.specs.declared.leaves.Owner.TheVariants.{Exists, Forall}

-- whether both lists have the same literals
abbrev pub is_same : List Literal → List Literal → Bool
is_same D T = every (λ (k : Literal). has k T) D && every (λ (k : Literal). has k D) T

-- whether the literals are those of some clause
abbrev pub is_one_of : Matrix → List Literal → Bool
is_one_of X T = some (λ (D : List Literal). is_same D T) X

abbrev pub may_stand : Owner → Matrix → List Literal → Bool
may_stand Exists X T = is_hitting X T
may_stand Forall X T = is_one_of X T

-- the same as a statement
abbrev pub MayStand : Owner → Matrix → List Literal → Type 0
MayStand Exists X T = IsHitting X T
MayStand Forall X T = IsOneOf X T

-- the prefix in which the owner's variables are the existentials
abbrev pub prefix_for : Owner → Prefix → Prefix
prefix_for Exists P = P
prefix_for Forall P = exchanged P
