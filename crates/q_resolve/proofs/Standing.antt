-- Which lines may stand by themselves.
use Rattle.std.proofs.Common.{List}
use Rattle.q_logic.specs.Prelude.{Literal, Matrix, IsIn, IsSubset, has}
use Rattle.q_derive.specs.Traces.{IsOneOf}
use Rattle.q_derive.specs.Testing.{every, some}
use Rattle.q_derive.proofs.Testing.{Decides, both, every-decides, some-decides, has-decides, hitting-decides}
use Rattle.q_resolve.specs.declared.leaves.Owner.{Owner}
use Rattle.q_resolve.specs.declared.leaves.Owner.TheVariants.{Exists, Forall}
use Rattle.q_resolve.specs.Leaves.{MayStand, may_stand, is_same, is_one_of}

pub one-of-decides : (X : Matrix) (T : List Literal) → Decides (is_one_of X T) (IsOneOf X T)
one-of-decides X T = (λ h. let r = d.0 h in (r.0, r.1, r.2.0, r.2.1), λ p. d.1 (p.0, p.1, (p.2, p.3)))
  where
    d : Decides (some (λ (D : List Literal). is_same D T) X) ((D : List Literal) × IsIn D X × (IsSubset D T × IsSubset T D))
    d =
        some-decides (λ (D : List Literal). is_same D T) (λ (D : List Literal). IsSubset D T × IsSubset T D) X
        (λ D. both (every (λ (k : Literal). has k T) D) (every (λ (k : Literal). has k D) T) (IsSubset D T) (IsSubset T D)
        (every-decides (λ (k : Literal). has k T) (λ (k : Literal). IsIn k T) D (λ k. has-decides k T))
        (every-decides (λ (k : Literal). has k D) (λ (k : Literal). IsIn k D) T (λ k. has-decides k D)))

pub may-decides : (o : Owner) (X : Matrix) (T : List Literal) → Decides (may_stand o X T) (MayStand o X T)
may-decides Exists X T = hitting-decides X T
may-decides Forall X T = one-of-decides X T
