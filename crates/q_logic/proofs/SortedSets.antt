-- Sorting and leaving out repetitions gives the set of the literals.
use Rattle.std.proofs.Common.{◌≡◌, ◌==◌, Bool, true, List, [], ◌∷◌, refl, arith, eq-eqb, nat_cmp, IsPermutation}
use Rattle.std.specs.declared.cmp.Ordering.{Ordering}
use Rattle.std.specs.declared.cmp.Ordering.TheVariants.{Less}
use Rattle.std.specs.Ordering.{eq_by_cmp}
use Rattle.std.specs.Cmp.{IsTotalOrder, IsEquivalence}
use Rattle.std.specs.List.{AllByRecursion, dedup}
use Rattle.std.specs.List.Sorted.{IsSorted, IsStrictlySortedBy}
use Rattle.std.proofs.lemmas.Cmp.{nat_cmp_total}
use Rattle.std.proofs.lemmas.List.Kept.{IsStrictlySortedBy-dedup, Contains-dedup, Contains-from_dedup}
use Rattle.std.proofs.lemmas.List.Sorted.{Contains-permutation, IsPermutation-sym}
use Rattle.std.proofs.lemmas.Bool.Decides.{nat_tests}
use Rattle.q_logic.specs.Prelude.{Literal, IsBelow, pack, ArePairs, clause_of}
use Rattle.q_logic.proofs.ClauseSets.{is_clause_of}
use Rattle.q_logic.proofs.Membership.{IsIn-Contains, Contains-IsIn}

abbrev literal_cmp : Literal → Literal → Ordering
literal_cmp k l = nat_cmp (pack k) (pack l)

abbrev same_literal : Literal → Literal → Bool
same_literal k l = pack k == pack l

literal_cmp-total : IsTotalOrder literal_cmp
literal_cmp-total = record {
  antisymm = λ x y. nat_cmp_total.antisymm (pack x) (pack y);
  trans = λ x y z. nat_cmp_total.trans (pack x) (pack y) (pack z);
  congr = λ x y z. nat_cmp_total.congr (pack x) (pack y) (pack z);
}

less-below : (k l : Literal) → literal_cmp k l ≡ Less → IsBelow k l
less-below k l e = grind (arith, nat_tests)

all-below : (k : Literal) (ls : List Literal) → AllByRecursion (λ l. literal_cmp k l ≡ Less) ls →
    AllByRecursion (IsBelow k) ls
all-below k [] h = tt
all-below k (l ∷ ls) h = (less-below k l h.0, all-below k ls h.1)

strict-pairs : (ls : List Literal) → IsStrictlySortedBy literal_cmp ls → ArePairs IsBelow ls
unfolding IsStrictlySortedBy
strict-pairs [] h = tt
strict-pairs (l ∷ ls) h = (all-below l ls h.0, strict-pairs ls h.1)

same_literal-cmp : (x y : Literal) → same_literal x y ≡ eq_by_cmp literal_cmp x y
same_literal-cmp x y = grind (arith, nat_tests)

same_literal-sound : (x y : Literal) → same_literal x y ≡ true → x ≡ y
same_literal-sound x y e = grind (arith, nat_tests)

same_literal-equivalence : IsEquivalence same_literal
same_literal-equivalence = record {
  refl = λ x. eq-eqb (pack x) (pack x) refl;
  symm = λ x y. grind (arith, nat_tests);
  congr = λ x y z e. grind (arith, nat_tests);
}

pub dedup-sorted : (old sorted : List Literal) → IsPermutation old sorted → IsSorted literal_cmp sorted →
    dedup same_literal sorted ≡ clause_of old
dedup-sorted old sorted p s =
    is_clause_of (dedup same_literal sorted) old (strict-pairs (dedup same_literal sorted)
    (IsStrictlySortedBy-dedup literal_cmp-total same_literal-cmp sorted s))
    (λ l h. Contains-IsIn l old (Contains-permutation sorted old l (IsPermutation-sym old sorted p)
    (Contains-from_dedup same_literal sorted l (IsIn-Contains l (dedup same_literal sorted) h))))
    (λ l h. Contains-IsIn l (dedup same_literal sorted)
    (Contains-dedup same_literal-equivalence same_literal-sound sorted l
    (Contains-permutation old sorted l p (IsIn-Contains l old h))))
