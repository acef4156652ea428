-- A search of a group that finds nothing finds none of the theory's targets of that group.
use Rattle.std.proofs.Common.{◌≡◌, ◌≤◌, ◌<◌, ◌+◌, ◌⊎◌, ◌∙◌, inl, inr, ℕ, Option, Some, None, refl, sym, ap, subst, arith}
use Rattle.std.proofs.lemmas.Bool.Decides.{nat_tests}
use Rattle.q_logic.specs.declared.rule_bounds.Bounds.{Bounds}
use Rattle.q_logic.specs.Prelude.{Target, tautology, unit, cut, pure, subsumed, strengthen, merge, blocked, blocked_forall, cover, eliminate, expand_universal, place}
use Rattle.q_kernel.specs.Prelude.{Seen, Applies}
use Rattle.q_rule.specs.Searching.{Finds}
use Rattle.q_reduce.specs.declared.target.Target.{Target as TheReduce}
use Rattle.q_reduce.specs.declared.target.Target.TheVariants as plain_target
use Rattle.q_reduce.specs.Targets as plain
use Rattle.q_subsume.specs.declared.target.Target.{Target as TheSubsume}
use Rattle.q_subsume.specs.declared.target.Target.TheVariants as subsume_target
use Rattle.q_subsume.specs.Targets as subsume
use Rattle.q_equiv.specs.declared.target.Target.{Target as TheMerge}
use Rattle.q_equiv.specs.declared.target.Target.TheVariants as equiv_target
use Rattle.q_equiv.specs.Targets as equiv
use Rattle.q_blocked.specs.declared.target.Target.{Target as TheBlock}
use Rattle.q_blocked.specs.declared.target.Target.TheVariants as blocked_target
use Rattle.q_blocked.specs.Targets as blocked
use Rattle.q_eliminate.specs.declared.target.Target.{Target as TheEliminate}
use Rattle.q_eliminate.specs.declared.target.Target.TheVariants as eliminate_target
use Rattle.q_eliminate.specs.Targets as eliminate
use Rattle.q_expand.specs.declared.target.Target.{Target as TheExpand}
use Rattle.q_expand.specs.declared.target.Target.TheVariants as expand_target
use Rattle.q_expand.specs.Targets as expand
use Rattle.q_sched.specs.declared.moves.Group.{Group}
use Rattle.q_sched.specs.declared.moves.Group.TheVariants as group
use Rattle.q_sched.specs.declared.moves.Move.{Move}
use Rattle.q_sched.specs.declared.moves.Move.TheVariants as move
use Rattle.q_sched.specs.Moves.{rank, rank_of, target_of, IsOf}
use Rattle.std.specs.Prelude.{if◌then◌else◌, ◌==◌}
use Rattle.std.specs.Option.{MatchOption, IsSomeAnd}
use Rattle.q_sched.specs.Searching.{FindsOf, NoneBelow}

-- the group at a place of the order
abbrev group_at : ℕ → Group
group_at n = if n == 0 then group.Reduce else (if n == 1 then group.Subsume else (if n == 2 then group.Merge else (if n == 3 then group.Block else (if n == 4 then group.Eliminate else group.Expand))))

group_at-rank : (r : Group) → group_at (rank r) ≡ r
group_at-rank group.Reduce = refl
group_at-rank group.Subsume = refl
group_at-rank group.Merge = refl
group_at-rank group.Block = refl
group_at-rank group.Eliminate = refl
group_at-rank group.Expand = refl

-- no target of a group whose place is at least a number applies
abbrev NoneOf : Group → Bounds → Seen → ℕ → Type 0
NoneOf group.Reduce B k from = (s : TheReduce) → from ≤ place (plain.target_of s) → Applies B k (plain.target_of s) → ⊥
NoneOf group.Subsume B k from = (s : TheSubsume) → from ≤ place (subsume.target_of s) → Applies B k (subsume.target_of s) → ⊥
NoneOf group.Merge B k from = (s : TheMerge) → from ≤ place (equiv.target_of s) → Applies B k (equiv.target_of s) → ⊥
NoneOf group.Block B k from = (s : TheBlock) → from ≤ place (blocked.target_of s) → Applies B k (blocked.target_of s) → ⊥
NoneOf group.Eliminate B k from = (s : TheEliminate) → from ≤ place (eliminate.target_of s) → Applies B k (eliminate.target_of s) → ⊥
NoneOf group.Expand B k from = (s : TheExpand) → from ≤ place (expand.target_of s) → Applies B k (expand.target_of s) → ⊥

none-own : (B : Bounds) (k : Seen) (from : ℕ) (t : Target) → NoneOf (group_at (rank_of t)) B k from → from ≤ place t → Applies B k t → ⊥
none-own B k from (tautology c) h p a = h (plain_target.Tautology c) p a
none-own B k from (unit c) h p a = h (plain_target.Unit c) p a
none-own B k from (cut c l) h p a = h (plain_target.Cut c l) p a
none-own B k from (pure l) h p a = h (plain_target.Pure l) p a
none-own B k from (subsumed c d) h p a = h (subsume_target.Subsumed c d) p a
none-own B k from (strengthen c d l) h p a = h (subsume_target.Strengthen c d l) p a
none-own B k from (merge keep gone) h p a = h (equiv_target.Merge keep gone) p a
none-own B k from (blocked c l) h p a = h (blocked_target.Blocked c l) p a
none-own B k from (blocked_forall c l) h p a = h (blocked_target.BlockedForall c l) p a
none-own B k from (cover c) h p a = h (blocked_target.Cover c) p a
none-own B k from (eliminate x) h p a = h (eliminate_target.Eliminate x) p a
none-own B k from (expand_universal u) h p a = h (expand_target.Expand u) p a

pub none-of : (r : Group) (B : Bounds) (k : Seen) (from : ℕ) → NoneOf r B k from → (t : Target) → IsOf r t → from ≤ place t → Applies B k t → ⊥
none-of r B k from h t i p a =
    none-own B k from t (subst (λ (x : Group). NoneOf x B k from) (sym (ap group_at i ∙ group_at-rank r)) h) p a

-- each target of the code is one of its group's
of-plain : (t : TheReduce) → IsOf group.Reduce (plain.target_of t)
of-plain (plain_target.Tautology a) = refl
of-plain (plain_target.Unit a) = refl
of-plain (plain_target.Cut a b) = refl
of-plain (plain_target.Pure a) = refl

of-subsume : (t : TheSubsume) → IsOf group.Subsume (subsume.target_of t)
of-subsume (subsume_target.Subsumed a b) = refl
of-subsume (subsume_target.Strengthen a b c) = refl

of-equiv : (t : TheMerge) → IsOf group.Merge (equiv.target_of t)
of-equiv (equiv_target.Merge a b) = refl

pub of-blocked : (t : TheBlock) → IsOf group.Block (blocked.target_of t)
of-blocked (blocked_target.Blocked a b) = refl
of-blocked (blocked_target.BlockedForall a b) = refl
of-blocked (blocked_target.Cover a) = refl

of-eliminate : (t : TheEliminate) → IsOf group.Eliminate (eliminate.target_of t)
of-eliminate (eliminate_target.Eliminate a) = refl

of-expand : (t : TheExpand) → IsOf group.Expand (expand.target_of t)
of-expand (expand_target.Expand a) = refl

pub none-more : (B : Bounds) (k : Seen) (n : ℕ) (r : Group) (from : ℕ) → rank r ≡ n → from ≤ 0 → NoneBelow B k n → ((t : Target) → IsOf r t → from ≤ place t → Applies B k t → ⊥) → NoneBelow B k (n + 1)
none-more B k n r from e z h i t less a = elim (two (rank_of t) n less) [
  | inl b ↦ h t b a
  | inr b ↦ i t (b ∙ sym e) (omega arith) a
]
  where
    two : (x n : ℕ) → x < n + 1 → (x < n) ⊎ (x ≡ n)
    two x n h = grind (arith, nat_tests)

-- what the search of a group has found, as a target of all rules
found : {T : Type 0} (target : T → Target) (as_move : T → Move) (r : Group) (B : Bounds) (k : Seen) (from : ℕ) (o : Option T) (p : Option Move) → ((s : T) → target_of (as_move s) ≡ target s) → ((s : T) → IsOf r (target s)) → (((s : T) → from ≤ place (target s) → Applies B k (target s) → ⊥) → NoneOf r B k from) → MatchOption o (p ≡ None) (λ s. IsSomeAnd p (λ m. m ≡ as_move s)) → Finds target B k from o → FindsOf r B k from p
found target as_move r B k from None p is of none e f = record {
  some = λ m i. absurd (let z : None ≡ Some m = sym e ∙ i in cc);
  none = λ i. none-of r B k from (none (f.none refl));
}
found target as_move r B k from (Some s) None is of none e f = absurd e
found target as_move r B k from (Some s) (Some n) is of none e f = record {
  some = λ m i.
      let q : as_move s ≡ m = cc in
      subst (λ (x : Move). IsOf r (target_of x) × (from ≤ place (target_of x)) × Applies B k (target_of x)) q
      (subst (λ (t : Target). IsOf r t × (from ≤ place t) × Applies B k t) (sym (is s)) (of s, (f.some s refl).1, (f.some s refl).0));
  none = λ i. absurd (let z : Some n ≡ None = i in cc);
}

pub found-plain : (B : Bounds) (k : Seen) (from : ℕ) (o : Option TheReduce) (p : Option Move) → MatchOption o (p ≡ None) (λ s. IsSomeAnd p (λ m. m ≡ move.Reduce s)) → Finds plain.target_of B k from o → FindsOf group.Reduce B k from p
found-plain B k from o p e f = found plain.target_of move.Reduce group.Reduce B k from o p (λ s. refl) of-plain (λ h. h) e f

pub found-subsume : (B : Bounds) (k : Seen) (from : ℕ) (o : Option TheSubsume) (p : Option Move) → MatchOption o (p ≡ None) (λ s. IsSomeAnd p (λ m. m ≡ move.Subsume s)) → Finds subsume.target_of B k from o → FindsOf group.Subsume B k from p
found-subsume B k from o p e f = found subsume.target_of move.Subsume group.Subsume B k from o p (λ s. refl) of-subsume (λ h. h) e f

pub found-equiv : (B : Bounds) (k : Seen) (from : ℕ) (o : Option TheMerge) (p : Option Move) → MatchOption o (p ≡ None) (λ s. IsSomeAnd p (λ m. m ≡ move.Merge s)) → Finds equiv.target_of B k from o → FindsOf group.Merge B k from p
found-equiv B k from o p e f = found equiv.target_of move.Merge group.Merge B k from o p (λ s. refl) of-equiv (λ h. h) e f

pub found-blocked : (B : Bounds) (k : Seen) (from : ℕ) (o : Option TheBlock) (p : Option Move) → MatchOption o (p ≡ None) (λ s. IsSomeAnd p (λ m. m ≡ move.Block s)) → Finds blocked.target_of B k from o → FindsOf group.Block B k from p
found-blocked B k from o p e f = found blocked.target_of move.Block group.Block B k from o p (λ s. refl) of-blocked (λ h. h) e f

pub found-eliminate : (B : Bounds) (k : Seen) (from : ℕ) (o : Option TheEliminate) (p : Option Move) → MatchOption o (p ≡ None) (λ s. IsSomeAnd p (λ m. m ≡ move.Eliminate s)) → Finds eliminate.target_of B k from o → FindsOf group.Eliminate B k from p
found-eliminate B k from o p e f = found eliminate.target_of move.Eliminate group.Eliminate B k from o p (λ s. refl) of-eliminate (λ h. h) e f

pub found-expand : (B : Bounds) (k : Seen) (from : ℕ) (o : Option TheExpand) (p : Option Move) → MatchOption o (p ≡ None) (λ s. IsSomeAnd p (λ m. m ≡ move.Expand s)) → Finds expand.target_of B k from o → FindsOf group.Expand B k from p
found-expand B k from o p e f = found expand.target_of move.Expand group.Expand B k from o p (λ s. refl) of-expand (λ h. h) e f

pub finds-same : (r s : Group) (B : Bounds) (k : Seen) (from : ℕ) (p q : Option Move) → r ≡ s → p ≡ q → FindsOf s B k from q → FindsOf r B k from p
finds-same r s B k from p q i e h = subst (λ (x : Group). FindsOf x B k from p) (sym i) (subst (λ (x : Option Move). FindsOf s B k from x) (sym e) h)
