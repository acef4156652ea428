-- Two blocks that meet become one.
use Rattle.std.proofs.Common.{◌≡◌, ◌≢◌, ℕ, ◌≤◌, ◌<◌, List, [], ◌∷◌, length, Option, Some, refl, sym, ◌∙◌, subst, inl, inr, arith}
use Rattle.std.specs.Prelude.{reverse}
use Rattle.std.proofs.lemmas.Bool.{cases_eq}
use Rattle.q_arena.specs.Prelude.{Has, AreApart, Chains, list_at, following}
use Rattle.q_arena.proofs.RingLemmas.{Has-without}
use Rattle.q_prefix.specs.declared.marks.Mark.{Mark}
use Rattle.q_prefix.specs.Order.{IsRanked, rank_of, bound_of, bounds_of, IsParted}
use Rattle.q_prefix.specs.Blocks.{onward, block_from}
use Rattle.q_prefix.proofs.PrefixRanks.{rank-rises, renamed, renamed-at, renamed-off}
use Rattle.q_prefix.proofs.ListedBounds.{binds-has}
use Rattle.q_prefix.proofs.PrefixChanges.{ranked-tail}
use Rattle.q_arena.proofs.ListNeighbours.{following-has, followed-has}
use Rattle.q_prefix.proofs.ListDirections.{AreOrdered, has-reverse, ordered-without, ordered-reverse, preceding-reverse, following-preceding, meet-beside}
use Rattle.q_prefix.proofs.NewRanks.{front-rank, covered}

rises : (marks : List Mark) (vars : List ℕ) → IsRanked (rank_of marks) (bounds_of marks vars) → AreOrdered (λ u v. rank_of marks u ≤ rank_of marks v) vars
rises marks [] r = tt
rises marks (u ∷ us) r = (
  λ v h. rank-rises (rank_of marks) (bound_of marks u) (bounds_of marks us) v r (binds-has marks us v h),
  rises marks us (ranked-tail (rank_of marks) (bound_of marks u) (bounds_of marks us) r),
)

-- a block that is renamed whole
renamed-whole : (rank now : ℕ → ℕ) (block : List ℕ) (from to v : ℕ) → (Has block v → rank v ≡ from) → (rank v ≡ from → Has block v)
    → (Has block v → now v ≡ to) → ((Has block v → ⊥) → now v ≡ rank v) → now v ≡ renamed from to (rank v)
renamed-whole rank now block from to v f g b o = elim (cases_eq (rank v) from) [
  | inl e ↦ b (g e) ∙ sym (renamed-at from to (rank v) e)
  | inr n ↦ o (λ h. n (f h)) ∙ sym (renamed-off from to (rank v) n)
]

module _ (order : Chains) (marks : List Mark) (before after : Option ℕ) (p : IsParted order marks before after) (x y : ℕ) (e : before ≡ Some x) (g : after ≡ Some y) where
  meets : following x (list_at order 0) ≡ Some y
  meets = rw p.left (meet-beside p.vars p.gone x y p.apart (sym p.before_is ∙ e) (sym p.after_is ∙ g))

  pub before-in : Has (list_at order 0) x
  before-in = followed-has x y (list_at order 0) meets

  pub after-in : Has (list_at order 0) y
  after-in = following-has x y (list_at order 0) meets

  pub vars-within : (v : ℕ) → Has (list_at order 0) v → v < length marks
  vars-within v h = p.within v (Has-without p.gone v p.vars (subst (λ (vars : List ℕ). Has vars v) p.left h))

  ordered : AreOrdered (λ u v. rank_of marks u ≤ rank_of marks v) (list_at order 0)
  ordered = rw p.left (ordered-without (λ u v. rank_of marks u ≤ rank_of marks v) p.gone p.vars (rises marks p.vars p.ranked))

  module _ (now : ℕ → ℕ) (apart : rank_of marks x ≢ rank_of marks y) where
    pub renamed-on : ((v : ℕ) → Has (block_from (rank_of marks) y (list_at order 0)) v → now v ≡ rank_of marks x)
        → ((v : ℕ) → (Has (block_from (rank_of marks) y (list_at order 0)) v → ⊥) → now v ≡ rank_of marks v)
        → (v : ℕ) → Has (list_at order 0) v → now v ≡ renamed (rank_of marks y) (rank_of marks x) (rank_of marks v)
    renamed-on b o v h =
        let rank = rank_of marks in
        renamed-whole rank now (block_from rank y (list_at order 0)) (rank y) (rank x) v (front-rank rank (rank y) (onward y (list_at order 0)) v)
        (covered rank (λ u w. rank u ≤ rank w) (rank y) (λ u v w a b c d. omega arith) (list_at order 0) x y v ordered meets apart refl h) (b v) (o v)

    pub renamed-back : AreApart (list_at order 0) → ((v : ℕ) → Has (block_from (rank_of marks) x (reverse (list_at order 0))) v → now v ≡ rank_of marks y)
        → ((v : ℕ) → (Has (block_from (rank_of marks) x (reverse (list_at order 0))) v → ⊥) → now v ≡ rank_of marks v)
        → (v : ℕ) → Has (list_at order 0) v → now v ≡ renamed (rank_of marks x) (rank_of marks y) (rank_of marks v)
    renamed-back a b o v h =
        let rank = rank_of marks in
        let back : following y (reverse (list_at order 0)) ≡ Some x = sym (preceding-reverse (list_at order 0) y a after-in) ∙ following-preceding (list_at order 0) x y a meets in
        renamed-whole rank now (block_from rank x (reverse (list_at order 0))) (rank x) (rank y) v (front-rank rank (rank x) (onward x (reverse (list_at order 0))) v)
        (covered rank (λ u w. rank w ≤ rank u) (rank x) (λ u v w a b c d. omega arith) (reverse (list_at order 0)) y x v (ordered-reverse (λ u v. rank u ≤ rank v) (list_at order 0) ordered) back (λ q. apart (sym q)) refl (has-reverse (list_at order 0) v h)) (b v) (o v)
