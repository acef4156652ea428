-- Both literals of a variable may go, or neither.
use Rattle.std.proofs.Common.{◌≡◌, ◌≤◌, ℕ, Bool, true, false, not, List, refl, sym, ◌∙◌, ap, subst, inl, inr, arith}
use Rattle.q_logic.specs.Prelude.{Literal, negation, Matrix, Prefix, IsIn, Binary, Joined, Mergeable, merge, place, Fits, live, greatest, standard, IsInLimits}
use Rattle.q_logic.specs.declared.rule_bounds.Bounds.{Bounds}
use Rattle.q_logic.proofs.Common.{existential-is_bound, is_bound-greatest, negation-negation}
use Rattle.q_kernel.specs.Prelude.{Seen, slots, formula_in, Applies}
use Rattle.q_equiv.proofs.BridgeClauses.{merge-applies}
use Rattle.q_equiv.specs.Walks.{level_of, NeverRise, IsGathered}
use Rattle.q_equiv.proofs.BinaryWalks.{joined-level}
use Rattle.q_equiv.specs.declared.target.Target.{Target}
use Rattle.q_equiv.specs.declared.target.Target.TheVariants.{Merge}
use Rattle.q_equiv.specs.Targets.{target_of, keep_of, gone_of}
use Rattle.q_equiv.specs.Changing.{CanStandFor}
use Rattle.q_logic.proofs.ClosureSearch.{joined-further}

binary-turned : (X : Matrix) (x y : Literal) → Binary X x y → Binary X (negation y) (negation x)
binary-turned X x y h = record {
  clause = h.clause;
  there = h.there;
  two = λ e. h.two (sym (sym (negation-negation y) ∙ e));
  first = subst (λ (z : Literal). IsIn z h.clause) (sym (negation-negation y)) h.second;
  second = h.first;
  only = λ k m. elim (h.only k m) [ inl e ↦ inr e | inr e ↦ inl (e ∙ sym (negation-negation y)) ];
}

pub joined-turned : (X : Matrix) (q p : Literal) → Joined X q p → Joined X (negation p) (negation q)
joined-turned X q p Joined.here = Joined.here
joined-turned X q p (Joined.on {y = y} w h j) = joined-further X (negation y) (negation p) (negation q) (joined-turned X q y j) (binary-turned X p y h)

pub merge-turned : (P : Prefix) (X : Matrix) (keep gone : Literal) → Mergeable P X keep gone → Mergeable P X (negation keep) (negation gone)
merge-turned P X keep gone h = record { different = h.different; existential = h.existential; kept_outer = h.kept_outer; to_gone = joined-turned X keep gone h.to_keep; to_keep = joined-turned X gone keep h.to_gone }

-- A target of this crate is a merge.
pub target-merge : (t : Target) → target_of t ≡ merge (keep_of t) (gone_of t)
target-merge (Merge keep gone) = refl

pub merge-target : (t : Target) (k g : Literal) → k ≡ keep_of t → g ≡ gone_of t → merge k g ≡ target_of t
merge-target (Merge keep gone) k g e f = ap (λ (x : Literal). merge x g) e ∙ ap (merge keep) f

-- Where the positive literal of a variable may not go, no literal of it may.
pub none-at : (k : Seen) (v : ℕ) (gone : Literal) → gone ≡ record { var = v; negative = false } → ((keep : Literal) → Mergeable k.prefix (live (slots k)) keep gone → ⊥) → (t : Target) → place (target_of t) ≡ v → (B : Bounds) → Fits B k.prefix (slots k) (target_of t) → ⊥
none-at k v gone e h (Merge keep g) p B f = go g.negative refl
  where
    go : (b : Bool) → g.negative ≡ b → ⊥
    go false q =
        let s : g ≡ gone = (λ i. record { var = p i; negative = q i }) ∙ sym e in
        h keep (subst (λ (x : Literal). Mergeable k.prefix (live (slots k)) keep x) s f)
    go true q =
        let n : negation g ≡ gone = (λ i. record { var = p i; negative = ap not q i }) ∙ sym e in
        h (negation keep) (subst (λ (x : Literal). Mergeable k.prefix (live (slots k)) (negation keep) x) n (merge-turned k.prefix (live (slots k)) keep g f))

-- The variable of a target is in the prefix.
pub place-bound : (k : Seen) (t : Target) (B : Bounds) → Fits B k.prefix (slots k) (target_of t) → place (target_of t) ≤ greatest k.prefix
place-bound k (Merge keep gone) B f = is_bound-greatest k.prefix gone.var (existential-is_bound k.prefix gone.var f.existential)

pub target-applies : (B : Bounds) (k : Seen) (t : Target) → IsInLimits standard (formula_in k) → Fits B k.prefix (slots k) (target_of t) → Applies B k (target_of t)
target-applies B k (Merge keep gone) h f = merge-applies B k keep gone h f

-- Where the negation of gone leads to that of keep, keep leads to gone.
pub back-way : (X : Matrix) (keep gone : Literal) → Joined X (negation keep) (negation gone) → Joined X gone keep
back-way X keep gone j = subst (λ (x : Literal). Joined X x keep) (negation-negation gone) (subst (λ (x : Literal). Joined X (negation (negation gone)) x) (negation-negation keep) (joined-turned X (negation keep) (negation gone) j))

-- What may take the place of gone was gathered both ways.
pub both-gathered : (levels : List ℕ) (P : Prefix) (X : Matrix) (keep gone : Literal) (there back : List Literal) → NeverRise levels X → IsGathered levels X gone there → IsGathered levels X (negation gone) back → Mergeable P X keep gone → IsIn keep there × IsIn (negation keep) back
both-gathered levels P X keep gone there back f g h m = (
  g.all_there f keep (level keep gone m.to_keep m.to_gone) m.to_keep,
  h.all_there f (negation keep) (level (negation keep) (negation gone) (joined-turned X gone keep m.to_gone) (joined-turned X keep gone m.to_keep)) (joined-turned X gone keep m.to_gone),
)
  where
    level : (x y : Literal) → Joined X x y → Joined X y x → level_of levels x ≡ level_of levels y
    level x y i j = let a = joined-level levels X x y f i in let b = joined-level levels X y x f j in omega arith

-- Where gone leads to keep, the two may be merged exactly where the negation of gone leads to that of keep.
pub turned-mergeable : (P : Prefix) (X : Matrix) (keep gone : Literal) → CanStandFor P keep gone → Joined X keep gone → (Joined X (negation keep) (negation gone) → Mergeable P X keep gone) × (Mergeable P X keep gone → Joined X (negation keep) (negation gone))
turned-mergeable P X keep gone s j = (
  λ t. record { different = s.different; existential = s.existential; kept_outer = s.kept_outer; to_gone = back-way X keep gone t; to_keep = j },
  λ m. joined-turned X gone keep m.to_gone,
)
