-- What the tests of a line say of it.
use Rattle.std.proofs.Common.{◌≡◌, ℕ, ◌<◌, ◌≤◌, Bool, true, false, cond, not, ◌&&◌, nat_lt, zero, suc, List, [], ◌∷◌, ◌++◌, ◌⊎◌, inl, inr, length, get_or, arith, refl, sym, subst, Option, Some, None}
use Rattle.q_logic.specs.Prelude.{Literal, negation, Prefix, Matrix, IsIn, is_bound, is_existential, has, without}
use Rattle.q_logic.specs.Prefixes.{place}
use Rattle.q_logic.proofs.Common.{IsIn-append, without-IsIn}
use Rattle.q_logic.proofs.ImpliedClauses.{negation-negation}
use Rattle.q_derive.specs.Traces.{Entry, Parents, nothing, missing, single, double, IsParent, IsPivot, resolvent, MayMerge, IsLawful, MergesOnly, IsSource, IsKept, IsShed, IsLeaf, IsInner, AreBound}
use Rattle.q_derive.specs.Testing.{every, some}
use Rattle.q_derive.proofs.Testing.{Decides, both, either, neither, every-decides, some-decides, has-decides, below-decides}
use Rattle.q_extract.specs.Saying.{said_in}
use Rattle.q_extract.specs.declared.drops.Drops.{Drops}
use Rattle.q_extract.specs.declared.said.Sayings.{Sayings}
use Rattle.q_resolve.specs.Tests.{is_other, is_turning, is_after, is_anew}
use Rattle.q_resolve.specs.declared.leaves.Owner.{Owner}
use Rattle.q_resolve.specs.declared.fault.Fault.{Fault}
use Rattle.q_resolve.specs.declared.fault.Fault.TheVariants.{Unbound, Missing, NoLeaf, NoPivot, Merged, Lost, Shed}
use Rattle.q_resolve.specs.declared.finding.Found.TheVariants.{Single, Double}
use Rattle.q_resolve.specs.Faults.{HasParents, IsFault, IsLeastFault, number_of}
use Rattle.q_resolve.specs.Leaves.{MayStand}
use Rattle.q_resolve.specs.Reduced.{IsSame, IsReduction}
use Rattle.q_resolve.specs.Judged.{IsUsable, IsBad, IsTrial, IsWorst, later_of, line_at, IsSingleStep, IsDoubleStep, IsSingleJudged, IsDoubleJudged, IsLineJudged}

-- tests of one literal
other-decides : (P : Prefix) (T : List Literal) (k : Literal) → Decides (is_other P T k) (IsIn (negation k) T × (is_existential P k.var ≡ true))
other-decides P T k = both (has (negation k) T) (is_existential P k.var) (IsIn (negation k) T) (is_existential P k.var ≡ true)
    (has-decides (negation k) T) (λ h. h, λ h. h)

turning-decides : (P : Prefix) (T : List Literal) (k : Literal) → Decides (is_turning P T k) (IsIn (negation k) T × (is_existential P k.var ≡ false))
turning-decides P T k = both (has (negation k) T) (not (is_existential P k.var)) (IsIn (negation k) T) (is_existential P k.var ≡ false)
    (has-decides (negation k) T) (flipped (is_existential P k.var))
  where
    flipped : (b : Bool) → Decides (not b) (b ≡ false)
    flipped true = (λ h. absurd (cc), λ h. absurd (cc))
    flipped false = (λ h. refl, λ h. refl)

-- both signs of a variable of the owner
abbrev pub Meeting : Prefix → List Literal → List Literal → Type 0
Meeting P S U = (g : Literal) × (is_existential P g.var ≡ true) × IsIn g S × IsIn (negation g) U

meeting-decides : (P : Prefix) (S U : List Literal) → Decides (some (λ (k : Literal). is_other P U k) S) (Meeting P S U)
meeting-decides P S U =
    let d = some-decides (λ (k : Literal). is_other P U k) (λ (k : Literal). IsIn (negation k) U × (is_existential P k.var ≡ true)) S (other-decides P U) in
    (λ h. let r = d.0 h in (r.0, r.2.1, r.1, r.2.0), λ m. d.1 (m.0, m.2, (m.3, m.1)))

pub meeting-yes : (P : Prefix) (S U : List Literal) → some (λ (k : Literal). is_other P U k) S ≡ true → Meeting P S U
meeting-yes P S U e = (meeting-decides P S U).0 e

pub meeting-no : (P : Prefix) (S U : List Literal) → some (λ (k : Literal). is_other P U k) S ≡ false → Meeting P S U → ⊥
meeting-no P S U e m = let z : some (λ (k : Literal). is_other P U k) S ≡ true = (meeting-decides P S U).1 m in cc

-- pivots
pub pivot-yes : (P : Prefix) (S U : List Literal) (k : Literal) → is_turning P U k ≡ true → IsIn k S → IsPivot P S U k
pivot-yes P S U k e m = let r = (turning-decides P U k).0 e in (r.1, m, r.0)

pub pivot-no : (P : Prefix) (S U : List Literal) (k : Literal) → is_turning P U k ≡ false → IsPivot P S U k → ⊥
pivot-no P S U k e p = let z : is_turning P U k ≡ true = (turning-decides P U k).1 (p.2, p.0) in cc

-- a pivot that may merge
after-decides : (P : Prefix) (U : List Literal) (at : ℕ) (g : Literal) →
    Decides (is_after P U at g) ((IsIn (negation g) U × (is_existential P g.var ≡ true) → ⊥) ⊎ (at < place P g.var))
after-decides P U at g = either (not (is_other P U g)) (nat_lt at (place P g.var)) (IsIn (negation g) U × (is_existential P g.var ≡ true) → ⊥) (at < place P g.var)
    (neither (is_other P U g) (IsIn (negation g) U × (is_existential P g.var ≡ true)) (other-decides P U g)) (below-decides at (place P g.var))

merge-decides : (P : Prefix) (S U : List Literal) (k : Literal) → Decides (every (λ (g : Literal). is_after P U (place P k.var) g) S) (MayMerge P S U k)
merge-decides P S U k = (
  λ h g m n x. elim (d.0 h g m) [ inl f ↦ absurd (f (n, x)) | inr l ↦ l ],
  λ h. d.1 (λ g m. go h g m (is_other P U g) refl),
)
  where
    d : Decides (every (λ (g : Literal). is_after P U (place P k.var) g) S)
        ((g : Literal) → IsIn g S → (IsIn (negation g) U × (is_existential P g.var ≡ true) → ⊥) ⊎ (place P k.var < place P g.var))
    d = every-decides (λ (g : Literal). is_after P U (place P k.var) g)
        (λ (g : Literal). (IsIn (negation g) U × (is_existential P g.var ≡ true) → ⊥) ⊎ (place P k.var < place P g.var)) S
        (after-decides P U (place P k.var))

    go : MayMerge P S U k → (g : Literal) → IsIn g S → (b : Bool) → is_other P U g ≡ b →
        (IsIn (negation g) U × (is_existential P g.var ≡ true) → ⊥) ⊎ (place P k.var < place P g.var)
    go h g m true e = let r = (other-decides P U g).0 e in inr (h g m r.0 r.1)
    go h g m false e = inl (λ z. let y : is_other P U g ≡ true = (other-decides P U g).1 z in cc)

pub may-yes : (P : Prefix) (S U : List Literal) (k : Literal) → every (λ (g : Literal). is_after P U (place P k.var) g) S ≡ true → MayMerge P S U k
may-yes P S U k e = (merge-decides P S U k).0 e

pub may-no : (P : Prefix) (S U : List Literal) (k : Literal) → every (λ (g : Literal). is_after P U (place P k.var) g) S ≡ false → MayMerge P S U k → ⊥
may-no P S U k e m = let z : every (λ (g : Literal). is_after P U (place P k.var) g) S ≡ true = (merge-decides P S U k).1 m in cc

-- a line that merges nothing itself
anew-decides : (P : Prefix) (T R : List Literal) (k : Literal) →
    Decides (is_anew P T R k) ((IsIn (negation k) T × (is_existential P k.var ≡ true)) × (IsIn k R → ⊥))
anew-decides P T R k = both (is_other P T k) (not (has k R)) (IsIn (negation k) T × (is_existential P k.var ≡ true)) (IsIn k R → ⊥)
    (other-decides P T k) (neither (has k R) (IsIn k R) (has-decides k R))

pub anew-yes : (P : Prefix) (T R : List Literal) → some (λ (k : Literal). is_anew P T R k) T ≡ true → MergesOnly P R T → ⊥
anew-yes P T R e h =
    let r = (some-decides (λ (k : Literal). is_anew P T R k) (λ (k : Literal). (IsIn (negation k) T × (is_existential P k.var ≡ true)) × (IsIn k R → ⊥)) T (anew-decides P T R)).0 e in
    r.2.1 (h r.0 r.2.0.1 r.1 r.2.0.0).0

pub anew-no : (P : Prefix) (T R : List Literal) → some (λ (k : Literal). is_anew P T R k) T ≡ false → MergesOnly P R T
anew-no P T R e g x m n = (
  there g x m n,
  there (negation g) x n (subst (λ (k : Literal). IsIn k T) (sym (negation-negation g)) m),
)
  where
    there : (k : Literal) → is_existential P k.var ≡ true → IsIn k T → IsIn (negation k) T → IsIn k R
    there k x m n = go (has k R) refl
      where
        go : (b : Bool) → has k R ≡ b → IsIn k R
        go true q = (has-decides k R).0 q
        go false q = absurd (
            let z : some (λ (j : Literal). is_anew P T R j) T ≡ true =
            (some-decides (λ (j : Literal). is_anew P T R j) (λ (j : Literal). (IsIn (negation j) T × (is_existential P j.var ≡ true)) × (IsIn j R → ⊥)) T (anew-decides P T R)).1
            (k, m, ((n, x), λ i. let y : has k R ≡ true = (has-decides k R).1 i in cc)) in cc)

pub plain-merges : (P : Prefix) (T R : List Literal) → some (λ (k : Literal). is_other P T k) T ≡ false → MergesOnly P R T
plain-merges P T R e g x m n = absurd (meeting-no P T T e (g, x, m, n))

pub anew-none : (P : Prefix) (T R : List Literal) → some (λ (k : Literal). is_other P T k) T ≡ false → some (λ (k : Literal). is_anew P T R k) T ≡ false
anew-none P T R e = go (some (λ (k : Literal). is_anew P T R k) T) refl
  where
    go : (b : Bool) → some (λ (k : Literal). is_anew P T R k) T ≡ b → some (λ (k : Literal). is_anew P T R k) T ≡ false
    go true q = absurd (anew-yes P T R q (plain-merges P T R e))
    go false q = q

pub merges-same : (P : Prefix) (Q R T : List Literal) → ((k : Literal) → IsIn k R → IsIn k Q) → MergesOnly P R T → MergesOnly P Q T
merges-same P Q R T s h g x m n = let r = h g x m n in (s g r.0, s (negation g) r.1)

-- a resolvent with other repetitions
pub resolved-bound : (P : Prefix) (S U R : List Literal) (k : Literal) → AreBound P S → AreBound P U → IsSame (resolvent S U k) R → AreBound P R
resolved-bound P S U R k a b s j m = elim (IsIn-append j (without k S) (without (negation k) U) ((s j).0 m)) [
  | inl i ↦ a j (without-IsIn k S j i)
  | inr i ↦ b j (without-IsIn (negation k) U j i)
]

pub kept-same : (P : Prefix) (Q R T : List Literal) → ((k : Literal) → IsIn k R → IsIn k Q) → IsKept P Q T → IsKept P R T
kept-same P Q R T s h k m o = h k (s k m) o

pub shed-same : (P : Prefix) (Q R T : List Literal) → IsSame Q R → IsShed P R T → IsShed P Q T
shed-same P Q R T s h g m o = elim (h g ((s g).1 m) o) [
  | inl i ↦ inl i
  | inr f ↦ inr (λ k i p. f k ((s k).1 i) p)
]

pub turn-same : (Q R : List Literal) → IsSame Q R → IsSame R Q
turn-same Q R s k = ((s k).1, (s k).0)

pub trial-is : (P : Prefix) (S U R T : List Literal) (k : Literal) (f : Option Fault) → IsUsable P S U T k →
    IsSame (resolvent S U k) R → IsReduction P R T f → IsTrial P S U T k R f
trial-is P S U R T k None u s (a, b) = (
  u,
  kept-same P R (resolvent S U k) T (λ j. (s j).1) a,
  shed-same P (resolvent S U k) R T s b,
  s,
)
trial-is P S U R T k (Some Unbound) u s h = absurd h
trial-is P S U R T k (Some Missing) u s h = absurd h
trial-is P S U R T k (Some NoLeaf) u s h = absurd h
trial-is P S U R T k (Some NoPivot) u s h = absurd h
trial-is P S U R T k (Some Merged) u s h = absurd h
trial-is P S U R T k (Some Lost) u s a = ((k, u), λ v h. a (kept-same P (resolvent S U k) R T (λ j. (s j).0) h))
trial-is P S U R T k (Some Shed) u s (a, b) = (
  (k, u, kept-same P R (resolvent S U k) T (λ j. (s j).1) a),
  λ v w h. b (shed-same P R (resolvent S U k) T (turn-same (resolvent S U k) R s) h),
)

-- all pivots
one-more : (V : List Literal) (k j : Literal) → IsIn j (V ++ k ∷ []) → IsIn j V ⊎ (j ≡ k)
one-more V k j m = elim (IsIn-append j V (k ∷ []) m) [ inl i ↦ inl i | inr i ↦ elim i [ inl e ↦ inr e | inr n ↦ absurd n ] ]

-- who is bad by a fault is so by a later one
bad-more : (P : Prefix) (S U T : List Literal) (k : Literal) (f g : Fault) → number_of f ≤ number_of g → IsBad P S U T k f → IsBad P S U T k g
bad-more P S U T k Unbound g l b = absurd b
bad-more P S U T k Missing g l b = absurd b
bad-more P S U T k NoLeaf g l b = absurd b
bad-more P S U T k NoPivot Unbound l b = omega arith
bad-more P S U T k NoPivot Missing l b = omega arith
bad-more P S U T k NoPivot NoLeaf l b = omega arith
bad-more P S U T k NoPivot NoPivot l b = b
bad-more P S U T k NoPivot Merged l b = λ u. b u.0
bad-more P S U T k NoPivot Lost l b = λ u h. b u.0
bad-more P S U T k NoPivot Shed l b = λ u h s. b u.0
bad-more P S U T k Merged Unbound l b = omega arith
bad-more P S U T k Merged Missing l b = omega arith
bad-more P S U T k Merged NoLeaf l b = omega arith
bad-more P S U T k Merged NoPivot l b = absurd (omega arith)
bad-more P S U T k Merged Merged l b = b
bad-more P S U T k Merged Lost l b = λ u h. b u
bad-more P S U T k Merged Shed l b = λ u h s. b u
bad-more P S U T k Lost Unbound l b = omega arith
bad-more P S U T k Lost Missing l b = omega arith
bad-more P S U T k Lost NoLeaf l b = omega arith
bad-more P S U T k Lost NoPivot l b = absurd (omega arith)
bad-more P S U T k Lost Merged l b = absurd (omega arith)
bad-more P S U T k Lost Lost l b = b
bad-more P S U T k Lost Shed l b = λ u h s. b u h
bad-more P S U T k Shed Unbound l b = omega arith
bad-more P S U T k Shed Missing l b = omega arith
bad-more P S U T k Shed NoLeaf l b = omega arith
bad-more P S U T k Shed NoPivot l b = absurd (omega arith)
bad-more P S U T k Shed Merged l b = absurd (omega arith)
bad-more P S U T k Shed Lost l b = absurd (omega arith)
bad-more P S U T k Shed Shed l b = b

pub worst-start : (P : Prefix) (S U T : List Literal) → IsWorst P S U T [] NoPivot
worst-start P S U T = (tt, λ k m. absurd m)

pub worst-next : (P : Prefix) (S U T V R : List Literal) (k : Literal) (f g : Fault) → IsWorst P S U T V f →
    IsTrial P S U T k R (Some g) → IsWorst P S U T (V ++ k ∷ []) (later_of f g)
worst-next P S U T V R k f g w t = go (nat_lt (number_of f) (number_of g)) refl
  where
    go : (b : Bool) → nat_lt (number_of f) (number_of g) ≡ b → IsWorst P S U T (V ++ k ∷ []) (cond b g f)
    go true e =
        let l : number_of f < number_of g = (below-decides (number_of f) (number_of g)).0 e in (
          t.0,
          λ j m. elim (one-more V k j m) [
            | inl i ↦ bad-more P S U T j f g (omega arith) (w.1 j i)
            | inr q ↦ subst (λ (x : Literal). IsBad P S U T x g) (sym q) t.1
          ],
        )
    go false e =
        let l : number_of g ≤ number_of f = (let n : (number_of f < number_of g) → ⊥ = λ x. (let z : nat_lt (number_of f) (number_of g) ≡ true = (below-decides (number_of f) (number_of g)).1 x in cc) in grind arith) in (
          w.0,
          λ j m. elim (one-more V k j m) [
            | inl i ↦ w.1 j i
            | inr q ↦ subst (λ (x : Literal). IsBad P S U T x f) (sym q) (bad-more P S U T k g f l t.1)
          ],
        )

-- least faults
abbrev Any : List Literal → Type 0
Any S = Unit {0}

none-lower : (P : Prefix) (L : List Literal → Type 0) (from : Parents) (T : List Literal) → AreBound P T → HasParents from →
    (g : Fault) → number_of g < 7 → IsFault P L from T g → ⊥
none-lower P L from T b h Unbound l (k, m, e) = let z = b k m in cc
none-lower P L from T b h Missing l (e, n) = subst HasParents e h
none-lower P L from T b h NoLeaf l (e, n) = subst HasParents e h
none-lower P L from T b h NoPivot l f = omega arith
none-lower P L from T b h Merged l f = omega arith
none-lower P L from T b h Lost l f = omega arith
none-lower P L from T b h Shed l f = omega arith

pub lawful-parent : (P : Prefix) (from : Parents) (R : List Literal) → IsLawful P from R → IsParent P from R
lawful-parent P nothing R h = h
lawful-parent P missing R h = h
lawful-parent P (single S) R h = h
lawful-parent P (double S U) R (k, p, m, e) = (k, p, e)

pub least-unbound : (P : Prefix) (L : List Literal → Type 0) (from : Parents) (T : List Literal) (k : Literal) → IsIn k T →
    is_bound P k.var ≡ false → IsLeastFault P L from T Unbound
least-unbound P L from T k m e = record { there = (k, m, e); least = none }
  where
    none : (g : Fault) → number_of g < 4 → IsFault P L from T g → ⊥
    none Unbound l f = omega arith
    none Missing l f = omega arith
    none NoLeaf l f = omega arith
    none NoPivot l f = omega arith
    none Merged l f = omega arith
    none Lost l f = omega arith
    none Shed l f = omega arith

least-no_pivot : (P : Prefix) (L : List Literal → Type 0) (from : Parents) (T : List Literal) → AreBound P T → HasParents from →
    ((R : List Literal) → IsParent P from R → ⊥) → IsLeastFault P L from T NoPivot
least-no_pivot P L from T b h n = record { there = (h, n); least = none-lower P L from T b h }

least-merged : (P : Prefix) (L : List Literal → Type 0) (from : Parents) (T R : List Literal) → AreBound P T → HasParents from →
    IsParent P from R → ((S : List Literal) → IsSource P from T S → ⊥) → IsLeastFault P L from T Merged
least-merged P L from T R b h p n = record { there = (h, n); least = none }
  where
    none : (g : Fault) → number_of g < 9 → IsFault P L from T g → ⊥
    none Unbound l f = none-lower P L from T b h Unbound (omega arith) f
    none Missing l f = none-lower P L from T b h Missing (omega arith) f
    none NoLeaf l f = none-lower P L from T b h NoLeaf (omega arith) f
    none NoPivot l (x, f) = f R p
    none Merged l f = omega arith
    none Lost l f = omega arith
    none Shed l f = omega arith

least-lost : (P : Prefix) (L : List Literal → Type 0) (from : Parents) (T R : List Literal) → AreBound P T → HasParents from →
    IsSource P from T R → ((S : List Literal) → IsSource P from T S → IsKept P S T → ⊥) → IsLeastFault P L from T Lost
least-lost P L from T R b h p n = record { there = (h, n); least = none }
  where
    none : (g : Fault) → number_of g < 10 → IsFault P L from T g → ⊥
    none Unbound l f = none-lower P L from T b h Unbound (omega arith) f
    none Missing l f = none-lower P L from T b h Missing (omega arith) f
    none NoLeaf l f = none-lower P L from T b h NoLeaf (omega arith) f
    none NoPivot l (x, f) = f R (lawful-parent P from R p.0)
    none Merged l (x, f) = f R p
    none Lost l f = omega arith
    none Shed l f = omega arith

least-shed : (P : Prefix) (L : List Literal → Type 0) (from : Parents) (T R : List Literal) → AreBound P T → HasParents from →
    IsSource P from T R → IsKept P R T → ((S : List Literal) → IsSource P from T S → IsKept P S T → IsShed P S T → ⊥) → IsLeastFault P L from T Shed
least-shed P L from T R b h p k n = record { there = (h, n); least = none }
  where
    none : (g : Fault) → number_of g < 11 → IsFault P L from T g → ⊥
    none Unbound l f = none-lower P L from T b h Unbound (omega arith) f
    none Missing l f = none-lower P L from T b h Missing (omega arith) f
    none NoLeaf l f = none-lower P L from T b h NoLeaf (omega arith) f
    none NoPivot l (x, f) = f R (lawful-parent P from R p.0)
    none Merged l (x, f) = f R p
    none Lost l (x, f) = f R p k
    none Shed l f = omega arith

-- a line that follows from one
pub single-merged : (P : Prefix) (S T : List Literal) → AreBound P T → (MergesOnly P S T → ⊥) → IsLeastFault P Any (single S) T Merged
single-merged P S T b n = least-merged P Any (single S) T S b tt refl (λ R (e, m). n (subst (λ (V : List Literal). MergesOnly P V T) e m))

pub single-fault : (P : Prefix) (S T : List Literal) (f : Fault) → AreBound P T → MergesOnly P S T → IsReduction P S T (Some f) →
    IsLeastFault P Any (single S) T f
single-fault P S T Unbound b m h = absurd h
single-fault P S T Missing b m h = absurd h
single-fault P S T NoLeaf b m h = absurd h
single-fault P S T NoPivot b m h = absurd h
single-fault P S T Merged b m h = absurd h
single-fault P S T Lost b m n = least-lost P Any (single S) T S b tt (refl, m) (λ R (e, q) k. n (subst (λ (V : List Literal). IsKept P V T) e k))
single-fault P S T Shed b m (k, n) = least-shed P Any (single S) T S b tt (refl, m) k (λ R (e, q) w s. n (subst (λ (V : List Literal). IsShed P V T) e s))

-- a line that follows from two
pub double-fault : (P : Prefix) (S U T : List Literal) (f : Fault) → AreBound P T → IsWorst P S U T S f → IsLeastFault P Any (double S U) T f
double-fault P S U T Unbound b w = absurd w.0
double-fault P S U T Missing b w = absurd w.0
double-fault P S U T NoLeaf b w = absurd w.0
double-fault P S U T NoPivot b w = least-no_pivot P Any (double S U) T b tt (λ R (k, p, e). w.1 k p.1 p)
double-fault P S U T Merged b ((j, q), w) = least-merged P Any (double S U) T (resolvent S U j) b tt (j, q, refl)
    (λ R ((k, p, m, e), o). w k p.1 (p, m, subst (λ (V : List Literal). MergesOnly P V T) e o))
double-fault P S U T Lost b ((j, q), w) = least-lost P Any (double S U) T (resolvent S U j) b tt ((j, q.0, q.1, refl), q.2)
    (λ R ((k, p, m, e), o) h. w k p.1 (p, m, subst (λ (V : List Literal). MergesOnly P V T) e o) (subst (λ (V : List Literal). IsKept P V T) e h))
double-fault P S U T Shed b ((j, q, a), w) = least-shed P Any (double S U) T (resolvent S U j) b tt ((j, q.0, q.1, refl), q.2) a
    (λ R ((k, p, m, e), o) h s. w k p.1 (p, m, subst (λ (V : List Literal). MergesOnly P V T) e o) (subst (λ (V : List Literal). IsKept P V T) e h)
    (subst (λ (V : List Literal). IsShed P V T) e s))

-- any line
any-fault : (P : Prefix) (L M : List Literal → Type 0) (from : Parents) (T : List Literal) (g : Fault) → HasParents from →
    IsFault P L from T g → IsFault P M from T g
any-fault P L M from T Unbound h f = f
any-fault P L M from T Missing h (e, n) = absurd (subst HasParents e h)
any-fault P L M from T NoLeaf h (e, n) = absurd (subst HasParents e h)
any-fault P L M from T NoPivot h f = f
any-fault P L M from T Merged h f = f
any-fault P L M from T Lost h f = f
any-fault P L M from T Shed h f = f

any-least : (P : Prefix) (L M : List Literal → Type 0) (from : Parents) (T : List Literal) (g : Fault) → HasParents from →
    IsLeastFault P L from T g → IsLeastFault P M from T g
any-least P L M from T g h f = record {
  there = any-fault P L M from T g h f.there;
  least = λ x l n. f.least x l (any-fault P M L from T x h n);
}

pub line-single : (o : Owner) (P : Prefix) (X : Matrix) (es : List Entry) (n i : ℕ) (S T : List Literal) (old new : Drops) (s t : Sayings) (f : Option Fault) →
    line_at es i ≡ S → AreBound P T → IsSingleJudged o P S T (said_in s i) n old new s t f → IsLineJudged o P X es n (Single i) T old new s t f
line-single o P X es n i S T old new s t None e b h =
    let g : IsSingleStep o P (line_at es i) T (said_in s i) n old new s t = subst (λ (V : List Literal). IsSingleStep o P V T (said_in s i) n old new s t) (sym e) h in
    (b, (line_at es i, (refl, g.0), g.1, g.2), g)
line-single o P X es n i S T old new s t (Some f) e b h =
    subst (λ (V : List Literal). IsLeastFault P (MayStand o X) (single V) T f) (sym e) (any-least P Any (MayStand o X) (single S) T f tt h)

pub line-double : (o : Owner) (P : Prefix) (X : Matrix) (es : List Entry) (n i j : ℕ) (S U T : List Literal) (old new : Drops) (s t : Sayings) (f : Option Fault) →
    line_at es i ≡ S → line_at es j ≡ U → AreBound P T → IsDoubleJudged o P S U T (said_in s i) (said_in s j) n old new s t f →
    IsLineJudged o P X es n (Double i j) T old new s t f
line-double o P X es n i j S U T old new s t None e q b h =
    let g : IsDoubleStep o P (line_at es i) (line_at es j) T (said_in s i) (said_in s j) n old new s t =
    subst (λ (V : List Literal). IsDoubleStep o P V (line_at es j) T (said_in s i) (said_in s j) n old new s t) (sym e)
    (subst (λ (V : List Literal). IsDoubleStep o P S V T (said_in s i) (said_in s j) n old new s t) (sym q) h) in
    (b, stands g, g)
  where
    stands : IsDoubleStep o P (line_at es i) (line_at es j) T (said_in s i) (said_in s j) n old new s t → IsInner P (double (line_at es i) (line_at es j)) T
    stands (k, R, w, mid, y, z) = (resolvent (line_at es i) (line_at es j) k, ((k, w.0.0, w.0.1, refl), w.0.2), w.1, w.2)
line-double o P X es n i j S U T old new s t (Some f) e q b h =
    subst (λ (V : List Literal). IsLeastFault P (MayStand o X) (double V (line_at es j)) T f) (sym e)
    (subst (λ (V : List Literal). IsLeastFault P (MayStand o X) (double S V) T f) (sym q) (any-least P Any (MayStand o X) (double S U) T f tt h))

pub least-leaf : (P : Prefix) (L : List Literal → Type 0) (T : List Literal) → AreBound P T → (IsLeaf P L T → ⊥) →
    IsLeastFault P L nothing T NoLeaf
least-leaf P L T b n = record { there = (refl, n); least = none }
  where
    none : (g : Fault) → number_of g < 6 → IsFault P L nothing T g → ⊥
    none Unbound l (k, m, e) = let z = b k m in cc
    none Missing l (e, f) = absurd (cc)
    none NoLeaf l f = omega arith
    none NoPivot l f = omega arith
    none Merged l f = omega arith
    none Lost l f = omega arith
    none Shed l f = omega arith

pub least-gone : (P : Prefix) (L : List Literal → Type 0) (T : List Literal) → AreBound P T → (IsLeaf P L T → ⊥) →
    IsLeastFault P L missing T Missing
least-gone P L T b n = record { there = (refl, n); least = none }
  where
    none : (g : Fault) → number_of g < 5 → IsFault P L missing T g → ⊥
    none Unbound l (k, m, e) = let z = b k m in cc
    none Missing l f = omega arith
    none NoLeaf l f = omega arith
    none NoPivot l f = omega arith
    none Merged l f = omega arith
    none Lost l f = omega arith
    none Shed l f = omega arith

pub bound-yes : (P : Prefix) (T : List Literal) → every (λ (k : Literal). is_bound P k.var) T ≡ true → AreBound P T
bound-yes P T e = (every-decides (λ (k : Literal). is_bound P k.var) (λ (k : Literal). is_bound P k.var ≡ true) T (λ k. (λ h. h, λ h. h))).0 e

pub bound-no : (P : Prefix) (T : List Literal) → every (λ (k : Literal). is_bound P k.var) T ≡ false →
    (k : Literal) × IsIn k T × (is_bound P k.var ≡ false)
bound-no P [] e = absurd (cc)
bound-no P (k ∷ T) e = go (is_bound P k.var) refl e (bound-no P T)
  where
    go : (b : Bool) → is_bound P k.var ≡ b → b && every (λ (j : Literal). is_bound P j.var) T ≡ false →
        (every (λ (j : Literal). is_bound P j.var) T ≡ false → (j : Literal) × IsIn j T × (is_bound P j.var ≡ false)) →
        (j : Literal) × IsIn j (k ∷ T) × (is_bound P j.var ≡ false)
    go true q e ih = let r = ih e in (r.0, inr r.1, r.2)
    go false q e ih = (k, inl refl, q)

pub item-in : (xs : List Literal) (i : ℕ) (x : Literal) → i < length xs → x ≡ get_or xs i x → IsIn x xs
item-in [] i x h e = absurd (omega arith)
item-in (y ∷ xs) zero x h e = inl e
item-in (y ∷ xs) (suc i) x h e = inr (item-in xs i x (omega arith) e)
