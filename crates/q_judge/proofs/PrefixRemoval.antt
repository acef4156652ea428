-- A prefix that is scoped, without one of its variables.
use Rattle.std.proofs.Common.{◌≡◌, ◌≢◌, ◌⊎◌, ℕ, zero, suc, cond, ◌-◌, ◌<◌, ◌^◌, true, false, List, [], ◌∷◌, ◌++◌, Option, None, Some, get_or, set, length, refl, sym, ◌∙◌, ap, subst, inl, inr}
use Rattle.std.proofs.lemmas.List.{get_or-set_same, get_or-set_other}
use Rattle.q_logic.specs.declared.formulas.Bound.{Bound}
use Rattle.q_logic.specs.Prelude.{Prefix, is_bound, removed_from}
use Rattle.q_judge.specs.declared.bindings.Binding.{Binding}
use Rattle.q_judge.specs.Scopes.{binding_at, is_there, with_after, with_before, rank_in, rank_at, first_or, last_or, var_of, AreLinked, AreRanked, in_block, AreScoped, first_after, bounds_from, IsMovable, IsMoved}
use Rattle.q_judge.proofs.BoundPieces.{IsSplit, split-at, removed-split, few-below}
use Rattle.q_judge.proofs.LinkedPrefixes.{linked-bounds, linked-same}
use Rattle.q_judge.proofs.BlockRanks.{ranked-same, in_block-same}
use Rattle.q_judge.proofs.BlockMerge.{linked-room, IsMeeting, movable-low, movable-high, moved}
use Rattle.q_judge.proofs.VariableRemoval.{relinked, IsLeft, before-is, after-is, counts-there, is-left, left-stays, left-end, left-meets}

-- a scoped prefix is what its links tell
pub scoped-bounds : (P : Prefix) (first : Option ℕ) (bindings : List (Option Binding)) (counts : List ℕ) → AreScoped P first bindings counts → bounds_from bindings first (length bindings) ≡ P
scoped-bounds P first bindings counts a = ap (λ (f : Option ℕ). bounds_from bindings f (length bindings)) a.first_is ∙ linked-bounds bindings None P (length bindings) a.linked (few-below (length bindings) P a.distinct (linked-room bindings P a.linked))

pub scoped-view : (P : Prefix) (first : Option ℕ) (bindings : List (Option Binding)) (counts : List ℕ) → AreScoped P first bindings counts → AreScoped (bounds_from bindings first (length bindings)) first bindings counts
scoped-view P first bindings counts a = subst (λ (Q : Prefix). AreScoped Q first bindings counts) (sym (scoped-bounds P first bindings counts a)) a

-- longer rows of bindings and counts tell the same
pub scoped-longer : (P : Prefix) (first : Option ℕ) (bindings bindings' : List (Option Binding)) (counts : List ℕ) → AreScoped P first bindings counts → ((v : ℕ) → binding_at bindings' v ≡ binding_at bindings v) → AreScoped P first bindings' counts
scoped-longer P first bindings bindings' counts a s = record {
  distinct = a.distinct;
  first_is = a.first_is;
  linked = linked-same (binding_at bindings) (binding_at bindings') None P None (λ v i. s v) a.linked;
  only = λ v t e. a.only v t (sym (s v) ∙ e);
  ranked = ranked-same (rank_at bindings) (rank_at bindings') None P (λ v i. ranks v) (λ b e. ranks b.var) a.ranked;
  counted = λ r. a.counted r ∙ in_block-same (rank_at bindings) (rank_at bindings') r P (λ v i. ranks v);
}
  where
    ranks : (v : ℕ) → rank_at bindings v ≡ rank_at bindings' v
    ranks v = ap rank_in (sym (s v))

module _ (P : Prefix) (first : Option ℕ) (bindings : List (Option Binding)) (counts : List ℕ) (a : AreScoped P first bindings counts) (v : ℕ) (s : Binding) (e : binding_at bindings v ≡ Some s) where
  sp : IsSplit P v
  sp = split-at P v (a.only v s e)

  a' : AreScoped (sp.outer ++ sp.bound ∷ sp.inner) first bindings counts
  a' = subst (λ (Q : Prefix). AreScoped Q first bindings counts) sp.whole a

  e' : binding_at bindings sp.bound.var ≡ Some s
  e' = subst (λ (w : ℕ). binding_at bindings w ≡ Some s) (sym sp.var) e

  pub gone-counts : (0 < get_or counts s.rank 0) × (s.rank < length counts)
  gone-counts = counts-there sp.outer sp.bound sp.inner first bindings counts a' s e'

  whole : removed_from v P ≡ sp.outer ++ sp.inner
  whole = ap (removed_from v) sp.whole ∙ removed-split sp.outer sp.bound sp.inner v sp.var sp.first

  module _ (bindings' : List (Option Binding)) (other : (w : ℕ) → w ≢ v → binding_at bindings' w ≡ relinked s.before s.after s.after s.before w (binding_at bindings w)) (gone : binding_at bindings' v ≡ None) (first' : Option ℕ) (counts' : List ℕ) (f : first' ≡ first_after s.before s.after first) (k : counts' ≡ set counts s.rank (get_or counts s.rank 0 - 1)) where
    other' : (w : ℕ) → w ≢ sp.bound.var → binding_at bindings' w ≡ relinked s.before s.after s.after s.before w (binding_at bindings w)
    other' w n = other w (λ q. n (q ∙ sym sp.var))

    gone' : binding_at bindings' sp.bound.var ≡ None
    gone' = subst (λ (w : ℕ). binding_at bindings' w ≡ None) (sym sp.var) gone

    l : IsLeft sp.outer sp.bound sp.inner first' bindings bindings' counts'
    l = is-left sp.outer sp.bound sp.inner first bindings counts a' s e' bindings' other' gone' first' counts' f k

    back : (bindings'' : List (Option Binding)) (counts'' : List ℕ) → AreScoped (sp.outer ++ sp.inner) first' bindings'' counts'' → AreScoped (removed_from v P) first' bindings'' counts''
    back bindings'' counts'' b = subst (λ (Q : Prefix). AreScoped Q first' bindings'' counts'') (sym whole) b

    pub gone-stays : get_or counts' s.rank 0 ≢ 0 → AreScoped (removed_from v P) first' bindings' counts'
    gone-stays n = back bindings' counts' (left-stays sp.outer sp.bound sp.inner first bindings counts a' s e' bindings' other' gone' first' counts' l n)

    pub gone-end : (s.before ≡ None) ⊎ (s.after ≡ None) → AreScoped (removed_from v P) first' bindings' counts'
    gone-end n = back bindings' counts' (left-end sp.outer sp.bound sp.inner first bindings counts a' s e' bindings' other' gone' first' counts' l n)

    module _ (z : get_or counts' s.rank 0 ≡ 0) (x y : ℕ) (p : s.before ≡ Some x) (q : s.after ≡ Some y) where
      outer-end : (o : Option Bound) → var_of o ≡ Some x → (b : Bound) × (o ≡ Some b) × (b.var ≡ x)
      outer-end None h = cc
      outer-end (Some b) h = (b, refl, same b.var x h)
        where
          same : (m n : ℕ) → Some m ≡ Some n → m ≡ n
          same m n h = cc

      inner-end : (C : Prefix) → first_or C None ≡ Some y → (c : Bound) × (D : Prefix) × (C ≡ c ∷ D) × (c.var ≡ y)
      inner-end [] h = cc
      inner-end (c ∷ D) h = (c, D, refl, same c.var y h)
        where
          same : (m n : ℕ) → Some m ≡ Some n → m ≡ n
          same m n h = cc

      o : (b : Bound) × (last_or sp.outer None ≡ Some b) × (b.var ≡ x)
      o = outer-end (last_or sp.outer None) (sym (before-is sp.outer sp.bound sp.inner first bindings counts a' s e') ∙ p)

      i : (c : Bound) × (D : Prefix) × (sp.inner ≡ c ∷ D) × (c.var ≡ y)
      i = inner-end sp.inner (sym (after-is sp.outer sp.bound sp.inner first bindings counts a' s e') ∙ q)

      m : IsMeeting sp.outer o.0 i.0 i.1 bindings' counts'
      m = left-meets sp.outer sp.bound sp.inner first bindings counts a' s e' bindings' other' gone' first' counts' l z o.0 i.0 i.1 o.1 i.2

      pub gone-low : length bindings' < 2 ^ 63 → IsMovable bindings' counts' s.before (rank_at bindings' x) (rank_at bindings' y) false
      gone-low small =
          subst (λ (b : Option ℕ). IsMovable bindings' counts' b (rank_at bindings' x) (rank_at bindings' y) false) (sym p)
          (subst (λ (n : ℕ). IsMovable bindings' counts' (Some n) (rank_at bindings' n) (rank_at bindings' y) false) o.2
          (subst (λ (n : ℕ). IsMovable bindings' counts' (Some o.0.var) (rank_at bindings' o.0.var) (rank_at bindings' n) false) i.3
          (movable-low sp.outer o.0 i.0 i.1 bindings' counts' m small)))

      pub gone-high : length bindings' < 2 ^ 63 → IsMovable bindings' counts' s.after (rank_at bindings' y) (rank_at bindings' x) true
      gone-high small =
          subst (λ (b : Option ℕ). IsMovable bindings' counts' b (rank_at bindings' y) (rank_at bindings' x) true) (sym q)
          (subst (λ (n : ℕ). IsMovable bindings' counts' (Some n) (rank_at bindings' n) (rank_at bindings' x) true) i.3
          (subst (λ (n : ℕ). IsMovable bindings' counts' (Some i.0.var) (rank_at bindings' i.0.var) (rank_at bindings' n) true) o.2
          (movable-high sp.outer o.0 i.0 i.1 bindings' counts' m small)))

      pub gone-moved : (bindings'' : List (Option Binding)) (counts'' : List ℕ) → IsMoved bindings' counts' (rank_at bindings' x) (rank_at bindings' y) bindings'' counts'' ⊎ IsMoved bindings' counts' (rank_at bindings' y) (rank_at bindings' x) bindings'' counts'' → AreScoped (removed_from v P) first' bindings'' counts''
      gone-moved bindings'' counts'' w = back bindings'' counts'' (record {
        distinct = l.distinct;
        first_is = l.first_is;
        linked = subst (λ (E : Prefix). AreLinked (binding_at bindings'') None (sp.outer ++ E) None) (sym i.2) r.linked;
        only = λ u t h. subst (λ (E : Prefix). is_bound (sp.outer ++ E) u ≡ true) (sym i.2) (r.only u t h);
        ranked = subst (λ (E : Prefix). AreRanked (rank_at bindings'') None (sp.outer ++ E)) (sym i.2) r.ranked;
        counted = λ u. subst (λ (E : Prefix). get_or counts'' u 0 ≡ in_block (rank_at bindings'') u (sp.outer ++ E)) (sym i.2) (r.counted u);
      })
        where
          there : (rank_at bindings' x ≡ rank_at bindings' o.0.var) × (rank_at bindings' y ≡ rank_at bindings' i.0.var)
          there = (ap (rank_at bindings') (sym o.2), ap (rank_at bindings') (sym i.3))

          r : AreScoped (sp.outer ++ i.0 ∷ i.1) (first_or (sp.outer ++ i.0 ∷ i.1) None) bindings'' counts''
          r = elim w [
            | inl h ↦ moved sp.outer o.0 i.0 i.1 bindings' counts' m (rank_at bindings' x) (rank_at bindings' y) bindings'' counts'' (inl there) h
            | inr h ↦ moved sp.outer o.0 i.0 i.1 bindings' counts' m (rank_at bindings' y) (rank_at bindings' x) bindings'' counts'' (inr (there.1, there.0)) h
          ]

    -- the blocks beside it have become one, where both are there
    pub gone-joined : get_or counts' s.rank 0 ≡ 0 → (bindings'' : List (Option Binding)) (counts'' : List ℕ) → ((s.before ≡ None) ⊎ (s.after ≡ None) → (bindings'' ≡ bindings') × (counts'' ≡ counts')) → ((x y : ℕ) → s.before ≡ Some x → s.after ≡ Some y → IsMoved bindings' counts' (rank_at bindings' x) (rank_at bindings' y) bindings'' counts'' ⊎ IsMoved bindings' counts' (rank_at bindings' y) (rank_at bindings' x) bindings'' counts'') → AreScoped (removed_from v P) first' bindings'' counts''
    gone-joined z bindings'' counts'' ends joined = go s.before s.after refl refl
      where
        same : (s.before ≡ None) ⊎ (s.after ≡ None) → AreScoped (removed_from v P) first' bindings'' counts''
        same h = let e = ends h in subst (λ (xs : List (Option Binding)). AreScoped (removed_from v P) first' xs counts'') (sym e.0) (subst (λ (xs : List ℕ). AreScoped (removed_from v P) first' bindings' xs) (sym e.1) (gone-end h))

        go : (b c : Option ℕ) → s.before ≡ b → s.after ≡ c → AreScoped (removed_from v P) first' bindings'' counts''
        go None c p q = same (inl p)
        go (Some x) None p q = same (inr q)
        go (Some x) (Some y) p q = gone-moved z x y p q bindings'' counts'' (joined x y p q)

-- what the code does to the bindings where a variable leaves
module _ (bindings bindings1 bindings2 : List (Option Binding)) (v : ℕ) (s : Binding) where
  pub unlinked-other : ((w : ℕ) → binding_at bindings1 w ≡ cond (is_there s.before w) (with_after s.after (binding_at bindings w)) (binding_at bindings w)) → ((w : ℕ) → binding_at bindings2 w ≡ cond (is_there s.after w) (with_before s.before (binding_at bindings1 w)) (binding_at bindings1 w)) → (w : ℕ) → w ≢ v → binding_at (set bindings2 v None) w ≡ relinked s.before s.after s.after s.before w (binding_at bindings w)
  unlinked-other h k w n = get_or-set_other bindings2 v w None None n ∙ k w ∙ (λ j. cond (is_there s.after w) (with_before s.before (h w j)) (h w j))

  pub unlinked-gone : binding_at (set bindings2 v None) v ≡ None
  unlinked-gone = go bindings2 v
    where
      go : (xs : List (Option Binding)) (n : ℕ) → get_or (set xs n None) n None ≡ None
      go [] n = refl
      go (x ∷ xs) zero = refl
      go (x ∷ xs) (suc n) = go xs n

pub count-down : (counts counts' : List ℕ) (r : ℕ) → r < length counts → counts' ≡ set counts r (get_or counts r 0 - 1) → get_or counts' r 0 ≡ get_or counts r 0 - 1
count-down counts counts' r h e = ap (λ (xs : List ℕ). get_or xs r 0) e ∙ get_or-set_same counts r (get_or counts r 0 - 1) 0 h
