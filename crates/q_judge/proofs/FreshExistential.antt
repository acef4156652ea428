-- An existential comes directly after another one.
use Rattle.std.proofs.Common.{◌≡◌, ◌≢◌, ℕ, ◌+◌, ◌<◌, ◌≤◌, Bool, true, false, cond, eqb, List, [], ◌∷◌, ◌++◌, Option, None, Some, get_or, set, length, refl, sym, ◌∙◌, ap, subst, inl, inr, arith, true≢false}
use Rattle.std.proofs.lemmas.Bool.Decides.{nat_tests}
use Rattle.std.proofs.lemmas.List.{get_or-set_same, get_or-set_other}
use Rattle.std.proofs.lemmas.Bool.{cases_eq, ne_eqb}
use Rattle.q_logic.specs.declared.formulas.Quant.{Quant}
use Rattle.q_logic.specs.declared.formulas.Quant.TheVariants.{Exists, Forall}
use Rattle.q_logic.specs.declared.formulas.Bound.{Bound}
use Rattle.q_logic.specs.Prelude.{Prefix, is_bound, is_existential, is_exists, same_quant, Distinct, insert_after}
use Rattle.q_logic.proofs.Common.{insert-distinct, existential-is_bound, is_bound-first, is_bound-later}
use Rattle.q_judge.specs.declared.bindings.Binding.{Binding}
use Rattle.q_judge.specs.Scopes.{binding_at, rank_at, rank_in, first_or, last_or, var_of, AreLinked, AreRanked, in_block, AreScoped, with_after, with_before, is_there}
use Rattle.q_judge.proofs.BoundPieces.{bound-cases, bound-left, bound-right, bound-either, few-below, IsSplit, split-at, inserted-split, distinct-apart, distinct-right}
use Rattle.q_judge.proofs.LinkedPrefixes.{linked-left, linked-right, linked-join, linked-same, linked-before}
use Rattle.q_judge.proofs.BlockRanks.{ranked-left, ranked-right, ranked-join, ranked-same, ranked-like, in_block-same, in_block-append, in_block-one}
use Rattle.q_judge.proofs.BlockMerge.{linked-room, in_block-few}
use Rattle.q_judge.proofs.VariableRemoval.{first-not, relinked, relinked-rank, relinked-some, relinked-after, relinked-before, after-is, not-outer, not-inner, counts-there}

existential-split : (A : Prefix) (b : Bound) (C : Prefix) (w : ℕ) → b.var ≡ w → is_bound A w ≡ false → is_existential (A ++ b ∷ C) w ≡ is_exists b.quant
existential-split [] b C w e h = let z : eqb b.var w ≡ true = grind (arith, nat_tests) in rw z refl
existential-split (a ∷ A) b C w e h = go (eqb a.var w) refl h (existential-split A b C w e)
  where
    go : (s : Bool) → eqb a.var w ≡ s → cond s true (is_bound A w) ≡ false → (is_bound A w ≡ false → is_existential (A ++ b ∷ C) w ≡ is_exists b.quant) → cond s (is_exists a.quant) (is_existential (A ++ b ∷ C) w) ≡ is_exists b.quant
    go true q k ih = absurd (true≢false k)
    go false q k ih = ih k

exists-is : (q : Quant) → is_exists q ≡ true → q ≡ Exists
exists-is Exists e = refl
exists-is Forall e = absurd (true≢false (sym e))

module _ (P : Prefix) (first : Option ℕ) (bindings : List (Option Binding)) (counts : List ℕ) (a : AreScoped P first bindings counts) (w v : ℕ) (absent : is_bound P v ≡ false) (there : is_existential P w ≡ true) (s : Binding) (e : binding_at bindings w ≡ Some s) where
  abbrev sp : IsSplit P w
  sp = split-at P w (existential-is_bound P w there)

  a' : AreScoped (sp.outer ++ sp.bound ∷ sp.inner) first bindings counts
  a' = subst (λ (Q : Prefix). AreScoped Q first bindings counts) sp.whole a

  e' : binding_at bindings sp.bound.var ≡ Some s
  e' = subst (λ (x : ℕ). binding_at bindings x ≡ Some s) (sym sp.var) e

  abbrev n : Bound
  n = record { quant = Exists; var = v }

  b-exists : sp.bound.quant ≡ Exists
  b-exists = exists-is sp.bound.quant (sym (existential-split sp.outer sp.bound sp.inner w sp.var sp.first) ∙ ap (λ (Q : Prefix). is_existential Q w) (sym sp.whole) ∙ there)

  come-whole : insert_after w v P ≡ sp.outer ++ sp.bound ∷ record { quant = Exists; var = v } ∷ sp.inner
  come-whole = ap (insert_after w v) sp.whole ∙ inserted-split sp.outer sp.bound sp.inner w v sp.var sp.first

  pub come-counts : s.rank < length counts
  come-counts = (counts-there sp.outer sp.bound sp.inner first bindings counts a' s e').1

  pub come-few : get_or counts s.rank 0 ≤ length bindings
  come-few =
      let x = in_block-few (rank_at bindings) s.rank P in
      let y = few-below (length bindings) P a.distinct (linked-room bindings P a.linked) in
      omega (arith, x, y, a.counted s.rank)

  other-var : (x : ℕ) → is_bound (sp.outer ++ sp.bound ∷ sp.inner) x ≡ true → x ≢ v
  other-var x h q = true≢false (sym h ∙ ap (λ (Q : Prefix). is_bound Q x) (sym sp.whole) ∙ ap (is_bound P) q ∙ absent)

  module _ (bindings' : List (Option Binding)) (other : (x : ℕ) → x ≢ v → binding_at bindings' x ≡ relinked (Some w) (Some v) s.after (Some v) x (binding_at bindings x)) (new : binding_at bindings' v ≡ Some (record { rank = s.rank; quant = Exists; before = Some w; after = s.after })) (counts' : List ℕ) (k : counts' ≡ set counts s.rank (get_or counts s.rank 0 + 1)) where
    in-outer : (x : ℕ) → is_bound sp.outer x ≡ true → is_bound (sp.outer ++ sp.bound ∷ sp.inner) x ≡ true
    in-outer x h = bound-left sp.outer (sp.bound ∷ sp.inner) x h

    in-inner : (x : ℕ) → is_bound sp.inner x ≡ true → is_bound (sp.outer ++ sp.bound ∷ sp.inner) x ≡ true
    in-inner x h = bound-right sp.outer (sp.bound ∷ sp.inner) x (is_bound-later sp.bound sp.inner x h)

    b-in : is_bound (sp.outer ++ sp.bound ∷ sp.inner) sp.bound.var ≡ true
    b-in = bound-right sp.outer (sp.bound ∷ sp.inner) sp.bound.var (is_bound-first sp.bound sp.inner)

    after-there : s.after ≡ first_or sp.inner None
    after-there = after-is sp.outer sp.bound sp.inner first bindings counts a' s e'

    -- w is no variable but its own
    at-w : (x : ℕ) → x ≢ sp.bound.var → is_there (Some w) x ≡ false
    at-w x h = ne_eqb w x (λ q. h (sym q ∙ sym sp.var))

    on-outer : (x : ℕ) → is_bound sp.outer x ≡ true → binding_at bindings' x ≡ binding_at bindings x
    on-outer x h =
        other x (other-var x (in-outer x h))
        ∙ relinked-after (Some w) (Some v) s.after (Some v) x (binding_at bindings x) (ap (λ (o : Option ℕ). is_there o x) after-there ∙ first-not sp.inner x (inner-free x h))
        ∙ ap (λ (t : Bool). cond t (with_after (Some v) (binding_at bindings x)) (binding_at bindings x)) (at-w x (λ q. true≢false (sym h ∙ ap (is_bound sp.outer) q ∙ not-outer sp.outer sp.bound sp.inner first bindings counts a' s e')))
      where
        inner-free : (x : ℕ) → is_bound sp.outer x ≡ true → is_bound sp.inner x ≡ false
        inner-free x h = go (is_bound sp.inner x) refl
          where
            go : (t : Bool) → is_bound sp.inner x ≡ t → t ≡ false
            go true q = absurd (true≢false (sym (is_bound-later sp.bound sp.inner x q) ∙ distinct-apart sp.outer (sp.bound ∷ sp.inner) a'.distinct x h))
            go false q = refl

    on-inner : (x : ℕ) → is_bound sp.inner x ≡ true → binding_at bindings' x ≡ cond (is_there (first_or sp.inner None) x) (with_before (var_of (Some n)) (binding_at bindings x)) (binding_at bindings x)
    on-inner x h =
        other x (other-var x (in-inner x h))
        ∙ relinked-before (Some w) (Some v) s.after (Some v) x (binding_at bindings x) (at-w x (λ q. true≢false (sym h ∙ ap (is_bound sp.inner) q ∙ not-inner sp.outer sp.bound sp.inner first bindings counts a' s e')))
        ∙ (λ j. cond (is_there (after-there j) x) (with_before (Some v) (binding_at bindings x)) (binding_at bindings x))

    on-b : binding_at bindings' sp.bound.var ≡ with_after (Some v) (binding_at bindings sp.bound.var)
    on-b =
        other sp.bound.var (other-var sp.bound.var b-in)
        ∙ relinked-after (Some w) (Some v) s.after (Some v) sp.bound.var (binding_at bindings sp.bound.var) (ap (λ (o : Option ℕ). is_there o sp.bound.var) after-there ∙ first-not sp.inner sp.bound.var (not-inner sp.outer sp.bound sp.inner first bindings counts a' s e'))
        ∙ ap (λ (t : Bool). cond t (with_after (Some v) (binding_at bindings sp.bound.var)) (binding_at bindings sp.bound.var)) (same w sp.bound.var (sym sp.var))
      where
        same : (x y : ℕ) → x ≡ y → eqb x y ≡ true
        same x y q = grind (arith, nat_tests)

    right : AreLinked (binding_at bindings) (last_or sp.outer None) (sp.bound ∷ sp.inner) None
    right = linked-right (binding_at bindings) None sp.outer (sp.bound ∷ sp.inner) None a'.linked

    come-linked : AreLinked (binding_at bindings') None (sp.outer ++ sp.bound ∷ n ∷ sp.inner) None
    come-linked =
        linked-join (binding_at bindings') None sp.outer (sp.bound ∷ n ∷ sp.inner) None
        (linked-same (binding_at bindings) (binding_at bindings') None sp.outer (Some sp.bound.var) on-outer (linked-left (binding_at bindings) None sp.outer (sp.bound ∷ sp.inner) None a'.linked)) (
          (let r = right.0 in record { binding = record { rank = r.binding.rank; quant = r.binding.quant; before = r.binding.before; after = Some v }; there = on-b ∙ ap (with_after (Some v)) r.there; quant = r.quant; before = r.before; after = refl }),
          (
            record { binding = record { rank = s.rank; quant = Exists; before = Some w; after = s.after }; there = new; quant = refl; before = ap (λ (x : ℕ). Some x) (sym sp.var); after = after-there },
            linked-before (binding_at bindings) (binding_at bindings') (Some sp.bound) (Some n) sp.inner None (distinct-right sp.outer (sp.bound ∷ sp.inner) a'.distinct).1 on-inner right.1,
          ),
        )

    ranks : (x : ℕ) → is_bound (sp.outer ++ sp.bound ∷ sp.inner) x ≡ true → rank_at bindings x ≡ rank_at bindings' x
    ranks x h = sym (ap rank_in (other x (other-var x h)) ∙ relinked-rank (Some w) (Some v) s.after (Some v) x (binding_at bindings x))

    new-rank : rank_at bindings' sp.bound.var ≡ rank_at bindings' v
    new-rank = sym (ranks sp.bound.var b-in) ∙ ap rank_in e' ∙ sym (ap rank_in new)

    come-ranked : AreRanked (rank_at bindings') None (sp.outer ++ sp.bound ∷ n ∷ sp.inner)
    come-ranked =
        let h = ranked-same (rank_at bindings) (rank_at bindings') None (sp.outer ++ sp.bound ∷ sp.inner) ranks (λ x q. none x q) a'.ranked in
        let r = ranked-right (rank_at bindings') None sp.outer (sp.bound ∷ sp.inner) h in
        ranked-join (rank_at bindings') None sp.outer (sp.bound ∷ n ∷ sp.inner) (ranked-left (rank_at bindings') None sp.outer (sp.bound ∷ sp.inner) h)
        (r.0, (inl (ap (λ (q : Quant). same_quant q Exists) b-exists, new-rank), ranked-like (rank_at bindings') sp.bound n sp.inner b-exists new-rank r.1))
      where
        none : (x : Bound) → None ≡ Some x → rank_at bindings x.var ≡ rank_at bindings' x.var
        none x q = cc

    come-only : (x : ℕ) (t : Binding) → binding_at bindings' x ≡ Some t → is_bound (sp.outer ++ sp.bound ∷ n ∷ sp.inner) x ≡ true
    come-only x t q = elim (cases_eq x v) [
      | inl z ↦ bound-right sp.outer (sp.bound ∷ n ∷ sp.inner) x (is_bound-later sp.bound (n ∷ sp.inner) x (subst (λ (y : ℕ). is_bound (n ∷ sp.inner) y ≡ true) (sym z) (is_bound-first n sp.inner)))
      | inr z ↦
          let r = relinked-some (Some w) (Some v) s.after (Some v) x (binding_at bindings x) t (sym (other x z) ∙ q) in
          elim (bound-either sp.outer (sp.bound ∷ sp.inner) x (a'.only x r.0 r.1)) [
            | inl h ↦ bound-left sp.outer (sp.bound ∷ n ∷ sp.inner) x h
            | inr h ↦ bound-right sp.outer (sp.bound ∷ n ∷ sp.inner) x (elim (bound-cases sp.bound sp.inner x h) [
              | inl y ↦ subst (λ (u : ℕ). is_bound (sp.bound ∷ n ∷ sp.inner) u ≡ true) y (is_bound-first sp.bound (n ∷ sp.inner))
              | inr y ↦ is_bound-later sp.bound (n ∷ sp.inner) x (is_bound-later n sp.inner x y.1)
            ])
          ]
    ]

    one-more : (r : ℕ) → in_block (rank_at bindings') r (sp.outer ++ sp.bound ∷ n ∷ sp.inner) ≡ in_block (rank_at bindings) r (sp.outer ++ sp.bound ∷ sp.inner) + cond (eqb s.rank r) 1 0
    one-more r =
        let x = in_block-append (rank_at bindings') r sp.outer (sp.bound ∷ n ∷ sp.inner) in
        let y = in_block-one (rank_at bindings') r sp.bound (n ∷ sp.inner) in
        let z = in_block-one (rank_at bindings') r n sp.inner in
        let u = in_block-same (rank_at bindings) (rank_at bindings') r (sp.outer ++ sp.bound ∷ sp.inner) ranks in
        let p = in_block-append (rank_at bindings') r sp.outer (sp.bound ∷ sp.inner) in
        let q = in_block-one (rank_at bindings') r sp.bound sp.inner in
        let t = ap (λ (m : ℕ). cond {A = ℕ} (eqb m r) 1 0) (ap rank_in new) in
        omega (arith, x, y, z, u, p, q, t)

    come-counted : (r : ℕ) → get_or counts' r 0 ≡ in_block (rank_at bindings') r (sp.outer ++ sp.bound ∷ n ∷ sp.inner)
    come-counted r = ap (λ (xs : List ℕ). get_or xs r 0) k ∙ elim (cases_eq r s.rank) [
      | inl z ↦
          let x = one-more s.rank in
          let q : eqb s.rank s.rank ≡ true = grind (arith, nat_tests) in
          let y = ap (λ (t : Bool). cond {A = ℕ} t 1 0) q in
          rw z (get_or-set_same counts s.rank (get_or counts s.rank 0 + 1) 0 come-counts ∙ omega (arith, x, y, a'.counted s.rank))
      | inr z ↦
          let x = one-more r in
          let q : eqb s.rank r ≡ false = ne_eqb s.rank r (λ p. z (sym p)) in
          let y = ap (λ (t : Bool). cond {A = ℕ} t 1 0) q in
          get_or-set_other counts s.rank r (get_or counts s.rank 0 + 1) 0 z ∙ omega (arith, x, y, a'.counted r)
    ]

    come-first : (B D : Prefix) (f : Option ℕ) → f ≡ first_or (B ++ sp.bound ∷ D) None → f ≡ first_or (B ++ sp.bound ∷ n ∷ D) None
    come-first [] D f h = h
    come-first (x ∷ B) D f h = h

    pub come-scoped : AreScoped (insert_after w v P) first bindings' counts'
    come-scoped = subst (λ (Q : Prefix). AreScoped Q first bindings' counts') (sym come-whole) (record {
      distinct = subst (λ (Q : Prefix). Distinct Q) come-whole (insert-distinct w v P absent a.distinct);
      first_is = come-first sp.outer sp.inner first a'.first_is;
      linked = come-linked;
      only = come-only;
      ranked = come-ranked;
      counted = come-counted;
    })

-- what the code does to the bindings where a variable comes
module _ (bindings bindings1 bindings2 : List (Option Binding)) (w v : ℕ) (s n : Binding) where
  pub linked-other : ((x : ℕ) → binding_at bindings1 x ≡ cond (is_there (Some w) x) (with_after (Some v) (binding_at bindings x)) (binding_at bindings x)) → ((x : ℕ) → binding_at bindings2 x ≡ cond (is_there s.after x) (with_before (Some v) (binding_at bindings1 x)) (binding_at bindings1 x)) → (x : ℕ) → x ≢ v → binding_at (set bindings2 v (Some n)) x ≡ relinked (Some w) (Some v) s.after (Some v) x (binding_at bindings x)
  linked-other h k x m = get_or-set_other bindings2 v x (Some n) None m ∙ k x ∙ (λ j. cond (is_there s.after x) (with_before (Some v) (h x j)) (h x j))

  pub linked-new : v < length bindings2 → binding_at (set bindings2 v (Some n)) v ≡ Some n
  linked-new h = get_or-set_same bindings2 v (Some n) None h
