-- Variables that are scoped one after the other, in the order of the prefix.
use Rattle.std.proofs.Common.{◌≡◌, ◌≢◌, ◌⊎◌, ℕ, zero, suc, ◌+◌, ◌<◌, ◌≤◌, Bool, true, false, cond, eqb, List, [], ◌∷◌, ◌++◌, Option, None, Some, slice_get, get_or, set, take, drop, length, refl, sym, ◌∙◌, ap, subst, inl, inr, arith, true≢false}
use Rattle.std.proofs.lemmas.Bool.Decides.{nat_tests}
use Rattle.std.proofs.lemmas.List.{length-set, get_or-set_same, get_or-set_other}
use Rattle.std.proofs.lemmas.Bool.{cases_eq, ne_eqb}
use Rattle.q_logic.specs.declared.formulas.Quant.{Quant}
use Rattle.q_logic.specs.declared.formulas.Bound.{Bound}
use Rattle.q_logic.specs.Prelude.{Prefix, is_bound, Distinct, same_quant}
use Rattle.q_logic.proofs.Common.{is_bound-first}
use Rattle.q_judge.specs.declared.bindings.Binding.{Binding}
use Rattle.q_judge.specs.Scopes.{binding_at, rank_at, rank_in, first_or, last_or, var_of, AreLinked, AreRanked, next_rank, IsNumbered, in_block, AreNumbered}
use Rattle.q_judge.proofs.BoundPieces.{bound-left, bound-right, distinct-apart, last-append}
use Rattle.q_judge.proofs.LinkedPrefixes.{linked-join, linked-same}
use Rattle.q_judge.proofs.BlockMerge.{in_block-few}
use Rattle.q_judge.proofs.BlockRanks.{numbered-ranked, in_block-same, in_block-append, in_block-one}

-- the variables of A are scoped, and those of C are to come
pub record IsScoping (A C : Prefix) (room kinds : ℕ) (bindings : List (Option Binding)) (counts : List ℕ) (last : Option Bound) (rank : ℕ) : Type 0 where
  pub long : length bindings ≡ room
  pub wide : length counts ≡ kinds
  pub last_is : last ≡ last_or A None
  pub linked : AreLinked (binding_at bindings) None A (first_or C None)
  pub only : (v : ℕ) (s : Binding) → binding_at bindings v ≡ Some s → is_bound A v ≡ true
  pub numbered : (f : ℕ → ℕ) → ((v : ℕ) → is_bound A v ≡ true → f v ≡ rank_at bindings v) → IsNumbered f last rank C → IsNumbered f None 0 (A ++ C)
  pub counted : (r : ℕ) → get_or counts r 0 ≡ in_block (rank_at bindings) r A
  pub low : ((last ≡ None) × (rank ≡ 0)) ⊎ (rank < length A)

length-one : (A : Prefix) (b : Bound) → length (A ++ b ∷ []) ≡ suc (length A)
length-one [] b = refl
length-one (a ∷ A) b = ap suc (length-one A b)

append-one : (A : Prefix) (b : Bound) (D : Prefix) → (A ++ b ∷ []) ++ D ≡ A ++ b ∷ D
append-one [] b D = refl
append-one (a ∷ A) b D = ap (λ (P : Prefix). a ∷ P) (append-one A b D)

append-nil : (A : Prefix) → A ++ [] ≡ A
append-nil [] = refl
append-nil (a ∷ A) = ap (λ (P : Prefix). a ∷ P) (append-nil A)

next-low : (last : Option Bound) (rank i : ℕ) (q : Quant) → ((last ≡ None) × (rank ≡ 0)) ⊎ (rank < i) → next_rank last rank q ≤ i
next-low None rank i q (inl e) = let z : rank ≡ 0 = e.1 in omega arith
next-low None rank i q (inr h) = omega arith
next-low (Some p) rank i q (inl e) = let z : Some p ≡ None = e.0 in absurd (cc)
next-low (Some p) rank i q (inr h) = go (same_quant p.quant q)
  where
    go : (s : Bool) → cond s rank (rank + 1) ≤ i
    go true = omega arith
    go false = omega arith

pub scoping-begun : (P : Prefix) (bindings : List (Option Binding)) (counts : List ℕ) → ((v : ℕ) → binding_at bindings v ≡ None) → ((r : ℕ) → get_or counts r 0 ≡ 0) → IsScoping [] P (length bindings) (length counts) bindings counts None 0
scoping-begun P bindings counts h z = record {
  long = refl;
  wide = refl;
  last_is = refl;
  linked = tt;
  only = λ v s e. absurd (none_some s (sym (h v) ∙ e));
  numbered = λ f a n. n;
  counted = z;
  low = inl (refl, refl);
}
  where
    none_some : (s : Binding) → None ≡ Some s → ⊥
    none_some s q = cc

module _ (A : Prefix) (b : Bound) (D : Prefix) (d : Distinct (A ++ b ∷ D)) (room kinds : ℕ) (bindings : List (Option Binding)) (counts : List ℕ) (last : Option Bound) (rank : ℕ) (h : IsScoping A (b ∷ D) room kinds bindings counts last rank) where
  pub scoping-low : next_rank last rank b.quant ≤ length A
  scoping-low = next-low last rank (length A) b.quant h.low

  pub scoping-few : (r : ℕ) → get_or counts r 0 ≤ length A
  scoping-few r = let x = in_block-few (rank_at bindings) r A in let y = h.counted r in omega (arith, x, y)

  -- the next variable takes its binding
  pub scoping-taken : b.var < room → next_rank last rank b.quant < kinds →
      IsScoping (A ++ b ∷ []) D room kinds (set bindings b.var (Some (record { rank = next_rank last rank b.quant; quant = b.quant; before = var_of last; after = first_or D None }))) (set counts (next_rank last rank b.quant) (get_or counts (next_rank last rank b.quant) 0 + 1)) (Some b) (next_rank last rank b.quant)
  scoping-taken in_room in_kinds = record {
    long = length-set bindings b.var (Some s) ∙ h.long;
    wide = length-set counts m (get_or counts m 0 + 1) ∙ h.wide;
    last_is = sym (last-append A (b ∷ []) None);
    linked = linked-join (binding_at bindings') None A (b ∷ []) (first_or D None) (linked-same (binding_at bindings) (binding_at bindings') None A (Some b.var) (λ v i. other v (apart v i)) h.linked) (record { binding = s; there = here; quant = refl; before = ap var_of h.last_is; after = refl }, tt);
    only = only;
    numbered = λ f a n. subst (λ (P : Prefix). IsNumbered f None 0 P) (sym (append-one A b D)) (h.numbered f (λ v i. a v (bound-left A (b ∷ []) v i) ∙ ap rank_in (other v (apart v i))) (a b.var (bound-right A (b ∷ []) b.var (is_bound-first b [])) ∙ ap rank_in here, n));
    counted = counted;
    low = inr (let z : m ≤ length A = next-low last rank (length A) b.quant h.low in let y = length-one A b in omega (arith, z, y));
  }
    where
      m : ℕ
      m = next_rank last rank b.quant

      s : Binding
      s = record { rank = next_rank last rank b.quant; quant = b.quant; before = var_of last; after = first_or D None }

      bindings' : List (Option Binding)
      bindings' = set bindings b.var (Some (record { rank = next_rank last rank b.quant; quant = b.quant; before = var_of last; after = first_or D None }))

      here : binding_at bindings' b.var ≡ Some s
      here = get_or-set_same bindings b.var (Some s) None (subst (λ (n : ℕ). b.var < n) (sym h.long) in_room)

      other : (v : ℕ) → v ≢ b.var → binding_at bindings' v ≡ binding_at bindings v
      other v n = get_or-set_other bindings b.var v (Some s) None n

      apart : (v : ℕ) → is_bound A v ≡ true → v ≢ b.var
      apart v i e = true≢false (sym (is_bound-first b D) ∙ ap (is_bound (b ∷ D)) (sym e) ∙ distinct-apart A (b ∷ D) d v i)

      only : (v : ℕ) (t : Binding) → binding_at bindings' v ≡ Some t → is_bound (A ++ b ∷ []) v ≡ true
      only v t e = elim (cases_eq v b.var) [
        | inl z ↦ bound-right A (b ∷ []) v (subst (λ (w : ℕ). is_bound (b ∷ []) w ≡ true) (sym z) (is_bound-first b []))
        | inr z ↦ bound-left A (b ∷ []) v (h.only v t (sym (other v z) ∙ e))
      ]

      one-more : (r : ℕ) → in_block (rank_at bindings') r (A ++ b ∷ []) ≡ in_block (rank_at bindings) r A + cond (eqb m r) 1 0
      one-more r =
          let x = in_block-append (rank_at bindings') r A (b ∷ []) in
          let y = in_block-one (rank_at bindings') r b [] in
          let z = in_block-same (rank_at bindings) (rank_at bindings') r A (λ v i. sym (ap rank_in (other v (apart v i)))) in
          let t = ap (λ (n : ℕ). cond {A = ℕ} (eqb n r) 1 0) (ap rank_in here) in
          omega (arith, x, y, z, t)

      counted : (r : ℕ) → get_or (set counts m (get_or counts m 0 + 1)) r 0 ≡ in_block (rank_at bindings') r (A ++ b ∷ [])
      counted r = elim (cases_eq r m) [
        | inl z ↦
            let x = one-more m in
            let q : eqb m m ≡ true = same m in
            let y = ap (λ (t : Bool). cond {A = ℕ} t 1 0) q in
            rw z (get_or-set_same counts m (get_or counts m 0 + 1) 0 (subst (λ (n : ℕ). m < n) (sym h.wide) in_kinds) ∙ omega (arith, x, y, h.counted m))
        | inr z ↦
            let x = one-more r in
            let q : eqb m r ≡ false = ne_eqb m r (λ p. z (sym p)) in
            let y = ap (λ (t : Bool). cond {A = ℕ} t 1 0) q in
            get_or-set_other counts m r (get_or counts m 0 + 1) 0 z ∙ omega (arith, x, y, h.counted r)
      ]
        where
          same : (n : ℕ) → eqb n n ≡ true
          same n = grind (arith, nat_tests)

pub scoping-done : (P : Prefix) → Distinct P → (room kinds : ℕ) (bindings : List (Option Binding)) (counts : List ℕ) (last : Option Bound) (rank : ℕ) → IsScoping P [] room kinds bindings counts last rank → AreNumbered P bindings counts
scoping-done P d room kinds bindings counts last rank h = record {
  scoped = record {
    distinct = d;
    first_is = refl;
    linked = h.linked;
    only = h.only;
    ranked = ranked P numbered;
    counted = h.counted;
  };
  numbered = numbered;
}
  where
    numbered : IsNumbered (rank_at bindings) None 0 P
    numbered = subst (λ (Q : Prefix). IsNumbered (rank_at bindings) None 0 Q) (append-nil P) (h.numbered (rank_at bindings) (λ v i. refl) tt)

    ranked : (Q : Prefix) → IsNumbered (rank_at bindings) None 0 Q → AreRanked (rank_at bindings) None Q
    ranked [] n = tt
    ranked (b ∷ Q) n = (tt, numbered-ranked (rank_at bindings) b Q 0 n.0 n.1)

-- the pieces of a prefix before and from a place on
pub take-past : (P : Prefix) (i : ℕ) → length P ≤ i → take i P ≡ P
take-past [] zero h = refl
take-past [] (suc i) h = refl
take-past (b ∷ P) zero h = absurd (omega arith)
take-past (b ∷ P) (suc i) h = ap (λ (Q : Prefix). b ∷ Q) (take-past P i (omega arith))

pub drop-past : (P : Prefix) (i : ℕ) → length P ≤ i → drop i P ≡ []
drop-past [] zero h = refl
drop-past [] (suc i) h = refl
drop-past (b ∷ P) zero h = absurd (omega arith)
drop-past (b ∷ P) (suc i) h = drop-past P i (omega arith)

pub take-next : (P : Prefix) (i : ℕ) (e : Bound) → i < length P → take (suc i) P ≡ take i P ++ get_or P i e ∷ []
take-next [] i e h = absurd (omega arith)
take-next (b ∷ P) zero e h = refl
take-next (b ∷ P) (suc i) e h = ap (λ (Q : Prefix). b ∷ Q) (take-next P i e (omega arith))

pub drop-here : (P : Prefix) (i : ℕ) (e : Bound) → i < length P → drop i P ≡ get_or P i e ∷ drop (suc i) P
drop-here [] i e h = absurd (omega arith)
drop-here (b ∷ P) zero e h = refl
drop-here (b ∷ P) (suc i) e h = drop-here P i e (omega arith)

pub take-drop : (P : Prefix) (i : ℕ) → take i P ++ drop i P ≡ P
take-drop [] zero = refl
take-drop [] (suc i) = refl
take-drop (b ∷ P) zero = refl
take-drop (b ∷ P) (suc i) = ap (λ (Q : Prefix). b ∷ Q) (take-drop P i)

pub take-size : (P : Prefix) (i : ℕ) → i ≤ length P → length (take i P) ≡ i
take-size [] zero h = refl
take-size [] (suc i) h = absurd (omega arith)
take-size (b ∷ P) zero h = refl
take-size (b ∷ P) (suc i) h = ap suc (take-size P i (omega arith))

pub first-drop : (P : Prefix) (i : ℕ) → var_of (slice_get P i) ≡ first_or (drop i P) None
first-drop [] zero = refl
first-drop [] (suc i) = refl
first-drop (b ∷ P) zero = refl
first-drop (b ∷ P) (suc i) = first-drop P i
