-- What is said of the next line that takes something away, one variable after the other.
use Rattle.std.proofs.Common.{◌≡◌, ℕ, ◌+◌, ◌<◌, Bool, true, false, cond, not, ◌&&◌, ◌||◌, eqb, List, [], ◌∷◌, ◌++◌, inl, inr, length, slice_get, arith, refl, sym, ap, ap₂, ◌∙◌, subst, Option, Some, None}
use Rattle.std.proofs.lemmas.List.{append-nil, append_assoc, length_push}
use Rattle.q_logic.specs.Prelude.{Literal, literal_eq, Prefix, is_existential, has}
use Rattle.q_logic.proofs.Common.{slice_get-append, literal_eq-sound, literal_eq-itself}
use Rattle.q_derive.proofs.Following.{slice-last, slice-at}
use Rattle.q_long.specs.Distant.{positive, negative, holds}
use Rattle.q_long.proofs.Valuing.{as-positive}
use Rattle.q_extract.specs.Saying.{said_in}
use Rattle.q_extract.specs.Merges.{IsSaidBelow, HavePivotsIn}
use Rattle.q_extract.specs.Rows.{drops_in, said_next, AreSound, IsMore, IsMergeMore, IsSayingMore}
use Rattle.q_extract.specs.declared.drops.Drops.{Drops}
use Rattle.q_extract.specs.declared.said.Merge.{Merge}
use Rattle.q_extract.specs.declared.said.Sayings.{Sayings}
use Rattle.q_resolve.specs.declared.leaves.Owner.{Owner}
use Rattle.q_resolve.specs.Sides.{sided}
use Rattle.q_resolve.specs.Tests.{is_other, is_both}
use Rattle.q_resolve.specs.Merging.{mentions, is_merged_upto, is_merged, value_sign, said_as, said_for, IsParentSaid, IsSaidFurther, IsMergeOf, said_over, IsSaidOne, IsSaidMerged, IsSaidSame, IsNextSaid, IsSaidUpto, IsKeptOne}
use Rattle.q_resolve.proofs.Sided.{side-var}

-- nothing was said where there are no merges
pub none-said : (d : Drops) → AreSound d → d.merges.items ≡ [] → (x : ℕ) → said_next d x ≡ None
none-said d h e x = go (said_next d x) refl
  where
    go : (r : Option ℕ) → said_next d x ≡ r → said_next d x ≡ None
    go None q = q
    go (Some i) q = absurd (let l = h.said (length d.guards) x i q in let z : i < 0 = subst (λ (ms : List Merge). i < length ms) e l in omega arith)

pub nothing-more : (d : Drops) → AreSound d → IsMore d d []
nothing-more d h = record { drops = sym (append-nil (drops_in d)); merges = refl; said = refl; sound = h }

-- behind what a line keeps nothing is said
pub next-fresh : (old new : Drops) (T : List Literal) → AreSound old → new.said ≡ old.said → new.guards ≡ old.guards ++ T ∷ [] → (x : ℕ) → said_next new x ≡ None
next-fresh old new T h s g x =
    let n : length new.guards ≡ length old.guards + 1 = ap length g ∙ length_push old.guards T in
    ap (λ w. said_in w (length new.guards) x) s ∙ h.fresh (length new.guards) x (omega arith)

-- the same drops
pub further-none : (o : Owner) (k : Literal) (d : Drops) → AreSound d → IsSaidFurther o k d d
further-none o k d h = record {
  merges = ([], sym (append-nil d.merges.items));
  guards = refl;
  drops = refl;
  sound = h;
  pivots = λ U u p. p;
}

pub further-then : (o : Owner) (k : Literal) (a b c : Drops) → IsSaidFurther o k a b → IsSaidFurther o k b c → IsSaidFurther o k a c
further-then o k a b c f g = record {
  merges = (f.merges.0 ++ g.merges.0, g.merges.1 ∙ ap (λ (ms : List Merge). ms ++ g.merges.0) f.merges.1 ∙ append_assoc a.merges.items f.merges.0 g.merges.0);
  guards = g.guards ∙ f.guards;
  drops = g.drops ∙ f.drops;
  sound = g.sound;
  pivots = λ U u p. g.pivots U u (f.pivots U u p);
}

pub further-one : (o : Owner) (k : Literal) (old new : Drops) (x : ℕ) (r : Option ℕ) → IsSaidOne old new x r → IsSaidFurther o k old new
further-one o k old new x r h = record {
  merges = ([], ap (λ ms. ms.items) h.merges ∙ sym (append-nil old.merges.items));
  guards = h.guards;
  drops = h.drops;
  sound = h.sound;
  pivots = λ U u p. subst (HavePivotsIn U) (sym (ap (λ ms. ms.items) h.merges)) p;
}

-- a new merge
pub further-merge : (o : Owner) (k : Literal) (old new : Drops) (m : Merge) (i : ℕ) → m.pivot ≡ sided o k → IsMergeMore old new m i → IsSaidFurther o k old new
further-merge o k old new m i e h = record {
  merges = (m ∷ [], h.merges);
  guards = h.guards;
  drops = h.drops;
  sound = h.sound;
  pivots = λ U u p. subst (HavePivotsIn U) (sym h.merges) (λ j x q. elim (slice-last old.merges.items m j x q) [
    | inl a ↦ p j x a
    | inr a ↦ subst (λ (y : Merge). U y.pivot.var ≡ true) a.1 (ap (λ (y : Literal). U y.var) e ∙ ap U (side-var o k) ∙ u)
  ]);
}

pub merge-of : (o : Owner) (k : Literal) (f g : ℕ → Option ℕ) (S U : List Literal) (x : ℕ) (old new : Drops) (i : ℕ) → holds x U ≡ true → holds x S ≡ true →
    IsMergeMore old new (record { pivot = sided o k; first = said_for o f S x; second = said_for o g U x }) i → IsMergeOf o k f g S U x old new (Some i)
merge-of o k f g S U x old new i u s h = record {
  further = further-merge o k old new (record { pivot = sided o k; first = said_for o f S x; second = said_for o g U x }) i refl h;
  same = h.said;
  here = λ j q.
      let n : length new.merges.items ≡ length old.merges.items + 1 = ap length h.merges ∙ length_push old.merges.items (record { pivot = sided o k; first = said_for o f S x; second = said_for o g U x }) in
      let z : i ≡ j = cc in let p = h.place in omega arith;
  is = inr (inr (u, s, i, refl, ap₂ slice_get h.merges h.place ∙ slice-at old.merges.items (record { pivot = sided o k; first = said_for o f S x; second = said_for o g U x })));
}

pub merge-first : (o : Owner) (k : Literal) (f g : ℕ → Option ℕ) (S U : List Literal) (x : ℕ) (d : Drops) (r : Option ℕ) → AreSound d →
    ((n : ℕ) → f x ≡ Some n → n < length d.merges.items) → holds x U ≡ false → r ≡ f x → IsMergeOf o k f g S U x d d r
merge-first o k f g S U x d r h b u e = record {
  further = further-none o k d h;
  same = refl;
  here = λ i q. b i (sym e ∙ q);
  is = inl (u, e);
}

pub merge-second : (o : Owner) (k : Literal) (f g : ℕ → Option ℕ) (S U : List Literal) (x : ℕ) (d : Drops) (r : Option ℕ) → AreSound d →
    ((n : ℕ) → g x ≡ Some n → n < length d.merges.items) → holds x U ≡ true → holds x S ≡ false → r ≡ g x → IsMergeOf o k f g S U x d d r
merge-second o k f g S U x d r h b u s e = record {
  further = further-none o k d h;
  same = refl;
  here = λ i q. b i (sym e ∙ q);
  is = inr (inl (u, s, e));
}

-- what a line says is below
pub said-below : (o : Owner) (f : ℕ → Option ℕ) (S : List Literal) (x n : ℕ) → ((i : ℕ) → f x ≡ Some i → i < n) → IsSaidBelow n (said_for o f S x)
said-below o f S x n h = go (f x) refl
  where
    go : (r : Option ℕ) → f x ≡ r → IsSaidBelow n (said_as r (value_sign o (has (positive x) S)))
    go None e = tt
    go (Some i) e = h i e

-- one variable said
pub said-none : (d : Drops) (x : ℕ) (r : Option ℕ) → AreSound d → r ≡ None → IsSaidOne d d x r
said-none d x r h e = record {
  merges = refl;
  guards = refl;
  drops = refl;
  sound = h;
  next = λ y. sym (ap (λ (q : Option ℕ). cond (eqb y x) (said_over q (said_next d y)) (said_next d y)) e ∙ same (eqb y x) y);
}
  where
    same : (b : Bool) (y : ℕ) → cond b (said_next d y) (said_next d y) ≡ said_next d y
    same true y = refl
    same false y = refl

pub said-some : (old new : Drops) (x i : ℕ) (r : Option ℕ) → r ≡ Some i → IsSayingMore old new x i → IsSaidOne old new x r
said-some old new x i r e h = record {
  merges = h.merges;
  guards = h.guards;
  drops = h.drops;
  sound = h.sound;
  next = λ y.
      ap (λ gs. said_in new.said (length gs) y) h.guards ∙ h.said (length old.guards) y ∙ at (eqb (length old.guards) (length old.guards)) (grind arith) y ∙
      ap (λ (q : Option ℕ). cond (eqb y x) (said_over q (said_next old y)) (said_next old y)) (sym e);
}
  where
    at : (b : Bool) → b ≡ true → (y : ℕ) → cond (b && eqb y x) (Some i) (said_next old y) ≡ cond (eqb y x) (Some i) (said_next old y)
    at true q y = refl
    at false q y = absurd (cc)

-- the same said by a longer row of merges
said-more : (o : Owner) (k : Literal) (f g : ℕ → Option ℕ) (S U : List Literal) (ms more : List Merge) (x : ℕ) (r : Option ℕ) →
    IsParentSaid o k f g S U ms x r → IsParentSaid o k f g S U (ms ++ more) x r
said-more o k f g S U ms more x r (inl h) = inl h
said-more o k f g S U ms more x r (inr (inl h)) = inr (inl h)
said-more o k f g S U ms more x r (inr (inr (u, s, i, e, d))) = inr (inr (u, s, i, e, slice_get-append ms more i _ d))

-- two that say nothing agree
none-again : (o : Owner) (k : Literal) (f g : ℕ → Option ℕ) (S U : List Literal) (ms ns : List Merge) (x : ℕ) (r q : Option ℕ) → r ≡ None →
    IsParentSaid o k f g S U ms x r → IsParentSaid o k f g S U ns x q → q ≡ None
none-again o k f g S U ms ns x r q e (inl (u, a)) (inl (v, b)) = b ∙ sym a ∙ e
none-again o k f g S U ms ns x r q e (inl (u, a)) (inr (inl (v, w, b))) = absurd (cc)
none-again o k f g S U ms ns x r q e (inl (u, a)) (inr (inr (v, w, i, b, d))) = absurd (cc)
none-again o k f g S U ms ns x r q e (inr (inl (u, t, a))) (inl (v, b)) = absurd (cc)
none-again o k f g S U ms ns x r q e (inr (inl (u, t, a))) (inr (inl (v, w, b))) = b ∙ sym a ∙ e
none-again o k f g S U ms ns x r q e (inr (inl (u, t, a))) (inr (inr (v, w, i, b, d))) = absurd (cc)
none-again o k f g S U ms ns x r q e (inr (inr (u, t, i, a, d))) h = absurd (cc)

-- positive literals one further
has-last : (l : Literal) (V : List Literal) (j : Literal) → has l (V ++ j ∷ []) ≡ cond (has l V) true (literal_eq j l)
has-last l [] j = go (literal_eq j l)
  where
    go : (b : Bool) → b || false ≡ b
    go true = refl
    go false = refl
has-last l (x ∷ V) j = go (literal_eq x l) (has-last l V j)
  where
    go : (b : Bool) → has l (V ++ j ∷ []) ≡ cond (has l V) true (literal_eq j l) → b || has l (V ++ j ∷ []) ≡ cond (b || has l V) true (literal_eq j l)
    go true h = refl
    go false h = h

-- one positive literal further
abbrev rest : Prefix → List Literal → ℕ → Bool
rest P R x = has (negative x) R && is_existential P x

pub upto-last : (P : Prefix) (V R : List Literal) (j : Literal) (x : ℕ) →
    is_merged_upto P (V ++ j ∷ []) R x ≡ is_merged_upto P V R x || (eqb x j.var && is_both P R j)
upto-last P V R j x = ap (λ (b : Bool). b && rest P R x) (has-last (positive x) V j) ∙ go (eqb x j.var) refl j.negative refl
  where
    one : (h b : Bool) → cond h true false && b ≡ (h && b) || false
    one true true = refl
    one true false = refl
    one false b = refl

    two : (h b : Bool) → cond h true true && b ≡ (h && b) || b
    two true true = refl
    two true false = refl
    two false b = refl

    not-it : (j ≡ positive x → ⊥) → literal_eq j (positive x) ≡ false
    not-it n = go (literal_eq j (positive x)) refl
      where
        go : (b : Bool) → literal_eq j (positive x) ≡ b → literal_eq j (positive x) ≡ false
        go true e = absurd (n (literal_eq-sound j (positive x) e))
        go false e = e

    go : (q : Bool) → eqb x j.var ≡ q → (n : Bool) → j.negative ≡ n →
        cond (has (positive x) V) true (literal_eq j (positive x)) && rest P R x ≡ (has (positive x) V && rest P R x) || (eqb x j.var && is_both P R j)
    go false e n m =
        let l : literal_eq j (positive x) ≡ false = not-it (λ w. let z : j.var ≡ x = ap (λ (y : Literal). y.var) w in grind arith) in
        ap (λ (b : Bool). cond (has (positive x) V) true b && rest P R x) l ∙ one (has (positive x) V) (rest P R x) ∙
        sym (ap (λ (b : Bool). (has (positive x) V && rest P R x) || (b && is_both P R j)) e)
    go true e false m =
        let v : j.var ≡ x = grind arith in
        let w : j ≡ positive x = as-positive j m ∙ ap positive v in
        let l : literal_eq j (positive x) ≡ true = subst (λ (y : Literal). literal_eq j y ≡ true) w (literal_eq-itself j) in
        let b : is_both P R j ≡ rest P R x = ap (λ (y : Literal). is_both P R y) w in
        ap (λ (c : Bool). cond (has (positive x) V) true c && rest P R x) l ∙ two (has (positive x) V) (rest P R x) ∙
        sym (ap₂ (λ (c d : Bool). (has (positive x) V && rest P R x) || (c && d)) e b)
    go true e true m =
        let l : literal_eq j (positive x) ≡ false = not-it (λ w. let z : j.negative ≡ false = ap (λ (y : Literal). y.negative) w in cc) in
        let b : is_both P R j ≡ false = ap (λ (c : Bool). not c && is_other P R j) m in
        ap (λ (c : Bool). cond (has (positive x) V) true c && rest P R x) l ∙ one (has (positive x) V) (rest P R x) ∙
        sym (ap₂ (λ (c d : Bool). (has (positive x) V && rest P R x) || (c && d)) e b)

or-false : (a b : Bool) → a || (b && false) ≡ a
or-false true b = refl
or-false false true = refl
or-false false false = refl

pub upto-skip : (P : Prefix) (V R : List Literal) (j : Literal) (x : ℕ) → is_both P R j ≡ false → is_merged_upto P (V ++ j ∷ []) R x ≡ is_merged_upto P V R x
upto-skip P V R j x h = upto-last P V R j x ∙ ap (λ (b : Bool). is_merged_upto P V R x || (eqb x j.var && b)) h ∙ or-false (is_merged_upto P V R x) (eqb x j.var)

or-whole : (a b : Bool) → a || (b && true) ≡ a || b
or-whole true b = refl
or-whole false true = refl
or-whole false false = refl

pub upto-more : (P : Prefix) (V R : List Literal) (j : Literal) (x : ℕ) → is_both P R j ≡ true → is_merged_upto P (V ++ j ∷ []) R x ≡ is_merged_upto P V R x || eqb x j.var
upto-more P V R j x h = upto-last P V R j x ∙ ap (λ (b : Bool). is_merged_upto P V R x || (eqb x j.var && b)) h ∙ or-whole (is_merged_upto P V R x) (eqb x j.var)

pub both-positive : (P : Prefix) (R : List Literal) (j : Literal) → is_both P R j ≡ true → j.negative ≡ false
both-positive P R j h = go j.negative refl h
  where
    go : (b : Bool) → j.negative ≡ b → not b && is_other P R j ≡ true → j.negative ≡ false
    go true e h = absurd (cc)
    go false e h = e

-- what a resolvent says, one variable further
module _ (o : Owner) (P : Prefix) (k : Literal) (f g : ℕ → Option ℕ) (S U R : List Literal) (old : Drops) where
  pub resolved-start : AreSound old → ((x : ℕ) → said_next old x ≡ None) → IsSaidUpto o P k f g S U [] R old old
  resolved-start h n = record { further = further-none o k old h; next = λ x. (λ q. absurd (cc), λ q. n x) }

  pub resolved-skip : (V W : List Literal) (j : Literal) (now : Drops) → W ≡ V ++ j ∷ [] → is_both P R j ≡ false →
      IsSaidUpto o P k f g S U V R old now → IsSaidUpto o P k f g S U W R old now
  resolved-skip V W j now e n h = subst (λ (X : List Literal). IsSaidUpto o P k f g S U X R old now) (sym e) (record {
    further = h.further;
    next = λ x. let q = upto-skip P V R j x n in (λ m. (h.next x).0 (sym q ∙ m), λ m. (h.next x).1 (sym q ∙ m));
  })

  pub resolved-more : (V W : List Literal) (j : Literal) (now new : Drops) → W ≡ V ++ j ∷ [] → is_both P R j ≡ true →
      IsSaidUpto o P k f g S U V R old now → IsSaidMerged o k f g S U j.var now new → IsSaidUpto o P k f g S U W R old new
  resolved-more V W j now new e t h (mid, r, mo, so) = subst (λ (X : List Literal). IsSaidUpto o P k f g S U X R old new) (sym e) (record {
    further = further-then o k old now new h.further (further-then o k now mid new mo.further (further-one o k mid new j.var r so));
    next = λ x. by x (eqb x j.var) refl;
  })
    where
      all : new.merges.items ≡ now.merges.items ++ mo.further.merges.0
      all = ap (λ ms. ms.items) so.merges ∙ mo.further.merges.1

      mid-next : (x : ℕ) → said_next mid x ≡ said_next now x
      mid-next x = ap (λ gs. said_in mid.said (length gs) x) mo.further.guards ∙ ap (λ w. said_in w (length now.guards) x) mo.same

      says : (x : ℕ) → said_next new x ≡ cond (eqb x j.var) (said_over r (said_next now x)) (said_next now x)
      says x = so.next x ∙ ap (λ (q : Option ℕ). cond (eqb x j.var) (said_over r q) q) (mid-next x)

      -- another variable
      other : (x : ℕ) → eqb x j.var ≡ false → IsNextSaid o P k f g S U (V ++ j ∷ []) R new x
      other x q =
          let u : is_merged_upto P (V ++ j ∷ []) R x ≡ is_merged_upto P V R x =
          upto-more P V R j x t ∙ ap (λ (b : Bool). is_merged_upto P V R x || b) q ∙ plain (is_merged_upto P V R x) in
          let s : said_next new x ≡ said_next now x = says x ∙ ap (λ (b : Bool). cond b (said_over r (said_next now x)) (said_next now x)) q in (
            λ m. subst (IsParentSaid o k f g S U new.merges.items x) (sym s)
                (subst (λ (ms : List Merge). IsParentSaid o k f g S U ms x (said_next now x)) (sym all)
                (said-more o k f g S U now.merges.items mo.further.merges.0 x (said_next now x) ((h.next x).0 (sym u ∙ m)))),
            λ m. s ∙ (h.next x).1 (sym u ∙ m),
          )
        where
          plain : (a : Bool) → a || false ≡ a
          plain true = refl
          plain false = refl

      -- this one
      over : (x : ℕ) → IsParentSaid o k f g S U mid.merges.items x r → said_over r (said_next now x) ≡ r
      over x p = go r refl
        where
          before : r ≡ None → (b : Bool) → is_merged_upto P V R x ≡ b → said_next now x ≡ None
          before q true m = none-again o k f g S U mid.merges.items now.merges.items x r (said_next now x) q p ((h.next x).0 m)
          before q false m = (h.next x).1 m

          go : (w : Option ℕ) → r ≡ w → said_over w (said_next now x) ≡ w
          go None q = before q (is_merged_upto P V R x) refl
          go (Some i) q = refl

      this : (x : ℕ) → eqb x j.var ≡ true → IsNextSaid o P k f g S U (V ++ j ∷ []) R new x
      this x q =
          let v : x ≡ j.var = grind arith in
          let p : IsParentSaid o k f g S U mid.merges.items x r = subst (λ y. IsParentSaid o k f g S U mid.merges.items y r) (sym v) mo.is in
          let s : said_next new x ≡ r = says x ∙ ap (λ (b : Bool). cond b (said_over r (said_next now x)) (said_next now x)) q ∙ over x p in
          let u : is_merged_upto P (V ++ j ∷ []) R x ≡ true = upto-more P V R j x t ∙ ap (λ (b : Bool). is_merged_upto P V R x || b) q ∙ whole (is_merged_upto P V R x) in (
            λ m. subst (IsParentSaid o k f g S U new.merges.items x) (sym s)
                (subst (λ (ms : List Merge). IsParentSaid o k f g S U ms x r) (sym (ap (λ ms. ms.items) so.merges)) p),
            λ m. absurd (cc),
          )
        where
          whole : (a : Bool) → a || true ≡ true
          whole true = refl
          whole false = refl

      by : (x : ℕ) → (b : Bool) → eqb x j.var ≡ b → IsNextSaid o P k f g S U (V ++ j ∷ []) R new x
      by x true q = this x q
      by x false q = other x q

-- nothing to say where the resolvent holds no variable in both signs
pub resolved-none : (o : Owner) (P : Prefix) (k : Literal) (f g : ℕ → Option ℕ) (S U R : List Literal) (d : Drops) → AreSound d → ((x : ℕ) → said_next d x ≡ None) →
    ((x : ℕ) → is_merged P R x ≡ true → ⊥) → IsSaidUpto o P k f g S U R R d d
resolved-none o P k f g S U R d h n m = record { further = further-none o k d h; next = λ x. (λ q. absurd (m x q), λ q. n x) }

-- what a reduction says, one literal further
mentions-last : (x : ℕ) (V : List Literal) (j : Literal) → mentions x (V ++ j ∷ []) ≡ mentions x V || eqb x j.var
mentions-last x [] j = go (eqb j.var x) refl (eqb x j.var) refl
  where
    go : (a : Bool) → eqb j.var x ≡ a → (b : Bool) → eqb x j.var ≡ b → cond a true false ≡ b
    go true p true q = refl
    go true p false q = absurd (grind arith)
    go false p true q = absurd (grind arith)
    go false p false q = refl
mentions-last x (y ∷ V) j = go (eqb y.var x) (mentions-last x V j)
  where
    go : (b : Bool) → mentions x (V ++ j ∷ []) ≡ mentions x V || eqb x j.var → cond b true (mentions x (V ++ j ∷ [])) ≡ cond b true (mentions x V) || eqb x j.var
    go true h = refl
    go false h = h

over-cond : (a b : Bool) (r q : Option ℕ) → cond b (said_over r (cond a r None)) (cond a r None) ≡ cond (a || b) r None
over-cond true true None q = refl
over-cond true true (Some i) q = refl
over-cond true false r q = refl
over-cond false true None q = refl
over-cond false true (Some i) q = refl
over-cond false false r q = refl

pub same-start : (f : ℕ → Option ℕ) (d : Drops) → AreSound d → ((x : ℕ) → said_next d x ≡ None) → IsSaidSame f [] d d
same-start f d h n = record { merges = refl; drops = refl; sound = h; next = n }

pub same-more : (f : ℕ → Option ℕ) (V W : List Literal) (j : Literal) (old now new : Drops) (r : Option ℕ) → W ≡ V ++ j ∷ [] → r ≡ f j.var →
    IsSaidSame f V old now → IsSaidOne now new j.var r → IsSaidSame f W old new
same-more f V W j old now new r e q h s = subst (λ (X : List Literal). IsSaidSame f X old new) (sym e) (record {
  merges = s.merges ∙ h.merges;
  drops = s.drops ∙ h.drops;
  sound = s.sound;
  next = λ x. s.next x ∙ ap (λ (w : Option ℕ). cond (eqb x j.var) (said_over r w) w) (h.next x) ∙ here x (eqb x j.var) refl ∙
      over-cond (mentions x V) (eqb x j.var) (f x) None ∙ ap (λ (b : Bool). cond b (f x) None) (sym (mentions-last x V j));
})
  where
    here : (x : ℕ) (b : Bool) → eqb x j.var ≡ b →
        cond (eqb x j.var) (said_over r (cond (mentions x V) (f x) None)) (cond (mentions x V) (f x) None) ≡
        cond (eqb x j.var) (said_over (f x) (cond (mentions x V) (f x) None)) (cond (mentions x V) (f x) None)
    here x true p =
        let v : j.var ≡ x = grind arith in
        ap (λ (w : Option ℕ). cond (eqb x j.var) (said_over w (cond (mentions x V) (f x) None)) (cond (mentions x V) (f x) None)) (q ∙ ap f v)
    here x false p =
        ap (λ (b : Bool). cond b (said_over r (cond (mentions x V) (f x) None)) (cond (mentions x V) (f x) None)) p ∙
        sym (ap (λ (b : Bool). cond b (said_over (f x) (cond (mentions x V) (f x) None)) (cond (mentions x V) (f x) None)) p)

-- what a line keeps, one literal further
abbrev pub KeptUpto : Prefix → List Literal → List Literal → ℕ → (ℕ → Option ℕ) → Sayings → Sayings → Type 0
KeptUpto P V T n f old now = (m x : ℕ) → said_in now m x ≡ cond (eqb m n && is_merged_upto P V T x) (f x) (said_in old m x)

pub kept-start : (P : Prefix) (T : List Literal) (n : ℕ) (f : ℕ → Option ℕ) (s : Sayings) → KeptUpto P [] T n f s s
kept-start P T n f s m x = go (eqb m n)
  where
    go : (b : Bool) → said_in s m x ≡ cond (b && false) (f x) (said_in s m x)
    go true = refl
    go false = refl

pub kept-skip : (P : Prefix) (V W T : List Literal) (j : Literal) (n : ℕ) (f : ℕ → Option ℕ) (old now : Sayings) → W ≡ V ++ j ∷ [] → is_both P T j ≡ false →
    KeptUpto P V T n f old now → KeptUpto P W T n f old now
kept-skip P V W T j n f old now e q h = subst (λ (X : List Literal). KeptUpto P X T n f old now) (sym e)
    (λ m x. h m x ∙ ap (λ (b : Bool). cond (eqb m n && b) (f x) (said_in old m x)) (sym (upto-skip P V T j x q)))

kept-cond : (a b c : Bool) (r q : Option ℕ) → (a ≡ true → q ≡ None) →
    cond (a && c) (said_over r (cond (a && b) r q)) (cond (a && b) r q) ≡ cond (a && (b || c)) r q
kept-cond false b c r q h = refl
kept-cond true true true None q h = refl
kept-cond true true true (Some i) q h = refl
kept-cond true true false r q h = refl
kept-cond true false true None q h = h refl
kept-cond true false true (Some i) q h = refl
kept-cond true false false r q h = refl

pub kept-more : (P : Prefix) (V W T : List Literal) (j : Literal) (n y : ℕ) (f : ℕ → Option ℕ) (old now new : Sayings) → W ≡ V ++ j ∷ [] → is_both P T j ≡ true → y ≡ j.var →
    ((x : ℕ) → said_in old n x ≡ None) → KeptUpto P V T n f old now → IsKeptOne n y f now new → KeptUpto P W T n f old new
kept-more P V W T j n y f old now new e q v none h k = subst (λ (X : List Literal). KeptUpto P X T n f old new) (sym e)
    (λ m x.
    k m x ∙ ap (λ z. cond (eqb m n && eqb x z) (said_over (f x) (said_in now m x)) (said_in now m x)) v ∙
    ap (λ (w : Option ℕ). cond (eqb m n && eqb x j.var) (said_over (f x) w) w) (h m x) ∙
    kept-cond (eqb m n) (is_merged_upto P V T x) (eqb x j.var) (f x) (said_in old m x) (λ p. let z : m ≡ n = grind arith in ap (λ i. said_in old i x) z ∙ none x) ∙
    ap (λ (b : Bool). cond (eqb m n && b) (f x) (said_in old m x)) (sym (upto-more P V T j x q)))

pub keep-none : (n x : ℕ) (f : ℕ → Option ℕ) (s : Sayings) → f x ≡ None → IsKeptOne n x f s s
keep-none n x f s e m y = go (eqb m n) (eqb y x) refl
  where
    go : (a b : Bool) → eqb y x ≡ b → said_in s m y ≡ cond (a && b) (said_over (f y) (said_in s m y)) (said_in s m y)
    go true true q = let v : y ≡ x = grind arith in sym (ap (λ (r : Option ℕ). said_over r (said_in s m y)) (ap f v ∙ e))
    go true false q = refl
    go false b q = refl

pub keep-some : (n x i : ℕ) (f : ℕ → Option ℕ) (old new : Sayings) → f x ≡ Some i →
    ((m y : ℕ) → said_in new m y ≡ cond (eqb m n && eqb y x) (Some i) (said_in old m y)) → IsKeptOne n x f old new
keep-some n x i f old new e h m y = h m y ∙ go (eqb m n) (eqb y x) refl
  where
    go : (a b : Bool) → eqb y x ≡ b → cond (a && b) (Some i) (said_in old m y) ≡ cond (a && b) (said_over (f y) (said_in old m y)) (said_in old m y)
    go true true q = let v : y ≡ x = grind arith in sym (ap (λ (r : Option ℕ). said_over r (said_in old m y)) (ap f v ∙ e))
    go true false q = refl
    go false b q = refl
