-- What a drop leaves: the literals that are inner, and which of the four kinds it is.
use Rattle.std.proofs.Common.{◌≡◌, ℕ, Bool, true, false, cond, List, [], ◌∷◌, ◌++◌, Option, Some, Err, refl, sym, ap, ◌∙◌, inl, inr, not, append-nil, append_assoc, true≢false}
use Rattle.std.specs.Prelude.{◌↔◌, IsTrue}
use Rattle.q_logic.specs.Prelude.{Literal, negation, Clause, Matrix, Prefix, IsIn, PrenexFormula, is_existential, outer_or_same, Slots, formula_of, ForallPivot, drop_literal, one_less}
use Rattle.q_logic.specs.Reversals.{IsPlainDrop, IsExtended, Reversed, inner}
use Rattle.q_logic.proofs.Common.{Within, forall_pivot-within, outers-same, SameClauses, IsIn-alike, alike-sym}
use Rattle.q_prop.specs.Slots.{Holds, filled}
use Rattle.q_prop.specs.Slots.{without as without_slot}
use Rattle.q_judge.proofs.SlotCollections.{left-same}
use Rattle.q_herbrand.specs.declared.drops.DropKind.{DropKind}
use Rattle.q_herbrand.specs.declared.drops.DropKind.TheVariants.{Turned, Plain, Nothing, Extended}
use Rattle.q_herbrand.specs.declared.reversal.Reversal.{Reversal as Entry}
use Rattle.q_herbrand.specs.declared.error.TrailError.{TrailError}
use Rattle.q_herbrand.specs.declared.error.TrailError.TheVariants as refusal
use Rattle.q_herbrand.specs.Entries.{entries_of}
use Rattle.q_herbrand.specs.Drops.{HasInner, IsDropKind, IsDropEntry}
use Rattle.q_herbrand.specs.Trails.{IsPassed}

cond_append : (b : Bool) (x : Literal) (xs ys : Clause) → cond b (xs ++ ys) (x ∷ (xs ++ ys)) ≡ cond b xs (x ∷ xs) ++ ys
cond_append true x xs ys = refl
cond_append false x xs ys = refl

inner_push : (P : Prefix) (l : Literal) (xs : Clause) (k : Literal) →
    inner P l (xs ++ k ∷ []) ≡ inner P l xs ++ inner P l (k ∷ [])
inner_push P l [] k = refl
inner_push P l (x ∷ xs) k =
    ap (λ (zs : Clause). cond (outer_or_same P x.var l.var) zs (x ∷ zs)) (inner_push P l xs k)
    ∙ cond_append (outer_or_same P x.var l.var) x (inner P l xs) (inner P l (k ∷ []))

pub inner_kept : (P : Prefix) (l k : Literal) (lits old : List Literal) (xs : Clause) →
    outer_or_same P k.var l.var ≡ false → lits ≡ old ++ inner P l xs → lits ++ k ∷ [] ≡ old ++ inner P l (xs ++ k ∷ [])
inner_kept P l k lits old xs h e =
    let one : inner P l (k ∷ []) ≡ k ∷ [] = ap (λ (b : Bool). cond b [] (k ∷ [])) h in
    ap (λ (zs : List Literal). zs ++ k ∷ []) e
    ∙ append_assoc old (inner P l xs) (k ∷ [])
    ∙ ap (λ (zs : List Literal). old ++ (inner P l xs ++ zs)) (sym one)
    ∙ ap (λ (zs : List Literal). old ++ zs) (sym (inner_push P l xs k))

pub inner_left : (P : Prefix) (l k : Literal) (lits old : List Literal) (xs : Clause) →
    outer_or_same P k.var l.var ≡ true → lits ≡ old ++ inner P l xs → lits ≡ old ++ inner P l (xs ++ k ∷ [])
inner_left P l k lits old xs h e =
    let none : inner P l (k ∷ []) ≡ [] = ap (λ (b : Bool). cond b [] (k ∷ [])) h in
    e
    ∙ ap (λ (zs : List Literal). old ++ zs) (sym (append-nil (inner P l xs)))
    ∙ ap (λ (zs : List Literal). old ++ (inner P l xs ++ zs)) (sym none)
    ∙ ap (λ (zs : List Literal). old ++ zs) (sym (inner_push P l xs k))

-- A drop is plain where no existential is inner and the negation is not there.
pub plain-tested : (P : Prefix) (C : Clause) (l : Literal) → (HasInner P C l.var → ⊥) → (IsIn (negation l) C → ⊥) →
    IsPlainDrop P C l
plain-tested P C l no_inner not_negated = record {
  no_inner = λ k m e. go k m e (outer_or_same P k.var l.var) refl;
  not_negated = not_negated;
}
  where
    go : (k : Literal) → IsIn k C → is_existential P k.var ≡ true → (b : Bool) → outer_or_same P k.var l.var ≡ b → b ≡ true
    go k m e true o = refl
    go k m e false o = absurd (no_inner (k, m, rw (e, o) refl))

pub inner-not_plain : (P : Prefix) (C : Clause) (l : Literal) → HasInner P C l.var → IsPlainDrop P C l → ⊥
inner-not_plain P C l (k, m, i) p = go (is_existential P k.var) refl (outer_or_same P k.var l.var) refl
  where
    go : (a : Bool) → is_existential P k.var ≡ a → (b : Bool) → outer_or_same P k.var l.var ≡ b → ⊥
    go true e true o = let z = rw (e, o) at i in true≢false (sym z)
    go true e false o = true≢false (sym (p.no_inner k m e) ∙ o)
    go false e b o = let z = rw e at i in true≢false (sym z)

-- What is literally tested for it.
pub plain-test : (P : Prefix) (C : Clause) (l : Literal) (b : Bool) → (HasInner P C l.var → ⊥) →
    (IsTrue b ↔ IsIn (negation l) C) → IsTrue (not b) ↔ IsPlainDrop P C l
plain-test P C l true n h = ((λ t. absurd (true≢false (sym t))), (λ p. absurd (p.not_negated (h.0 refl))))
plain-test P C l false n h =
    ((λ t. plain-tested P C l n (λ m. true≢false (sym (h.1 m)))), (λ p. refl))

-- What a drop leaves, over the other slots or over one copy less.
module _ (P : Prefix) (s : Slots) (n : ℕ) (C : Clause) (h : Holds s n C) (l : Literal) where
  abbrev rest : Matrix
  rest = filled (without_slot s (Some n))

  same : SameClauses rest (one_less C (filled s))
  same = left-same s n C h

  there : Within rest (one_less C (filled s))
  there = IsIn-alike rest (one_less C (filled s)) same

  back : Within (one_less C (filled s)) rest
  back = IsIn-alike (one_less C (filled s)) rest (alike-sym rest (one_less C (filled s)) same)

  no_pivot : (ForallPivot P rest C l → ⊥) → ForallPivot P (one_less C (filled s)) C l → ⊥
  no_pivot k v = k (forall_pivot-within P (one_less C (filled s)) rest C l back there v)

  pub drop-reversed : (kind : DropKind) (r : Option Entry) → IsDropKind P rest C l kind → IsDropEntry P rest C l kind r →
      Reversed (formula_of P (filled s)) (drop_literal l C) (entries_of r)
  drop-reversed Turned r k (os, o, e) = inl (
    forall_pivot-within P rest (one_less C (filled s)) C l there back k,
    (os, outers-same P rest (one_less C (filled s)) (negation l) os same o, e),
  )
  drop-reversed Plain r k e = inr (no_pivot k.0, k.1, inr (k.2, e))
  drop-reversed Nothing r k e = inr (no_pivot k.0, k.1, inl (k.2, ap entries_of e))
  drop-reversed Extended r k e = absurd e

  pub drop-extended : IsDropKind P rest C l Extended → IsExtended (formula_of P (filled s)) (drop_literal l C)
  drop-extended k = (no_pivot k.0, k.1)

-- An error that leaves the formula tells an extended drop where it is no want of memory.
pub drop-refused : (F : PrenexFormula) (l : Literal) (C : Clause) (e : TrailError) →
    (e ≡ refusal.Extended → IsExtended F (drop_literal l C)) → IsPassed F (drop_literal l C) F (Err e)
drop-refused F l C refusal.Extended x = (refl, x refl)
drop-refused F l C refusal.NoMemory x = refl
