-- What a walk along the list of a literal has still to give.
use Rattle.std.proofs.Common.{◌≡◌, ◌≢◌, ℕ, zero, suc, ◌+◌, ◌<◌, All, Contains, get_or, List, [], ◌∷◌, length, slice_get, Option, None, Some, refl, sym, ◌∙◌, ap, subst, inl, inr, arith}
use Rattle.std.specs.List.{AllByRecursion}
use Rattle.std.proofs.lemmas.Bool.Decides.{nat_tests}
use Rattle.std.proofs.lemmas.Option.{same_Some, none-some}
use Rattle.std.proofs.lemmas.Bool.{cases_eq}
use Rattle.q_logic.specs.Prelude.{Literal, IsBelow, Clause, live, ArePairs}
use Rattle.q_logic.proofs.Common.{not_itself_below, AllByRecursion-IsIn, get_or-IsIn, live-slot}
use Rattle.q_arena.specs.Prelude.{Has, AreApart, start_at, Chains, following}
use Rattle.q_arena.proofs.RingPaths.{Misses-not, Misses-from}
use Rattle.q_arena.proofs.ListNeighbours.{following-here, following-later, following-has}
use Rattle.q_occ.specs.Places.{places_of, IsPlaceIn, no_lit}
use Rattle.q_kernel.specs.Kernels.{Seen, slots, HoldsLiteral, IsSound}
use Rattle.q_kernel.proofs.PlaceLists.{place-clause}
use Rattle.q_kernel.proofs.SlotLists.{slot-get}
use Rattle.q_kernel.specs.Visits.{since, since_place, owners_at, holders_of, holders_since, IsWalk, IsHolder}

since-here : (p y : ℕ) (ys : List ℕ) → y ≡ p → since p (y ∷ ys) ≡ y ∷ ys
since-here p y ys e = grind (arith, nat_tests)

since-later : (p y : ℕ) (ys : List ℕ) → y ≢ p → since p (y ∷ ys) ≡ since p ys
since-later p y ys n = grind (arith, nat_tests)

-- From the first place on: all.
pub since-first : (ys : List ℕ) → since_place (slice_get ys 0) ys ≡ ys
since-first [] = refl
since-first (y ∷ ys) = since-here y y ys refl

since-behind : (y : ℕ) (o : Option ℕ) (ys : List ℕ) → ((p : ℕ) → o ≡ Some p → y ≢ p) → since_place o (y ∷ ys) ≡ since_place o ys
since-behind y None ys h = refl
since-behind y (Some p) ys h = since-later p y ys (h p refl)

first-has : (q : ℕ) (ys : List ℕ) → slice_get ys 0 ≡ Some q → Has ys q
first-has q [] e = absurd (none-some q e)
first-has q (y ∷ ys) e = inl (sym (same_Some y q e))

-- A step gives the place at which the walk stands.
pub since-step : (p : ℕ) (ys : List ℕ) → AreApart ys → Has ys p → since p ys ≡ p ∷ since_place (following p ys) ys
since-step p [] a h = absurd h
since-step p (y ∷ ys) a h = elim (cases_eq y p) [
  | inl e ↦
      let rest : since_place (following p (y ∷ ys)) (y ∷ ys) ≡ ys =
      ap (λ (o : Option ℕ). since_place o (y ∷ ys)) (following-here p y ys e)
      ∙ (since-behind y (slice_get ys 0) ys (λ q f. Misses-not y q ys a.0 (first-has q ys f)) ∙ since-first ys)
      in
      since-here p y ys e ∙ (ap (λ (x : ℕ). x ∷ ys) e ∙ ap (λ (zs : List ℕ). p ∷ zs) (sym rest))
  | inr n ↦
      let later : Has ys p = elim h [ inl e ↦ absurd (n (sym e)) | inr i ↦ i ] in
      let rest : since_place (following p (y ∷ ys)) (y ∷ ys) ≡ since_place (following p ys) ys =
      ap (λ (o : Option ℕ). since_place o (y ∷ ys)) (following-later p y ys n)
      ∙ since-behind y (following p ys) ys (λ q f. Misses-not y q ys a.0 (following-has p q ys f))
      in
      since-later p y ys n ∙ (since-step p ys a.1 later ∙ ap (λ (zs : List ℕ). p ∷ zs) (sym rest))
]

pub walk-steps : (k : Seen) (l : Literal) (at next : Option ℕ) (p id : ℕ) → IsWalk k l at → at ≡ Some p → id ≡ get_or k.lists.owners p 0 → next ≡ following p (places_of k.lists l) → holders_since k l at ≡ id ∷ holders_since k l next
walk-steps k l at next p id w e f g =
    ap (λ (o : Option ℕ). holders_since k l o) e
    ∙ (ap (owners_at k.lists) (since-step p (places_of k.lists l) w.apart (w.there p e))
    ∙ (ap (λ (x : ℕ). x ∷ owners_at k.lists (since_place (following p (places_of k.lists l)) (places_of k.lists l))) (sym f)
    ∙ ap (λ (o : Option ℕ). id ∷ holders_since k l o) (sym g)))

-- The owners of places.
owners-all : (o : Chains) (Q : ℕ → Type 0) (ps : List ℕ) → ((p : ℕ) → Has ps p → Q (get_or o.owners p 0)) → All Q (owners_at o ps)
owners-all o Q [] f k d h = absurd (omega arith)
owners-all o Q (p ∷ ps) f zero d h = f p (inl refl)
owners-all o Q (p ∷ ps) f (suc k) d h = owners-all o Q ps (λ q m. f q (inr m)) k d (omega arith)

owners-has : (o : Chains) (p c : ℕ) (ps : List ℕ) → Has ps p → get_or o.owners p 0 ≡ c → Contains (owners_at o ps) c
owners-has o p c [] h e = absurd h
owners-has o p c (q ∷ ps) (inl f) e = (0, omega arith, ap (λ (x : ℕ). get_or o.owners x 0) (sym f) ∙ e)
owners-has o p c (q ∷ ps) (inr h) e = let r = owners-has o p c ps h e in (suc r.0, (let b : r.0 < length (owners_at o ps) = r.1 in omega arith), r.2)

owners-from : (o : Chains) (c : ℕ) (ps : List ℕ) → Has (owners_at o ps) c → (p : ℕ) × Has ps p × (get_or o.owners p 0 ≡ c)
owners-from o c [] h = absurd h
owners-from o c (p ∷ ps) (inl e) = (p, inl refl, sym e)
owners-from o c (p ∷ ps) (inr h) = let r = owners-from o c ps h in (r.0, inr r.1, r.2)

owners-apart : (o : Chains) (ps : List ℕ) → ((p q : ℕ) → Has ps p → Has ps q → get_or o.owners p 0 ≡ get_or o.owners q 0 → p ≡ q) → AreApart ps → AreApart (owners_at o ps)
owners-apart o [] f a = tt
owners-apart o (p ∷ ps) f a = (
  Misses-from (get_or o.owners p 0) (owners_at o ps) (λ h. let r = owners-from o (get_or o.owners p 0) ps h in Misses-not p r.0 ps a.0 r.1 (f p r.0 (inl refl) (inr r.1) (sym r.2))),
  owners-apart o ps (λ q r h i. f q r (inr h) (inr i)) a.1,
)

-- In a clause a literal stands at one index.
index-misses : (l d : Literal) (C : Clause) (j : ℕ) → AllByRecursion (IsBelow l) C → j < length C → get_or C j d ≡ l → ⊥
index-misses l d C j b h e = not_itself_below l (get_or C j d) (sym e) (AllByRecursion-IsIn (IsBelow l) C (get_or C j d) b (get_or-IsIn C j d h))

index-one : (C : Clause) (l d : Literal) (i j : ℕ) → ArePairs IsBelow C → i < length C → j < length C → get_or C i d ≡ l → get_or C j d ≡ l → i ≡ j
index-one [] l d i j o a b e f = absurd (omega arith)
index-one (k ∷ C) l d zero zero o a b e f = refl
index-one (k ∷ C) l d zero (suc j) o a b e f = absurd (index-misses k d C j o.0 (omega arith) (f ∙ sym e))
index-one (k ∷ C) l d (suc i) zero o a b e f = absurd (index-misses k d C i o.0 (omega arith) (e ∙ sym f))
index-one (k ∷ C) l d (suc i) (suc j) o a b e f = ap suc (index-one C l d i j o.1 (omega arith) (omega arith) e f)

-- Two places of one literal in one clause are one.
place-one : (k : Seen) (l : Literal) (p q : ℕ) → IsSound k → Has (places_of k.lists l) p → Has (places_of k.lists l) q → get_or k.lists.owners p 0 ≡ get_or k.lists.owners q 0 → p ≡ q
place-one k l p q s h i e =
    let a = s.linked.listed l p h in
    let b = s.linked.listed l q i in
    let same : a.0 ≡ b.0 = sym a.3 ∙ (e ∙ b.3) in
    let c : IsPlaceIn k.arena b.0 l p = subst (λ (id : ℕ). IsPlaceIn k.arena id l p) same a.2 in
    let d : IsPlaceIn k.arena b.0 l q = b.2 in
    let C : c.clause ≡ d.clause = same_Some c.clause d.clause (sym c.live ∙ d.live) in
    let o : ArePairs IsBelow d.clause = AllByRecursion-IsIn (ArePairs IsBelow) (live (slots k)) d.clause s.proper.ordered (live-slot (slots k) b.0 d.clause (slot-get k.arena.clauses b.0 ∙ d.live)) in
    let n : c.at_index ≡ d.at_index = index-one d.clause l no_lit c.at_index d.at_index o (subst (λ (D : Clause). c.at_index < length D) C c.in_range) d.in_range (subst (λ (D : Clause). get_or D c.at_index no_lit ≡ l) C c.of) d.of in
    c.is ∙ (ap (λ (x : ℕ). start_at k.arena b.0 + x) n ∙ sym d.is)

pub holders-hold : (k : Seen) (l : Literal) → IsSound k → All (λ c. IsHolder k l c) (holders_of k l)
holders-hold k l s = owners-all k.lists (λ c. IsHolder k l c) (places_of k.lists l) (λ p h. record { holds = place-clause k.lists k.arena s.linked l p h })

pub holders-all : (k : Seen) (l : Literal) (c : ℕ) → IsSound k → HoldsLiteral k c l → Contains (holders_of k l) c
holders-all k l c s h = let r = s.owned c l h in owners-has k.lists r.0 c (places_of k.lists l) r.1 r.2

pub holders-once : (k : Seen) (l : Literal) → IsSound k → AreApart (holders_of k l)
holders-once k l s = owners-apart k.lists (places_of k.lists l) (λ p q h i. place-one k l p q s h i) (s.apart l)
