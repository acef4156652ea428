-- What slots say of clauses, told of their numbers.
use Rattle.std.proofs.Common.{◌≡◌, ◌↔◌, inl, inr, ℕ, zero, suc, ◌*◌, ◌+◌, not-suc-le-zero, le_of_suc-le-suc, take, ◌≤◌, Bool, List, [], ◌∷◌, ◌++◌, Option, None, Some, IsTrue, Contains, MatchOption, length, get_or, set, refl, sym, ap, ◌∙◌, subst}
use Rattle.std.proofs.lemmas.List.Elements.{Contains-push_cases}
use Rattle.q_logic.specs.declared.limits.Limits.{Limits}
use Rattle.q_logic.specs.Prelude.{Literal, Clause, Prefix, IsIn, Slots, slot, set_slot, live, Reducible, KeepsLimits, IsAbsent, literals_in}
use Rattle.q_logic.proofs.Common.{reducible-within, IsIn-Contains, Contains-IsIn, slot-set_other}
use Rattle.q_logic.proofs.ClauseCounts.{same-sizes}
use Rattle.q_prop.specs.Holders.{IsHolder}
use Rattle.q_prop.specs.Slots.{Holds, filled, without}
use Rattle.q_prop.proofs.HintSteps.{slot-Holds, Holds-slot}
use Rattle.q_prop.proofs.ListMembers.{Contains-along}
use Rattle.q_judge.proofs.SlotCollections.{in-held}
use Rattle.q_check.specs.Numbers.{IsAt, numbered_by, AreNumbered, left_out, HasNamed, HaveNamed}
use Rattle.q_check.proofs.NumberedSteps.{numbered-at, numbered-back}
use Rattle.q_check.proofs.HintNumbers.{AreLinked, linked, linked-forth, linked-back, slot-emptied}

pub place-at : (ps : List (Option ℕ)) (n k : ℕ) → get_or ps n None ≡ Some k → IsAt ps n k
place-at [] n k e = cc
place-at (p ∷ ps) zero k e = ap Some e
place-at (p ∷ ps) (suc n) k e = place-at ps n k e

pub at-place : (ps : List (Option ℕ)) (n k : ℕ) → IsAt ps n k → get_or ps n None ≡ Some k
at-place [] n k e = cc
at-place (p ∷ ps) zero k e = cc
at-place (p ∷ ps) (suc n) k e = at-place ps n k e

pub set-last : (ps : List (Option ℕ)) (x y : Option ℕ) → set (ps ++ x ∷ []) (length ps) y ≡ ps ++ y ∷ []
set-last [] x y = refl
set-last (p ∷ ps) x y = ap (λ (qs : List (Option ℕ)). p ∷ qs) (set-last ps x y)

module _ (s : Slots) (ps : List (Option ℕ)) (a : AreNumbered s ps) where
  pub sizes : (length (filled s) ≡ length (live (numbered_by s ps))) × (literals_in (filled s) ≡ literals_in (live (numbered_by s ps)))
  sizes = same-sizes (filled s) (live (numbered_by s ps)) a.alike

  pub room : (m : Limits) (C : Clause) (b : Bool) → IsTrue b ↔ KeepsLimits m (C ∷ filled s) → IsTrue b ↔ KeepsLimits m (C ∷ live (numbered_by s ps))
  room m C b e = (
    (λ t. let k = e.0 t in record {
      clauses = subst (λ (n : ℕ). suc n ≤ 4 * m.clauses) sizes.0 k.clauses;
      lits = subst (λ (n : ℕ). length C + n ≤ 4 * m.lits) sizes.1 k.lits;
    }),
    (λ k. e.1 (record {
      clauses = subst (λ (n : ℕ). suc n ≤ 4 * m.clauses) (sym sizes.0) k.clauses;
      lits = subst (λ (n : ℕ). length C + n ≤ 4 * m.lits) (sym sizes.1) k.lits;
    })),
  )

  pub forth : (D : Clause) → IsIn D (filled s) → IsIn D (live (numbered_by s ps))
  forth = linked-forth s (numbered_by s ps) ps (linked s ps a None)

  pub back : (D : Clause) → IsIn D (live (numbered_by s ps)) → IsIn D (filled s)
  back = linked-back s (numbered_by s ps) ps (linked s ps a None)

  pub absent : (v : ℕ) (b : Bool) → IsTrue b ↔ IsAbsent (filled s) v → IsTrue b ↔ IsAbsent (live (numbered_by s ps)) v
  absent v b e = ((λ t D m. e.0 t D (back D m)), (λ f. e.1 (λ D m. f D (forth D m))))

  pub found : (C : Clause) (k : ℕ) (o : Option ℕ) → Holds s k C → MatchOption o ((n : ℕ) → IsAt ps n k → ⊥) (λ n. IsAt ps n k) →
      MatchOption o (¬ IsIn C (live (numbered_by s ps))) (λ n. slot (numbered_by s ps) n ≡ Some C)
  found C k None h e = λ m. let n = a.named k C h in e n.0 n.1
  found C k (Some n) h e = numbered-at s ps n k e ∙ Holds-slot s k C h

  pub not_found : (C : Clause) → ((k : ℕ) → Holds s k C → ⊥) → IsIn C (live (numbered_by s ps)) → ⊥
  not_found C f m = let h = in-held s C (back C m) in f h.0 h.1

  -- the slot of a clause by its number
  pub held-at : (n k : ℕ) (C : Clause) → slot (numbered_by s ps) n ≡ Some C → get_or ps n None ≡ Some k → IsAt ps n k × Holds s k C
  held-at n k C e q =
      let i = place-at ps n k q in
      (i, slot-Holds s k C (sym (numbered-at s ps n k i) ∙ e))

  pub has-place : (n : ℕ) (C : Clause) → slot (numbered_by s ps) n ≡ Some C → (k : ℕ) × (get_or ps n None ≡ Some k)
  has-place n C e = let h = numbered-back s ps n C e in (h.0, at-place ps n h.0 h.1)

  pub reducible : (P : Prefix) (C : Clause) (l : Literal) (n k : ℕ) → get_or ps n None ≡ Some k →
      Reducible P (filled (without s (Some k))) C l ↔ Reducible P (live (set_slot n None (numbered_by s ps))) C l
  reducible P C l n k q =
      let w : AreLinked (without s (Some k)) (set_slot n None (numbered_by s ps)) ps =
      subst (λ (o : Option ℕ). AreLinked (without s o) (set_slot n None (numbered_by s ps)) ps) q (linked s ps a (Some n)) in (
        reducible-within P (filled (without s (Some k))) (live (set_slot n None (numbered_by s ps))) C l
            (linked-back (without s (Some k)) (set_slot n None (numbered_by s ps)) ps w),
        reducible-within P (live (set_slot n None (numbered_by s ps))) (filled (without s (Some k))) C l
            (linked-forth (without s (Some k)) (set_slot n None (numbered_by s ps)) ps w),
      )

-- Names that have come.
pub have-none : (ps : List (Option ℕ)) (skip : Option ℕ) (xs : List ℕ) → xs ≡ [] → HaveNamed ps [] skip xs
have-none ps skip xs e k = (
  (λ m. absurd (Rattle.q_prop.proofs.ListMembers.Contains-nil k (subst (λ (ys : List ℕ). Contains ys k) e m))),
  (λ x. absurd (Rattle.q_prop.proofs.ListMembers.Contains-nil x.0 x.1)),
)

pub have-push : (ps : List (Option ℕ)) (hs : List ℕ) (h : ℕ) (skip : Option ℕ) (old new : List ℕ) → HaveNamed ps hs skip old → HasNamed ps h skip old new → HaveNamed ps (hs ++ h ∷ []) skip new
have-push ps hs h skip old new f g k = (
  (λ m. elim ((g k).0 m) [
    | inl o ↦ let x = (f k).0 o in (x.0, Rattle.std.proofs.lemmas.List.Elements.Contains-append_left hs (h ∷ []) x.0 x.1, x.2, x.3)
    | inr o ↦ (h, Rattle.std.proofs.lemmas.List.Elements.Contains-push hs h, o.0, o.1)
  ]),
  (λ x. (g k).1 (elim (Contains-push_cases hs h x.0 x.1) [
    | inl m ↦ inl ((f k).1 (x.0, m, x.2, x.3))
    | inr e ↦ inr (subst (λ (y : ℕ). IsAt ps k y) (sym e) x.2, x.3)
  ])),
)

pub take-whole : (xs : List ℕ) (n : ℕ) → length xs ≤ n → take n xs ≡ xs
take-whole [] zero l = refl
take-whole [] (suc n) l = refl
take-whole (x ∷ xs) zero l = absurd (not-suc-le-zero l)
take-whole (x ∷ xs) (suc n) l = ap (λ (ys : List ℕ). x ∷ ys) (take-whole xs n (le_of_suc-le-suc l))

-- what is at a number that is not left out
kept-slot : (skip : Option ℕ) (N : Slots) (k : ℕ) (D : Clause) → (skip ≡ Some k → ⊥) → slot N k ≡ Some D → slot (left_out skip N) k ≡ Some D
kept-slot None N k D d e = e
kept-slot (Some j) N k D d e = slot-set_other j k None N (λ q. d (ap (λ (i : ℕ). Some i) (sym q))) ∙ e

left-slot : (skip : Option ℕ) (N : Slots) (k : ℕ) (D : Clause) → slot (left_out skip N) k ≡ Some D → (skip ≡ Some k → ⊥) × (slot N k ≡ Some D)
left-slot None N k D e = ((λ q. cc), e)
left-slot (Some j) N k D e = let r = slot-emptied N j k D e in ((λ q. r.0 (sym (same j k q))), r.1)
  where
    same : (i h : ℕ) → Some i ≡ Some h → i ≡ h
    same i h q = cc

module _ (s : Slots) (ps : List (Option ℕ)) (a : AreNumbered s ps) (m : Literal) (skip : Option ℕ) (hs names : List ℕ)
    (holders : (h : ℕ) → Contains hs h ↔ IsHolder s h m) (have : HaveNamed ps hs skip names) where
  pub named-holds : (k : ℕ) → Contains names k → (D : Clause) × (slot (left_out skip (numbered_by s ps)) k ≡ Some D) × IsIn m D
  named-holds k c =
      let x = (have k).0 c in
      let h = (holders x.0).0 x.1 in
      (h.0, kept-slot skip (numbered_by s ps) k h.0 x.3 (numbered-at s ps k x.0 x.2 ∙ Holds-slot s x.0 h.0 h.1), Contains-IsIn m h.0 h.2)

  pub holds-named : (k : ℕ) (D : Clause) → slot (left_out skip (numbered_by s ps)) k ≡ Some D → IsIn m D → Contains names k
  holds-named k D e i =
      let l = left-slot skip (numbered_by s ps) k D e in
      let h = numbered-back s ps k D l.1 in
      (have k).1 (h.0, (holders h.0).1 (D, slot-Holds s h.0 D h.2, IsIn-Contains m D i), h.1, l.0)
