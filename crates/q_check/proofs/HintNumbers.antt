-- Hints by slots and hints by numbers.
use Rattle.std.proofs.Common.{◌≡◌, ◌≢◌, ◌↔◌, ℕ, zero, suc, List, [], ◌∷◌, ◌++◌, ◌⊎◌, inl, inr, refl, sym, ap, ◌∙◌, subst, Option, None, Some, slice_get, get_or, set, Bool, true, false, IsTrue, MatchBool}
use Rattle.q_logic.specs.Prelude.{Literal, Clause, IsIn, Follows, Chained, Slots, slot, set_slot, live, Implied, negations}
use Rattle.q_logic.proofs.Common.{implied-within, live-slot, slot-set_other}
use Rattle.q_logic.proofs.HintChains.{live-number}
use Rattle.q_prop.specs.Slots.{Holds, filled, without}
use Rattle.q_prop.proofs.HintSteps.{slot-Holds, Holds-slot}
use Rattle.q_prop.proofs.SlotLemmas.{without-le, without-here, without-other}
use Rattle.q_judge.proofs.SlotCollections.{held-in, in-held}
use Rattle.q_check.specs.Numbers.{IsAt, look, numbered_by, AreNumbered, left_out, place_in, AreNumbersOf, Explains}
use Rattle.q_check.proofs.NumberedSteps.{IsAt-one, numbered-at, numbered-back}

-- the same clauses stand in slots and at their numbers
pub record AreLinked (S N : Slots) (ps : List (Option ℕ)) : Type 0 where
  pub there : (h : ℕ) (D : Clause) → slot S h ≡ Some D → (n : ℕ) × IsAt ps n h × (slot N n ≡ Some D)
  pub back : (n : ℕ) (D : Clause) → slot N n ≡ Some D → (h : ℕ) × IsAt ps n h × (slot S h ≡ Some D)
  pub apart : (m n h : ℕ) → IsAt ps m h → IsAt ps n h → m ≡ n

pub slot-emptied : (N : Slots) (n m : ℕ) (D : Clause) → slot (set_slot n None N) m ≡ Some D → (m ≢ n) × (slot N m ≡ Some D)
slot-emptied [] n m D e = cc
slot-emptied (x ∷ N) zero zero D e = cc
slot-emptied (x ∷ N) zero (suc m) D e = ((λ q. cc), e)
slot-emptied (x ∷ N) (suc n) zero D e = ((λ q. cc), e)
slot-emptied (x ∷ N) (suc n) (suc m) D e = let r = slot-emptied N n m D e in ((λ q. r.0 (same_pred m n q)), r.1)
  where
    same_pred : (i j : ℕ) → suc i ≡ suc j → i ≡ j
    same_pred i j q = omega Rattle.std.proofs.Common.arith

module _ (s : Slots) (ps : List (Option ℕ)) (a : AreNumbered s ps) where
  linked-all : AreLinked s (numbered_by s ps) ps
  linked-all = record {
    there = λ h D e.
        let n = a.named h D (slot-Holds s h D e) in
        (n.0, n.1, numbered-at s ps n.0 h n.1 ∙ e);
    back = numbered-back s ps;
    apart = a.apart;
  }

  linked-but : (n k : ℕ) → IsAt ps n k → AreLinked (without s (Some k)) (set_slot n None (numbered_by s ps)) ps
  linked-but n k i = record {
    there = λ h D e.
        let g = slot-Holds (without s (Some k)) h D e in
        let m = a.named h D (without-le s (Some k) h D g) in
        let d : m.0 ≢ n = λ q. without-here s k D (subst (λ (x : ℕ). Holds (without s (Some k)) x D) (IsAt-one ps n h k (subst (λ (x : ℕ). IsAt ps x h) q m.1) i) g) in
        (m.0, m.1, slot-set_other n m.0 None (numbered_by s ps) d ∙ numbered-at s ps m.0 h m.1 ∙ Holds-slot s h D (without-le s (Some k) h D g));
    back = λ m D e.
        let r = slot-emptied (numbered_by s ps) n m D e in
        let h = numbered-back s ps m D r.1 in
        let d : h.0 ≢ k = λ q. r.0 (a.apart m n k (subst (λ (x : ℕ). IsAt ps m x) q h.1) i) in
        (h.0, h.1, Holds-slot (without s (Some k)) h.0 D (without-other s k h.0 d ∙ slot-Holds s h.0 D h.2));
    apart = a.apart;
  }

  -- a number without a slot leaves nothing out
  none-out : (n : ℕ) → get_or ps n None ≡ None → set_slot n None (numbered_by s ps) ≡ numbered_by s ps
  none-out n e = none ps n e
    where
      none : (qs : List (Option ℕ)) (n : ℕ) → get_or qs n None ≡ None → set_slot n None (numbered_by s qs) ≡ numbered_by s qs
      none [] n e = refl
      none (q ∷ qs) zero e = ap (λ (o : Option ℕ). look s o ∷ numbered_by s qs) (sym e)
      none (q ∷ qs) (suc n) e = ap (λ (N : Slots). look s q ∷ N) (none qs n e)

  pub linked : (skip : Option ℕ) → AreLinked (without s (place_in ps skip)) (left_out skip (numbered_by s ps)) ps
  linked None = linked-all
  linked (Some n) = go (get_or ps n None) refl
    where
      at_place : (qs : List (Option ℕ)) (n k : ℕ) → get_or qs n None ≡ Some k → IsAt qs n k
      at_place [] n k e = cc
      at_place (q ∷ qs) zero k e = ap Some e
      at_place (q ∷ qs) (suc n) k e = at_place qs n k e

      go : (o : Option ℕ) → get_or ps n None ≡ o → AreLinked (without s o) (set_slot n None (numbered_by s ps)) ps
      go None e = subst (λ (N : Slots). AreLinked s N ps) (sym (none-out n e)) linked-all
      go (Some k) e = linked-but n k (at_place ps n k e)

module _ (S N : Slots) (ps : List (Option ℕ)) (l : AreLinked S N ps) where
  pub linked-forth : (D : Clause) → IsIn D (filled S) → IsIn D (live N)
  linked-forth D m =
      let h = in-held S D m in
      let n = l.there h.0 D (Holds-slot S h.0 D h.1) in
      live-slot N n.0 D n.2

  pub linked-back : (D : Clause) → IsIn D (live N) → IsIn D (filled S)
  linked-back D m =
      let n = live-number N D m in
      let h = l.back n.0 D n.1 in
      held-in S h.0 D (slot-Holds S h.0 D h.2)

  follows-linked : (K : List Literal) (hs ks : List ℕ) → AreNumbersOf ps hs ks → Follows S K hs → Follows N K ks
  follows-linked K [] [] o f = f
  follows-linked K [] (k ∷ ks) o f = absurd o
  follows-linked K (h ∷ hs) [] o f = absurd o
  follows-linked K (h ∷ hs) (k ∷ ks) (o, os) (D, e, r) =
      let n = l.there h D e in
      let q : n.0 ≡ k = l.apart n.0 k h n.1 (o n.0 n.1) in
      let there : slot N k ≡ Some D = subst (λ (x : ℕ). slot N x ≡ Some D) q n.2 in
      go there (λ j f. follows-linked (j ∷ K) hs ks os f) r
    where
      none : (xs ys : List ℕ) → AreNumbersOf ps xs ys → xs ≡ [] → ys ≡ []
      none [] [] o e = refl
      none [] (y ∷ ys) o e = absurd o
      none (x ∷ xs) ys o e = cc

      go : slot N k ≡ Some D → ((j : Literal) → Follows S (j ∷ K) hs → Follows N (j ∷ K) ks) → ((hs ≡ []) × Rattle.q_logic.specs.Hints.IsRefuted K D) ⊎ ((j : Literal) × Rattle.q_logic.specs.Hints.LeavesOne K D j × Follows S (j ∷ K) hs) → Follows N K (k ∷ ks)
      go there ih (inl (last, r)) = (D, there, inl (none hs ks os last, r))
      go there ih (inr (j, one, f)) = (D, there, inr (j, one, ih j f))

  pub chained-linked : (C : Clause) (hs ks : List ℕ) → AreNumbersOf ps hs ks → Chained S C hs → Chained N C ks
  chained-linked C hs ks o (inl (t, e)) = inl (t, none hs ks o e)
    where
      none : (xs ys : List ℕ) → AreNumbersOf ps xs ys → xs ≡ [] → ys ≡ []
      none [] [] o e = refl
      none [] (y ∷ ys) o e = absurd o
      none (x ∷ xs) ys o e = cc
  chained-linked C hs ks o (inr (n, f)) = inr (n, follows-linked (negations C) hs ks o f)

  -- an answer over the slots, with the numbers of the hints
  pub explained : (C : Clause) (hs ks : List ℕ) (yes : Bool) → AreNumbersOf ps hs ks → IsTrue yes ↔ Implied (filled S) C →
      MatchBool yes (Chained S C hs) (hs ≡ []) → Explains N C ks yes
  explained C hs ks true o e m = chained-linked C hs ks o m
  explained C hs ks false o e m = λ i. Rattle.std.proofs.Common.true≢false (sym (e.1 (implied-within (live N) (filled S) C linked-back i)))

-- One more slot, and its number.
pub numbers-push : (ps : List (Option ℕ)) (hs ks : List ℕ) (h k : ℕ) → AreNumbersOf ps hs ks → ((n : ℕ) → IsAt ps n h → IsAt ps k h) →
    AreNumbersOf ps (hs ++ h ∷ []) (ks ++ k ∷ [])
numbers-push ps [] [] h k o f = (f, tt)
numbers-push ps [] (y ∷ ks) h k o f = absurd o
numbers-push ps (x ∷ hs) [] h k o f = absurd o
numbers-push ps (x ∷ hs) (y ∷ ks) h k o f = (o.0, numbers-push ps hs ks h k o.1 f)
