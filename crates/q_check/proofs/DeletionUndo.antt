-- What a deletion by a number leaves in the undo list, told of slots and of numbers.
use Rattle.std.proofs.Common.{◌≡◌, ℕ, true, List, Option, None, Some, inl, inr, refl, sym, ◌∙◌, subst, get_or}
use Rattle.q_logic.specs.Prelude.{Literal, negation, Clause, Prefix, IsIn, plain, Slots, slot, set_slot, live, is_bound, Implied, IsWarranted, one_less, delete}
use Rattle.q_logic.proofs.Common.{implied-within, warranted-within, outers-same, existential-is_bound, SameClauses, alike-trans, same_first}
use Rattle.q_logic.proofs.ClauseCounts.{one_less-same}
use Rattle.q_logic.proofs.HintedRuns.{forward, backward}
use Rattle.q_prop.specs.Slots.{filled, without}
use Rattle.q_prop.proofs.HintSteps.{slot-Holds}
use Rattle.q_judge.specs.declared.undo.Undo.{Undo}
use Rattle.q_judge.specs.Entries.{IsPivotEntry}
use Rattle.q_judge.specs.Tried.{IsEntry}
use Rattle.q_judge.proofs.SlotCollections.{left-same}
use Rattle.q_check.specs.Numbers.{numbered_by, AreNumbered}
use Rattle.q_check.proofs.HintNumbers.{AreLinked, linked, linked-forth, linked-back}
use Rattle.q_check.proofs.HintSlots.{placed-there}

module _ (P : Prefix) (s : Slots) (ps : List (Option ℕ)) (a : AreNumbered s ps) (n h : ℕ) (C : Clause) (e : get_or ps n None ≡ Some h) (f : slot (numbered_by s ps) n ≡ Some C) where
  link : AreLinked (without s (Some h)) (set_slot n None (numbered_by s ps)) ps
  link = subst (λ (o : Option ℕ). AreLinked (without s o) (set_slot n None (numbered_by s ps)) ps) e (linked s ps a (Some n))

  down : (D : Clause) → IsIn D (filled (without s (Some h))) → IsIn D (live (set_slot n None (numbered_by s ps)))
  down = linked-forth (without s (Some h)) (set_slot n None (numbered_by s ps)) ps link

  up : (D : Clause) → IsIn D (live (set_slot n None (numbered_by s ps))) → IsIn D (filled (without s (Some h)))
  up = linked-back (without s (Some h)) (set_slot n None (numbered_by s ps)) ps link

  forth : (D : Clause) → IsIn D (filled (without s (Some h))) → IsIn D (one_less C (live (numbered_by s ps)))
  forth D m = forward (numbered_by s ps) n C f D (down D m)

  back : (D : Clause) → IsIn D (one_less C (live (numbered_by s ps))) → IsIn D (filled (without s (Some h)))
  back D m = up D (backward (numbered_by s ps) n C f D m)

  same : SameClauses (filled (without s (Some h))) (one_less C (live (numbered_by s ps)))
  same = alike-trans (filled (without s (Some h))) (one_less C (filled s)) (one_less C (live (numbered_by s ps)))
      (left-same s h C (slot-Holds s h C (sym (placed-there s ps n h e) ∙ f)))
      (one_less-same C (filled s) (live (numbered_by s ps)) a.alike)

  -- a clause that is implied leaves nothing
  pub implied-left : (p : Option Literal) → Implied (filled (without s (Some h))) C → IsEntry true (plain (record { prefix = P; slots = numbered_by s ps })) (delete p C) None
  implied-left p i = inl (implied-within (filled (without s (Some h))) (one_less C (live (numbered_by s ps))) C forth i, refl)

  warranted : (p : Option Literal) → IsWarranted P (live (set_slot n None (numbered_by s ps))) C p → IsWarranted P (filled (without s (Some h))) C p
  warranted p w = warranted-within P (live (set_slot n None (numbered_by s ps))) (filled (without s (Some h))) C p up down w

  pub pivot-bound : (p : Option Literal) → IsWarranted P (live (set_slot n None (numbered_by s ps))) C p → (Implied (filled (without s (Some h))) C → ⊥) → (l : Literal) → p ≡ Some l → is_bound P l.var ≡ true
  pivot-bound p w unimplied l q = elim (warranted p w) [
    | inl i ↦ absurd (unimplied i)
    | inr v ↦ existential-is_bound P l.var (subst (λ (k : Literal). Rattle.q_logic.specs.Prefixes.is_existential P k.var ≡ true) (same_first p v.0 l v.1 q) v.2.existential_pivot)
  ]

  pub pivot-left : (p : Option Literal) (u : Option Undo) → IsWarranted P (live (set_slot n None (numbered_by s ps))) C p → (Implied (filled (without s (Some h))) C → ⊥) → IsPivotEntry P (filled (without s (Some h))) p u → IsEntry true (plain (record { prefix = P; slots = numbered_by s ps })) (delete p C) u
  pivot-left p u w unimplied g = elim (warranted p w) [
    | inl i ↦ absurd (unimplied i)
    | inr v ↦
        let r = subst (λ (q : Option Literal). IsPivotEntry P (filled (without s (Some h))) q u) v.1 g in
        inr (
          (λ j. unimplied (implied-within (one_less C (live (numbered_by s ps))) (filled (without s (Some h))) C back j)),
          (v.0, r.0, v.1, outers-same P (filled (without s (Some h))) (one_less C (live (numbered_by s ps))) (negation v.0) r.0 same r.1, r.2),
        )
  ]
