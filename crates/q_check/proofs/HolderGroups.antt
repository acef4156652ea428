-- Groups of hints, one for each clause that holds a literal.
use Rattle.std.proofs.Common.{◌≡◌, ◌<◌, ◌≤◌, ◌+◌, ◌++◌, ℕ, zero, suc, List, [], ◌∷◌, Option, None, Some, inl, inr, refl, sym, ap, ◌∙◌, subst, map, length, arith}
use Rattle.std.proofs.lemmas.Bool.{cases_eq}
use Rattle.q_logic.specs.Prelude.{Literal, Clause, Prefix, IsIn, Chained, HintGroup, Resolved, numbers_with, Slots, slot, set_slot, outer}
use Rattle.q_logic.specs.ProofParts.{group_at}
use Rattle.q_logic.proofs.Common.{slot-set_none, slot-set_other}
use Rattle.q_check.specs.Numbers.{left_out}
use Rattle.q_check.proofs.AscendingNumbers.{with-in}

group-in : (gs : List HintGroup) (i : ℕ) → i < length gs → IsIn (group_at gs i) gs
group-in [] i l = absurd (omega arith)
group-in (g ∷ gs) zero l = inl refl
group-in (g ∷ gs) (suc i) l = inr (group-in gs i (omega arith))

target-in : (gs : List HintGroup) (i : ℕ) → i < length gs → IsIn (group_at gs i).target (map (λ g. g.target) gs)
target-in [] i l = absurd (omega arith)
target-in (g ∷ gs) zero l = inl refl
target-in (g ∷ gs) (suc i) l = inr (target-in gs i (omega arith))

in-group : (gs : List HintGroup) (g : HintGroup) → IsIn g gs → (i : ℕ) × (i < length gs) × (group_at gs i ≡ g)
in-group [] g m = elim m [ ]
in-group (h ∷ gs) g (inl e) = (0, omega arith, sym e)
in-group (h ∷ gs) g (inr m) = let r = in-group gs g m in (suc r.0, (let l : r.0 < length gs = r.1 in omega arith), r.2)

-- a clause that stands beside the one left out stands there anyhow
pub left-slot : (skip : Option ℕ) (N : Slots) (k : ℕ) (D : Clause) → slot (left_out skip N) k ≡ Some D → slot N k ≡ Some D
left-slot None N k D e = e
left-slot (Some n) N k D e = elim (cases_eq k n) [
  | inl q ↦ absurd (other (sym (slot-set_none n N) ∙ ap (slot (set_slot n None N)) (sym q) ∙ e))
  | inr d ↦ sym (slot-set_other n k None N d) ∙ e
]
  where
    other : None ≡ Some D → ⊥
    other x = cc

module _ (P : Prefix) (N : Slots) (base : Clause) (m : Literal) (gs : List HintGroup) where
  -- the hints of the group at a place show its clause
  abbrev pub IsGroupShown : ℕ → Type 0
  IsGroupShown i = (D : Clause) → slot N (group_at gs i).target ≡ Some D → Chained N (base ++ outer P m D) (group_at gs i).hints

  pub group-fails : (i : ℕ) → i < length gs → ((D : Clause) → slot N (group_at gs i).target ≡ Some D → Chained N (base ++ outer P m D) (group_at gs i).hints → ⊥) → Resolved P N base m gs → ⊥
  group-fails i l f r =
      let t = subst (λ (ts : List ℕ). IsIn (group_at gs i).target ts) r.targets (target-in gs i l) in
      let w = with-in m 0 N (group_at gs i).target t in
      let q : (group_at gs i).target ≡ w.0 = (let e : (group_at gs i).target ≡ 0 + w.0 = w.2 in omega arith) in
      let there : slot N (group_at gs i).target ≡ Some w.1 = ap (slot N) q ∙ w.3 in
      f w.1 there (r.each (group_at gs i) (group-in gs i l) w.1 there)

  pub groups-more : (at' : ℕ) → ((i : ℕ) → i < at' → IsGroupShown i) → IsGroupShown at' → (i : ℕ) → i < at' + 1 → IsGroupShown i
  groups-more at' before here i l = elim (cases_eq i at') [
    | inl q ↦ subst IsGroupShown (sym q) here
    | inr d ↦ before i (omega (arith, d))
  ]

  pub groups-all : (at' : ℕ) → map (λ g. g.target) gs ≡ numbers_with m 0 N → length gs ≤ at' → ((i : ℕ) → i < at' → IsGroupShown i) → Resolved P N base m gs
  groups-all at' targets e all = record {
    targets = targets;
    each = λ g i D q.
        let r = in-group gs g i in
        let l : r.0 < at' = (let k = r.1 in omega arith) in
        let t : slot N (group_at gs r.0).target ≡ Some D = ap (λ (h : HintGroup). slot N h.target) r.2 ∙ q in
        subst (λ (h : HintGroup). Chained N (base ++ outer P m D) h.hints) r.2 (all r.0 l D t);
  }
