use Rattle.std.proofs.Common.{◌≡◌, ◌≤◌, ◌<◌, ◌+◌, ℕ, zero, suc, [], ◌∷◌, ◌++◌, Some, None, take, length, refl, sym, ◌∙◌, ap, subst, arith}
use Rattle.std.proofs.lemmas.List.{append-nil}
use Rattle.q_logic.specs.Prelude.{Clause, Matrix, Slots}
use Rattle.q_prop.specs.Slots.{filled, Holds}
use Rattle.q_prop.proofs.BucketLemmas.{take-next, take-vacant}
use Rattle.q_judge.proofs.SlotCollections.{filled-append}
use Rattle.q_judge.proofs.ledger.Ledger.clauses.Goals as goal

take-past : (s : Slots) (n : ℕ) → length s ≤ n → take n s ≡ s
take-past [] zero h = refl
take-past [] (suc n) h = refl
take-past (x ∷ s) zero h = absurd (omega arith)
take-past (x ∷ s) (suc n) h = ap (λ (t : Slots). x ∷ t) (take-past s n (omega arith))

next : (s : Slots) (n : ℕ) (C : Clause) → Holds s n C → filled (take (n + 1) s) ≡ filled (take n s) ++ C ∷ []
next s n C h = ap filled (take-next s n (Some C) h) ∙ filled-append (take n s) (Some C ∷ [])

vacant : (s : Slots) (n : ℕ) → n < length s → ((C : Clause) → Holds s n C → ⊥) → filled (take (n + 1) s) ≡ filled (take n s)
vacant s n l h = ap filled (take-vacant s n l h) ∙ (filled-append (take n s) (None ∷ []) ∙ append-nil (filled (take n s)))

pub loop-at-preserved : goal.loop-at-preserved
loop-at-preserved c =
    let here : Holds c.args.self.now.slots c.loop-at.at c.in-Some.clause.now = rw (← c.self.view_is) c.in-Some.ensures in
    c.in_ok-push.ensures.ok ∙ (ap (λ (X : Matrix). X ++ c.in-Some.clause.now ∷ []) c.loop-at.invariant ∙ sym (next c.args.self.now.slots c.loop-at.at c.in-Some.clause.now here))

pub loop-at-preserved-in_default : goal.loop-at-preserved-in_default
loop-at-preserved-in_default c =
    let none : (C : Clause) → Holds c.args.self.now.slots c.loop-at.at C → ⊥ = rw (← c.self.view_is) c.in_default.ensures in
    let below : c.loop-at.at < length c.args.self.now.slots = rw (← c.self.view_is) (subst (λ (n : ℕ). c.loop-at.at < n) c.slots-at-end.ensures c.loop-at-test.true) in
    c.loop-at.invariant ∙ sym (vacant c.args.self.now.slots c.loop-at.at below none)

pub returns : goal.returns
returns c =
    let past : length c.args.self.now.slots ≤ c.loop-at.at = rw (← c.self.view_is) (omega (arith, c.loop-at-test.false, c.slots-at-end.ensures)) in
    c.loop-at.invariant ∙ ap filled (take-past c.args.self.now.slots c.loop-at.at past)
