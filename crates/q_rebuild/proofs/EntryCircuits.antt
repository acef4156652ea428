-- Along a run, whatever an entry of the undo list holds has a circuit or is a universal of the first formula.
use Rattle.std.proofs.Common.{◌≡◌, ℕ, Bool, true, false, cond, List, [], ◌∷◌, ◌++◌, inl, inr, arith, sym, ◌∙◌, subst}
use Rattle.std.proofs.lemmas.Bool.{cases_Bool}
use Rattle.q_logic.specs.Prelude.{Literal, negation, Prefix, Clause, IsIn, PrenexFormula, is_existential, is_universal, is_bound, IsFormula, Distinct, Strategy, Lawful, ProofStep, add, delete, drop_literal, fresh, remove_variable, one_less, insert_after, removed_from, after, UndoEntry, pivot, removed, freshened, Back, Entries, OutersOf, Undos}
use Rattle.q_logic.proofs.Common.{JustifiedSteps, JustifiedRun, IsIn-outer, one_less-IsIn, at_or_other, is_bound-universal, removed-unbound, after-formula, rebuilt-lawful, universal-is_bound, removed-is_universal}
use Rattle.q_logic.proofs.Blocks.{lawful-same, Same-itself}
use Rattle.q_logic.proofs.Outers.{outers-members}
use Rattle.q_certificate.specs.Prelude.{IsCovered, OutersCovered, EntryCovered}
use Rattle.q_rebuild.specs.TakenBack.{AreCovered}

insert-universal : (w v : ℕ) (P : Prefix) (x : ℕ) → is_universal (insert_after w v P) x ≡ true → is_universal P x ≡ true
insert-universal w v [] x h = h
insert-universal w v (b ∷ P) x h = grind (arith, insert-universal w v P x)

removed-universal : (v : ℕ) (P : Prefix) → Distinct P → (x : ℕ) → is_universal (removed_from v P) x ≡ true → is_universal P x ≡ true
removed-universal v P d = at_or_other v (λ x. is_universal (removed_from v P) x ≡ true → is_universal P x ≡ true)
    (λ h. let a : is_bound (removed_from v P) v ≡ true = universal-is_bound (removed_from v P) v h in
    let b : is_bound (removed_from v P) v ≡ false = removed-unbound v P d in absurd (cc))
    (λ x n h. sym (removed-is_universal v P x n) ∙ h)

-- no step makes a universal
pub after-universal : (F : PrenexFormula) (s : ProofStep) → IsFormula F → (x : ℕ) → is_universal (after F s).prefix x ≡ true → is_universal F.prefix x ≡ true
after-universal F (add p C) f x h = h
after-universal F (delete p C) f x h = h
after-universal F (drop_literal l C) f x h = h
after-universal F (fresh v w) f x h = insert-universal w v F.prefix x h
after-universal F (remove_variable v) f x h = removed-universal v F.prefix f.distinct x h

covered-more : (U V : ℕ → Bool) → ((x : ℕ) → U x ≡ true → V x ≡ true) → (us : List UndoEntry) (c : Strategy) → AreCovered U us c → AreCovered V us c
covered-more U V m [] c h = tt
covered-more U V m (u ∷ us) c h = (entry u h.0, covered-more U V m us c h.1)
  where
    one : (k : Literal) (d : Strategy) → IsCovered U d k → IsCovered V d k
    one k d h = elim h [ inl a ↦ inl a | inr b ↦ inr (m k.var b) ]

    entry : (u : UndoEntry) → EntryCovered U u (Back us c) → EntryCovered V u (Back us c)
    entry (pivot l outers) h = λ O i k j. one k (Back us c) (h O i k j)
    entry (removed v) h = tt
    entry (freshened v) h = tt

-- the outer clauses of a formula
outers-covered : (F : PrenexFormula) (C : Clause) (m : Literal) (Os : List Clause) (c : Strategy) → IsFormula F → OutersOf F.prefix (one_less C F.matrix) m Os → Lawful F.prefix c → OutersCovered (is_universal F.prefix) c Os
outers-covered F C m Os c f os l O i k j =
    let d = (outers-members F.prefix (one_less C F.matrix) m Os os).no_other O i in
    let inD : IsIn k d.0 = (IsIn-outer F.prefix m d.0 k (subst (IsIn k) d.3 j)).0 in
    let b : is_bound F.prefix k.var ≡ true = f.closed d.0 (one_less-IsIn C F.matrix d.0 d.1) k inD in
    elim (cases_Bool (is_existential F.prefix k.var)) [
      | inl e ↦ inl (l.trees k.var ∙ e)
      | inr e ↦ inr (is_bound-universal F.prefix k.var b e)
    ]

step-covered : (F : PrenexFormula) (s : ProofStep) (us rest : List UndoEntry) (c : Strategy) → IsFormula F → Entries F s us → Lawful (after F s).prefix (Back rest c) → AreCovered (is_universal F.prefix) rest c → AreCovered (is_universal F.prefix) (us ++ rest) c
step-covered F (add p C) us rest c f e l h = subst (λ us. AreCovered (is_universal F.prefix) (us ++ rest) c) (sym e) h
step-covered F (delete p C) us rest c f (inl e) l h = subst (λ us. AreCovered (is_universal F.prefix) (us ++ rest) c) (sym e.1) h
step-covered F (delete p C) us rest c f (inr (n, (m, Os, is, os, e))) l h =
    subst (λ us. AreCovered (is_universal F.prefix) (us ++ rest) c) (sym e) (outers-covered F C (negation m) Os (Back rest c) f os l, h)
step-covered F (drop_literal k C) us rest c f e l h = subst (λ us. AreCovered (is_universal F.prefix) (us ++ rest) c) (sym e) h
step-covered F (fresh v w) us rest c f e l h = subst (λ us. AreCovered (is_universal F.prefix) (us ++ rest) c) (sym e) (tt, h)
step-covered F (remove_variable v) us rest c f e l h =
    subst (λ us. AreCovered (is_universal F.prefix) (us ++ rest) c) (sym e) (go (is_existential F.prefix v))
  where
    go : (b : Bool) → AreCovered (is_universal F.prefix) (cond b (removed v ∷ []) [] ++ rest) c
    go true = (tt, h)
    go false = h

steps-covered : (F : PrenexFormula) (ss : List ProofStep) (E : PrenexFormula) (us : List UndoEntry) (c : Strategy) → IsFormula F → JustifiedSteps F ss E → Undos F ss us → Lawful E.prefix c → AreCovered (is_universal F.prefix) us c
steps-covered F [] E us c f r u l = subst (λ us. AreCovered (is_universal F.prefix) us c) (sym u) tt
steps-covered F (s ∷ ss) E us c f r (es, rest, e, u, is) l =
    let g : IsFormula (after F s) = after-formula F s f r.0 in
    let below = steps-covered (after F s) ss E rest c g r.1 u l in
    let lawful : Lawful (after F s).prefix (Back rest c) = rebuilt-lawful (after F s) ss E rest c g (record { last = E; steps = r.1; same = Same-itself E }) u l in
    subst (λ us. AreCovered (is_universal F.prefix) us c) (sym is)
    (step-covered F s es rest c f e lawful (covered-more (is_universal (after F s).prefix) (is_universal F.prefix) (after-universal F s f) rest c below))

pub run-covered : (F : PrenexFormula) (ss : List ProofStep) (G : PrenexFormula) (us : List UndoEntry) (c : Strategy) → IsFormula F → JustifiedRun F ss G → Undos F ss us → Lawful G.prefix c → AreCovered (is_universal F.prefix) us c
run-covered F ss G us c f r u l = steps-covered F ss r.last us c f r.steps u (lawful-same r.last G c r.same l)

-- the last formula's universals are universals of the first
pub steps-universal : (F : PrenexFormula) (ss : List ProofStep) (E : PrenexFormula) → IsFormula F → JustifiedSteps F ss E → (x : ℕ) → is_universal E.prefix x ≡ true → is_universal F.prefix x ≡ true
steps-universal F [] E f r x h = subst (λ (G : PrenexFormula). is_universal G.prefix x ≡ true) (sym r) h
steps-universal F (s ∷ ss) E f r x h = after-universal F s f x (steps-universal (after F s) ss E (after-formula F s f r.0) r.1 x h)
