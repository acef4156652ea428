-- Runs keep the truth, and undo lists give Skolem functions back.
use Rattle.std.proofs.Common.{◌≡◌, Bool, true, false, cond, List, [], ◌∷◌, ◌++◌, ◌⊎◌, ◌↔◌, inl, inr, refl, sym, ap, ◌∙◌, subst, Option, Some, None}
use Rattle.q_logic.proofs.Justified.{Justified, JustifiedSteps, JustifiedRun}
use Rattle.q_logic.specs.Prelude.{Literal, negation, Prefix, Clause, Matrix, IsIn, PrenexFormula, is_existential, is_bound, IsFormula, Holds, constant, Implied, ExistsPivot, without, one_less, insert_after, ProofStep, add, delete, drop_literal, fresh, remove_variable, FirstPivot, after, SameFormula, all_of, every_outer, pivoted, UndoEntry, removed, freshened, with_circuit, taken_back, Back, Entries, Undos}
use Rattle.q_logic.specs.Skolems.{Strategy, reread, outcome, Skolem, Lawful, SkolemOf}
use Rattle.q_logic.proofs.TruthDecided.{true_decided}
use Rattle.q_logic.proofs.Blocks.{skolem-same, lawful-same, Same-sym}
use Rattle.q_logic.proofs.Propagation.{implied-true}
use Rattle.q_logic.proofs.Pivot.{AreOuters, pivot-keeps, pivot-lawful, outers-near}
use Rattle.q_logic.proofs.Outers.{outers-members}
use Rattle.q_logic.proofs.UniversalPivot.{without-IsIn, forall_pivot-keeps, lowered, every_outers}
use Rattle.q_logic.proofs.Reduction.{reduction-keeps, some_reached, reduced}
use Rattle.q_logic.proofs.Truth.{true_has-skolem, skolem_makes-true}
use Rattle.q_logic.proofs.Prefixes.{insert-distinct, insert-is_bound, insert-itself, removed-is_bound, removed-distinct}
use Rattle.q_logic.proofs.PrefixOrder.{existential-is_bound}
use Rattle.q_logic.proofs.Runs.{one_less-IsIn, IsIn-one_less, Skolem-fewer, Skolem-first, Skolem-longer, fresh-back, fresh-lawful, fresh-on, removed-back, removed-lawful, removed-on, at_or_other}

-- What a step leaves is a formula.
pub after-formula : (F : PrenexFormula) (s : ProofStep) → IsFormula F → Justified F s →
    IsFormula (after F s)
after-formula F (add p C) f v =
    record {
      distinct = f.distinct;
      closed = λ D m. elim m [
        | inl e ↦ (λ k i. v.0 k (subst (IsIn k) e i))
        | inr r ↦ f.closed D r
      ];
    }
after-formula F (delete p C) f v =
    record { distinct = f.distinct; closed = λ D m. f.closed D (one_less-IsIn C F.matrix D m) }
after-formula F (drop_literal l C) f v =
    record {
      distinct = f.distinct;
      closed = λ D m. elim m [
        | inl e ↦ (λ k i. f.closed C v.0 k (without-IsIn l C k (subst (IsIn k) e i)))
        | inr r ↦ f.closed D (one_less-IsIn C F.matrix D r)
      ];
    }
after-formula F (fresh v w) f h = record {
  distinct = insert-distinct w v F.prefix h.0 f.distinct;
  closed = λ D m k i.
      at_or_other v (λ x. is_bound F.prefix x ≡ true →
      is_bound (insert_after w v F.prefix) x ≡ true)
      (λ z. existential-is_bound (insert_after w v F.prefix) v (insert-itself w v F.prefix h.0 h.1))
      (λ x q z. insert-is_bound w v F.prefix x q ∙ z) k.var (f.closed D m k i);
}
after-formula F (remove_variable v) f h =
    record {
      distinct = removed-distinct v F.prefix f.distinct;
      closed = λ D m k i. removed-is_bound v F.prefix k.var (h.1 D m k i) ∙ f.closed D m k i;
    }

-- Skolem functions of what is left give those of what was there.
pivot_back : (P : Prefix) (X : Matrix) (C : Clause) (l : Literal) (Os : List Clause) (c : Strategy) →
    ExistsPivot P (one_less C X) C l → AreOuters P (one_less C X) (negation l) Os →
    Skolem P (one_less C X) c → Skolem P X (pivoted l Os c)
pivot_back P X C l Os c pv os sk =
    Skolem-fewer P (C ∷ one_less C X) X (pivoted l Os c) (IsIn-one_less C X)
    (pivot-keeps P (one_less C X) C l Os c pv os sk)

implied_back : (P : Prefix) (X : Matrix) (C : Clause) (c : Strategy) → Implied (one_less C X) C →
    Skolem P (one_less C X) c → Skolem P X c
implied_back P X C c i sk =
    Skolem-fewer P (C ∷ one_less C X) X c (IsIn-one_less C X)
    (Skolem-first P (one_less C X) C c (λ A t. implied-true (outcome c A) (one_less C X) C i t) sk)

pub same_first : (p : Option Literal) (l m : Literal) → p ≡ Some l → p ≡ Some m → l ≡ m
same_first p l m e f = cc

step-back : (F : PrenexFormula) (s : ProofStep) (us : List UndoEntry) (c : Strategy) → IsFormula F →
    Justified F s → Entries F s us → SkolemOf (after F s) c → SkolemOf F (Back us c)
step-back F (add p C) us c f v e sk =
    subst (λ us. SkolemOf F (Back us c)) (sym e) (Skolem-fewer F.prefix (C ∷ F.matrix) F.matrix c
    (λ D m. inr m) sk)
step-back F (delete p C) us c f v (inl e) sk =
    subst (λ us. SkolemOf F (Back us c)) (sym e.1) (implied_back F.prefix F.matrix C c e.0 sk)
step-back F (delete p C) us c f v (inr (n, (l, Os, is, os, e))) sk =
    subst (λ us. SkolemOf F (Back us c)) (sym e) (go v.1)
  where
    go : Implied (one_less C F.matrix) C ⊎ FirstPivot F.prefix (one_less C F.matrix) C p →
        SkolemOf F (pivoted l Os c)
    go (inl i) = absurd (n i)
    go (inr (m, is1, pv)) =
        pivot_back F.prefix F.matrix C l Os c (subst (ExistsPivot F.prefix (one_less C F.matrix) C)
        (same_first p m l is1 is) pv) (outers-members F.prefix (one_less C F.matrix) (negation l) Os os) sk
step-back F (drop_literal l C) us c f v e sk =
    subst (λ us. SkolemOf F (Back us c)) (sym e) (Skolem-fewer F.prefix (C ∷ one_less C F.matrix) F.matrix c
    (IsIn-one_less C F.matrix) (Skolem-longer F.prefix (one_less C F.matrix) l C c sk))
step-back F (fresh v w) us c f h e sk =
    subst (λ us. SkolemOf F (Back us c)) (sym e) (fresh-back F.prefix F.matrix v w c f.closed h.0 h.1 sk)
step-back F (remove_variable v) us c f h e sk =
    subst (λ us. SkolemOf F (Back us c)) (sym e) (go (is_existential F.prefix v)
    (removed-back F.prefix F.matrix v c f.distinct h.1 sk))
  where
    go : (b : Bool) → SkolemOf F (cond b (with_circuit v (Some (constant false)) c) c) →
        SkolemOf F (Back (cond b (removed v ∷ []) []) c)
    go true s = s
    go false s = s

pub Back-append : (us vs : List UndoEntry) (c : Strategy) → Back (us ++ vs) c ≡ Back us (Back vs c)
Back-append [] vs c = refl
Back-append (u ∷ us) vs c = ap (taken_back u) (Back-append us vs c)

pub run-back : (F : PrenexFormula) (ss : List ProofStep) (E : PrenexFormula) (us : List UndoEntry)
    (c : Strategy) → IsFormula F → JustifiedSteps F ss E → Undos F ss us → SkolemOf E c →
    SkolemOf F (Back us c)
run-back F [] E us c f r u sk =
    subst (λ us. SkolemOf F (Back us c)) (sym u) (subst (λ G. SkolemOf G c) (sym r) sk)
run-back F (s ∷ ss) E us c f r (es, rest, e, u, is) sk =
    subst (λ us. SkolemOf F (Back us c)) (sym is) (subst (SkolemOf F) (sym (Back-append es rest c))
    (step-back F s es (Back rest c) f r.0 e (run-back (after F s) ss E rest c
    (after-formula F s f r.0) r.1 u sk)))

-- Truth, step by step.
pub from_skolem : (F : PrenexFormula) (c : Strategy) → IsFormula F → SkolemOf F c → Holds F
from_skolem F c f sk = skolem_makes-true F.prefix f.distinct F.matrix c sk

step-true_back : (F : PrenexFormula) (s : ProofStep) (c : Strategy) → IsFormula F → Justified F s →
    SkolemOf (after F s) c → Holds F
step-true_back F (add p C) c f v sk = from_skolem F c f (step-back F (add p C) [] c f v refl sk)
step-true_back F (drop_literal l C) c f v sk =
    from_skolem F c f (step-back F (drop_literal l C) [] c f v refl sk)
step-true_back F (fresh v w) c f h sk =
    from_skolem F (with_circuit v None c) f (step-back F (fresh v w) (freshened v ∷ []) c f h refl sk)
step-true_back F (remove_variable v) c f h sk =
    from_skolem F (Back (cond (is_existential F.prefix v) (removed v ∷ []) []) c) f
    (step-back F (remove_variable v) (cond (is_existential F.prefix v) (removed v ∷ []) []) c f h refl sk)
step-true_back F (delete p C) c f (m, inl i) sk =
    from_skolem F c f (implied_back F.prefix F.matrix C c i sk)
step-true_back F (delete p C) c f (m, inr (l, is, pv)) sk =
    let Os : List Clause = every_outer F.prefix (negation l) (one_less C F.matrix) in
    from_skolem F (pivoted l Os c) f (pivot_back F.prefix F.matrix C l Os c pv
    (every_outers F.prefix (one_less C F.matrix) (negation l)) sk)

step-true_on : (F : PrenexFormula) (s : ProofStep) (c : Strategy) → IsFormula F → Justified F s →
    SkolemOf F c → Holds (after F s)
step-true_on F s c f v sk = go s (after-formula F s f v) v
  where
    go : (s : ProofStep) → IsFormula (after F s) → Justified F s → Holds (after F s)
    go (add p C) g (within, inl i) =
        from_skolem (after F (add p C)) c g (Skolem-first F.prefix F.matrix C c
        (λ A t. implied-true (outcome c A) F.matrix C i t) sk)
    go (add p C) g (within, inr (l, is, pv)) =
        let Os : List Clause = every_outer F.prefix (negation l) F.matrix in
        from_skolem (after F (add p C)) (pivoted l Os c) g
        (pivot-keeps F.prefix F.matrix C l Os c pv (every_outers F.prefix F.matrix (negation l)) sk)
    go (delete p C) g v =
        from_skolem (after F (delete p C)) c g (Skolem-fewer F.prefix F.matrix (one_less C F.matrix) c
        (one_less-IsIn C F.matrix) sk)
    go (fresh v w) g h =
        from_skolem (after F (fresh v w)) (with_circuit v (Some (constant false)) c) g
        (fresh-on F.prefix F.matrix v w c f.closed h.0 h.1 sk)
    go (remove_variable v) g h =
        from_skolem (after F (remove_variable v)) (with_circuit v None (reread v (constant false) c)) g
        (removed-on F.prefix F.matrix v c f.distinct h.1 sk)
    go (drop_literal l C) g (m, h) = elim h [
      | inl pv ↦ from_skolem (after F (drop_literal l C))
          (reread l.var (lowered l (all_of c (every_outer F.prefix (negation l) Y))) c) g
          (forall_pivot-keeps F.prefix Y C l c pv whole)
      | inr rd ↦ elim (true_decided F.prefix (without l C ∷ Y) (λ x. false)) [
        | inl t ↦ t
        | inr n ↦ absurd (some_reached F.prefix Y C l Y
            (λ R re. n (from_skolem (after F (drop_literal l C))
            (reduced l.var (constant l.negative) (C ∷ R) c) g
            (reduction-keeps F.prefix Y C l R c rd re whole))))
      ]
    ]
      where
        Y : Matrix
        Y = one_less C F.matrix

        whole : Skolem F.prefix (C ∷ Y) c
        whole =
            Skolem-fewer F.prefix F.matrix (C ∷ Y) c
            (λ D q. elim q [
              | inl e ↦ subst (λ z. IsIn z F.matrix) (sym e) m
              | inr r ↦ one_less-IsIn C F.matrix D r
            ]) sk

pub has_skolem : (F : PrenexFormula) → IsFormula F → Holds F → (c : Strategy) × SkolemOf F c
has_skolem F f t = true_has-skolem F.prefix f.distinct F.matrix f.closed t

pub run-true_on : (F : PrenexFormula) (ss : List ProofStep) (E : PrenexFormula) → IsFormula F →
    JustifiedSteps F ss E → Holds F → Holds E
run-true_on F [] E f r t = subst Holds r t
run-true_on F (s ∷ ss) E f r t =
    run-true_on (after F s) ss E (after-formula F s f r.0) r.1 (let k : (c : Strategy) × SkolemOf F c =
    has_skolem F f t in step-true_on F s k.0 f r.0 k.1)

pub run-true_back : (F : PrenexFormula) (ss : List ProofStep) (E : PrenexFormula) → IsFormula F →
    JustifiedSteps F ss E → Holds E → Holds F
run-true_back F [] E f r t = subst Holds (sym r) t
run-true_back F (s ∷ ss) E f r t =
    let k : (c : Strategy) × SkolemOf (after F s) c =
    has_skolem (after F s) (after-formula F s f r.0)
    (run-true_back (after F s) ss E (after-formula F s f r.0) r.1 t) in step-true_back F s k.0 f r.0 k.1

-- The trees are lawful, whether or not the given ones satisfy the last formula.
step-lawful : (F : PrenexFormula) (s : ProofStep) (us : List UndoEntry) (c : Strategy) → IsFormula F →
    Justified F s → Entries F s us → Lawful (after F s).prefix c → Lawful F.prefix (Back us c)
step-lawful F (add p C) us c f v e sk = subst (λ us. Lawful F.prefix (Back us c)) (sym e) sk
step-lawful F (delete p C) us c f v (inl e) sk = subst (λ us. Lawful F.prefix (Back us c)) (sym e.1) sk
step-lawful F (delete p C) us c f v (inr (n, (l, Os, is, os, e))) sk =
    subst (λ us. Lawful F.prefix (Back us c)) (sym e) (go v.1)
  where
    go : Implied (one_less C F.matrix) C ⊎ FirstPivot F.prefix (one_less C F.matrix) C p →
        Lawful F.prefix (pivoted l Os c)
    go (inl i) = absurd (n i)
    go (inr (m, is1, pv)) =
        pivot-lawful F.prefix l Os c (subst (λ k. is_existential F.prefix k.var ≡ true)
        (same_first p m l is1 is) pv.existential_pivot)
        (outers-near F.prefix (one_less C F.matrix) (negation l) Os
        (outers-members F.prefix (one_less C F.matrix) (negation l) Os os)) sk
step-lawful F (drop_literal l C) us c f v e sk = subst (λ us. Lawful F.prefix (Back us c)) (sym e) sk
step-lawful F (fresh v w) us c f h e sk =
    subst (λ us. Lawful F.prefix (Back us c)) (sym e) (fresh-lawful F.prefix v w c h.0 sk)
step-lawful F (remove_variable v) us c f h e sk =
    subst (λ us. Lawful F.prefix (Back us c)) (sym e)
    (go (is_existential F.prefix v) (removed-lawful F.prefix v c f.distinct sk))
  where
    go : (b : Bool) → Lawful F.prefix (cond b (with_circuit v (Some (constant false)) c) c) →
        Lawful F.prefix (Back (cond b (removed v ∷ []) []) c)
    go true s = s
    go false s = s

steps-lawful : (F : PrenexFormula) (ss : List ProofStep) (E : PrenexFormula) (us : List UndoEntry)
    (c : Strategy) → IsFormula F → JustifiedSteps F ss E → Undos F ss us → Lawful E.prefix c →
    Lawful F.prefix (Back us c)
steps-lawful F [] E us c f r u sk =
    subst (λ us. Lawful F.prefix (Back us c)) (sym u) (subst (λ G. Lawful G.prefix c) (sym r) sk)
steps-lawful F (s ∷ ss) E us c f r (es, rest, e, u, is) sk =
    subst (λ us. Lawful F.prefix (Back us c)) (sym is)
    (subst (Lawful F.prefix) (sym (Back-append es rest c))
    (step-lawful F s es (Back rest c) f r.0 e (steps-lawful (after F s) ss E rest c
    (after-formula F s f r.0) r.1 u sk)))

-- Whole runs.
pub rebuilt-skolem : (F : PrenexFormula) (ss : List ProofStep) (G : PrenexFormula) (us : List UndoEntry)
    (c : Strategy) → IsFormula F → JustifiedRun F ss G → Undos F ss us → SkolemOf G c →
    SkolemOf F (Back us c)
rebuilt-skolem F ss G us c f r u sk =
    run-back F ss r.last us c f r.steps u (skolem-same r.last G c r.same sk)

pub rebuilt-lawful : (F : PrenexFormula) (ss : List ProofStep) (G : PrenexFormula) (us : List UndoEntry)
    (c : Strategy) → IsFormula F → JustifiedRun F ss G → Undos F ss us → Lawful G.prefix c →
    Lawful F.prefix (Back us c)
rebuilt-lawful F ss G us c f r u l =
    steps-lawful F ss r.last us c f r.steps u (lawful-same r.last G c r.same l)

pub steps-formula : (F : PrenexFormula) (ss : List ProofStep) (E : PrenexFormula) → IsFormula F →
    JustifiedSteps F ss E → IsFormula E
steps-formula F [] E f r = subst IsFormula r f
steps-formula F (s ∷ ss) E f r = steps-formula (after F s) ss E (after-formula F s f r.0) r.1

pub run-true : (F : PrenexFormula) (ss : List ProofStep) (G : PrenexFormula) → IsFormula F → IsFormula G →
    JustifiedRun F ss G → Holds F ↔ Holds G
run-true F ss G f g r = (on, back)
  where
    e : IsFormula r.last
    e = steps-formula F ss r.last f r.steps

    on : Holds F → Holds G
    on t =
        let k : (c : Strategy) × SkolemOf r.last c =
        has_skolem r.last e (run-true_on F ss r.last f r.steps t) in
        from_skolem G k.0 g (skolem-same G r.last k.0 (Same-sym r.last G r.same) k.1)

    back : Holds G → Holds F
    back t =
        let k : (c : Strategy) × SkolemOf G c = has_skolem G g t in
        run-true_back F ss r.last f r.steps (from_skolem r.last k.0 e (skolem-same r.last G k.0 r.same k.1))

pub same-true : (F G : PrenexFormula) → IsFormula F → IsFormula G → SameFormula F G → Holds F ↔ Holds G
same-true F G f g s = run-true F [] G f g (record { last = F; steps = refl; same = s })

pub steps-true : (F : PrenexFormula) (ss : List ProofStep) (E : PrenexFormula) → IsFormula F →
    JustifiedSteps F ss E → Holds F ↔ Holds E
steps-true F ss E f r = (run-true_on F ss E f r, run-true_back F ss E f r)
