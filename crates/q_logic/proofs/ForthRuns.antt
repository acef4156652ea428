-- Runs without extended drops carry Herbrand functions from their end to their beginning.
use Rattle.std.proofs.Common.{◌≡◌, Bool, true, false, cond, List, [], ◌∷◌, ◌++◌, ◌⊎◌, inl, inr, refl, sym, ap, ◌∙◌, subst, Option, Some}
use Rattle.q_logic.specs.declared.formulas.Bound.{Bound}
use Rattle.q_logic.specs.declared.formulas.Quant.{Quant}
use Rattle.q_logic.specs.declared.formulas.Quant.TheVariants.{Exists, Forall}
use Rattle.q_logic.specs.Prelude.{Literal, negation, Prefix, Clause, Matrix, IsIn, PrenexFormula, is_universal, same_quant, IsFormula, Block, push_block, blocks, SameBlocks, Assignment, ClauseTrue, constant, Strategy, outcome, Implied, ForallPivot, ExistsPivot, outer, Reducible, ProofStep, add, delete, drop_literal, fresh, remove_variable, one_less, FirstPivot, after, SameFormula, with_circuit, every_outer}
use Rattle.q_logic.specs.Herbrands.{MatrixFalse, LawfulHerbrand, Herbrand, HerbrandOf}
use Rattle.q_logic.specs.Reversals.{Reversal, added, turned, plain, freshened, removed, carried, inner, Forth, IsExtended, Reversed, Reversals, NoneExtended}
use Rattle.q_logic.specs.Exchanging.{other_quant, exchanged}
use Rattle.q_logic.proofs.Blocks.{lawful-same, IsIn-same}
use Rattle.q_logic.proofs.Justified.{Justified, JustifiedSteps, JustifiedRun}
use Rattle.q_logic.proofs.Outers.{outers-members}
use Rattle.q_logic.proofs.Pivot.{outers-near}
use Rattle.q_logic.proofs.Propagation.{implied-true}
use Rattle.q_logic.proofs.Runs.{one_less-IsIn}
use Rattle.q_logic.proofs.Soundness.{after-formula, same_first}
use Rattle.q_logic.proofs.Exchanged.{other-same, lawful-exchanged, exchanged-lawful}
use Rattle.q_logic.proofs.Falsity.{matrix_either}
use Rattle.q_logic.proofs.ForthPivots.{added-lawful, added-carries, turned-lawful, turned-carries}
use Rattle.q_logic.proofs.PlainDrops.{plain-lawful, plain-carries, tautology-carries}
use Rattle.q_logic.proofs.ForthVariables.{fresh-lawful, fresh-carries, removed-carries_lawful, removed-carries}

-- Another matrix, of which some clause is false where one of the former is.
Herbrand-more : (P : Prefix) (X Y : Matrix) (c : Strategy) → ((D : Clause) → IsIn D X → IsIn D Y) →
    Herbrand P X c → Herbrand P Y c
Herbrand-more P X Y c s h =
    record { lawful = h.lawful; loses = λ A. more (outcome c A) (h.loses A) }
  where
    more : (M : Assignment) → MatrixFalse M X → MatrixFalse M Y
    more M (D, m, f) = (D, s D m, f)

implied-carries : (P : Prefix) (X : Matrix) (C : Clause) (c : Strategy) → Implied X C → Herbrand P (C ∷ X) c →
    Herbrand P X c
implied-carries P X C c i h = record { lawful = h.lawful; loses = λ A. less (outcome c A) (h.loses A) }
  where
    less : (M : Assignment) → MatrixFalse M (C ∷ X) → MatrixFalse M X
    less M (D, inr m, f) = (D, m, f)
    less M (D, inl e, f) =
        elim (matrix_either M X) [
          | inl t ↦ absurd (subst (λ D. ClauseTrue M D → ⊥) e f (implied-true M X C i t))
          | inr g ↦ g
        ]

pub pivot_of : (F : PrenexFormula) (C : Clause) (p : Option Literal) (l : Literal) → p ≡ Some l → ¬ Implied F.matrix C →
    Implied F.matrix C ⊎ FirstPivot F.prefix F.matrix C p → ExistsPivot F.prefix F.matrix C l
pivot_of F C p l is n (inl i) = absurd (n i)
pivot_of F C p l is n (inr (m, is1, pv)) =
    subst (ExistsPivot F.prefix F.matrix C) (same_first p m l is1 is) pv

-- What is dropped from stands in the matrix.
whole : (P : Prefix) (X : Matrix) (C : Clause) (c : Strategy) → IsIn C X → Herbrand P (C ∷ one_less C X) c →
    Herbrand P X c
whole P X C c m h = Herbrand-more P (C ∷ one_less C X) X c (λ D i. at D i) h
  where
    at : (D : Clause) → IsIn D (C ∷ one_less C X) → IsIn D X
    at D (inl e) = subst (λ E. IsIn E X) (sym e) m
    at D (inr i) = one_less-IsIn C X D i

pub universal_of : (P : Prefix) (X : Matrix) (C : Clause) (l : Literal) → ForallPivot P X C l ⊎ Reducible P X C l →
    (is_universal P l.var ≡ true) × IsIn l C
universal_of P X C l (inl p) = (p.universal_pivot, p.in_clause)
universal_of P X C l (inr r) = (r.universal_literal, r.in_clause)

pub step-carries : (F : PrenexFormula) (s : ProofStep) (rs : List Reversal) (c : Strategy) → IsFormula F →
    Justified F s → Reversed F s rs → HerbrandOf (after F s) c → HerbrandOf F (Forth rs c)
step-carries F (add p C) rs c f v (inl (i, e)) h =
    subst (λ rs. HerbrandOf F (Forth rs c)) (sym e) (implied-carries F.prefix F.matrix C c i h)
step-carries F (add p C) rs c f v (inr (n, (l, Os, is, os, e))) h =
    subst (λ rs. HerbrandOf F (Forth rs c)) (sym e)
    (added-carries F.prefix F.matrix C l Os c (pivot_of F C p l is n v.1)
    (outers-members F.prefix F.matrix (negation l) Os os) h)
step-carries F (delete p C) rs c f v e h =
    subst (λ rs. HerbrandOf F (Forth rs c)) (sym e)
    (Herbrand-more F.prefix (one_less C F.matrix) F.matrix c (one_less-IsIn C F.matrix) h)
step-carries F (drop_literal l C) rs c f v (inl (pv, (Os, os, e))) h =
    subst (λ rs. HerbrandOf F (Forth rs c)) (sym e)
    (whole F.prefix F.matrix C (carried (turned l Os) c) v.0
    (turned-carries F.prefix (one_less C F.matrix) C l Os c pv
    (outers-members F.prefix (one_less C F.matrix) (negation l) Os os) h))
step-carries F (drop_literal l C) rs c f v (inr (n, p, inl (t, e))) h =
    subst (λ rs. HerbrandOf F (Forth rs c)) (sym e)
    (whole F.prefix F.matrix C c v.0 (tautology-carries F.prefix (one_less C F.matrix) C l c p t h))
step-carries F (drop_literal l C) rs c f v (inr (n, p, inr (t, e))) h =
    let u : (is_universal F.prefix l.var ≡ true) × IsIn l C = universal_of F.prefix (one_less C F.matrix) C l v.1 in
    subst (λ rs. HerbrandOf F (Forth rs c)) (sym e)
    (whole F.prefix F.matrix C (Forth (plain l _ _ ∷ []) c) v.0
    (plain-carries F.prefix (one_less C F.matrix) C l c (f.closed C v.0) u.0 u.1 p t h))
step-carries F (fresh v w) rs c f j e h =
    subst (λ rs. HerbrandOf F (Forth rs c)) (sym e)
    (fresh-carries F.prefix F.matrix v w c f.distinct f.closed j.0 h)
step-carries F (remove_variable v) rs c f j e h =
    subst (λ rs. HerbrandOf F (Forth rs c)) (sym e)
    (go (is_universal F.prefix v) (removed-carries F.prefix F.matrix v c f.distinct j.1 h))
  where
    go : (b : Bool) → HerbrandOf F (cond b (with_circuit v (Some (constant false)) c) c) →
        HerbrandOf F (Forth (cond b (removed v ∷ []) []) c)
    go true s = s
    go false s = s

pub step-lawful : (F : PrenexFormula) (s : ProofStep) (rs : List Reversal) (c : Strategy) → IsFormula F →
    Justified F s → Reversed F s rs → LawfulHerbrand (after F s).prefix c → LawfulHerbrand F.prefix (Forth rs c)
step-lawful F (add p C) rs c f v (inl (i, e)) h = subst (λ rs. LawfulHerbrand F.prefix (Forth rs c)) (sym e) h
step-lawful F (add p C) rs c f v (inr (n, (l, Os, is, os, e))) h =
    subst (λ rs. LawfulHerbrand F.prefix (Forth rs c)) (sym e)
    (added-lawful F.prefix l Os c (pivot_of F C p l is n v.1).existential_pivot
    (outers-near F.prefix F.matrix (negation l) Os (outers-members F.prefix F.matrix (negation l) Os os)) h)
step-lawful F (delete p C) rs c f v e h = subst (λ rs. LawfulHerbrand F.prefix (Forth rs c)) (sym e) h
step-lawful F (drop_literal l C) rs c f v (inl (pv, (Os, os, e))) h =
    subst (λ rs. LawfulHerbrand F.prefix (Forth rs c)) (sym e)
    (turned-lawful F.prefix l Os c pv.universal_pivot
    (outers-near F.prefix (one_less C F.matrix) (negation l) Os
    (outers-members F.prefix (one_less C F.matrix) (negation l) Os os)) h)
step-lawful F (drop_literal l C) rs c f v (inr (n, p, inl (t, e))) h =
    subst (λ rs. LawfulHerbrand F.prefix (Forth rs c)) (sym e) h
step-lawful F (drop_literal l C) rs c f v (inr (n, p, inr (t, e))) h =
    let u : (is_universal F.prefix l.var ≡ true) × IsIn l C = universal_of F.prefix (one_less C F.matrix) C l v.1 in
    subst (λ rs. LawfulHerbrand F.prefix (Forth rs c)) (sym e)
    (plain-lawful F.prefix C l c (f.closed C v.0) u.0 p h)
step-lawful F (fresh v w) rs c f j e h =
    subst (λ rs. LawfulHerbrand F.prefix (Forth rs c)) (sym e) (fresh-lawful F.prefix v w c f.distinct j.0 h)
step-lawful F (remove_variable v) rs c f j e h =
    subst (λ rs. LawfulHerbrand F.prefix (Forth rs c)) (sym e)
    (go (is_universal F.prefix v) (removed-carries_lawful F.prefix v c f.distinct h))
  where
    go : (b : Bool) → LawfulHerbrand F.prefix (cond b (with_circuit v (Some (constant false)) c) c) →
        LawfulHerbrand F.prefix (Forth (cond b (removed v ∷ []) []) c)
    go true s = s
    go false s = s

pub Forth-append : (rs ts : List Reversal) (c : Strategy) → Forth (rs ++ ts) c ≡ Forth rs (Forth ts c)
Forth-append [] ts c = refl
Forth-append (r ∷ rs) ts c = ap (carried r) (Forth-append rs ts c)

steps-carry : (F : PrenexFormula) (ss : List ProofStep) (E : PrenexFormula) (rs : List Reversal) (c : Strategy) →
    IsFormula F → JustifiedSteps F ss E → Reversals F ss rs → HerbrandOf E c → HerbrandOf F (Forth rs c)
steps-carry F [] E rs c f r u h =
    subst (λ rs. HerbrandOf F (Forth rs c)) (sym u) (subst (λ G. HerbrandOf G c) (sym r) h)
steps-carry F (s ∷ ss) E rs c f r (es, rest, e, u, is) h =
    subst (λ rs. HerbrandOf F (Forth rs c)) (sym is) (subst (HerbrandOf F) (sym (Forth-append es rest c))
    (step-carries F s es (Forth rest c) f r.0 e (steps-carry (after F s) ss E rest c
    (after-formula F s f r.0) r.1 u h)))

pub steps-lawful : (F : PrenexFormula) (ss : List ProofStep) (E : PrenexFormula) (rs : List Reversal) (c : Strategy) →
    IsFormula F → JustifiedSteps F ss E → Reversals F ss rs → LawfulHerbrand E.prefix c →
    LawfulHerbrand F.prefix (Forth rs c)
steps-lawful F [] E rs c f r u h =
    subst (λ rs. LawfulHerbrand F.prefix (Forth rs c)) (sym u) (subst (λ G. LawfulHerbrand G.prefix c) (sym r) h)
steps-lawful F (s ∷ ss) E rs c f r (es, rest, e, u, is) h =
    subst (λ rs. LawfulHerbrand F.prefix (Forth rs c)) (sym is)
    (subst (LawfulHerbrand F.prefix) (sym (Forth-append es rest c))
    (step-lawful F s es (Forth rest c) f r.0 e (steps-lawful (after F s) ss E rest c
    (after-formula F s f r.0) r.1 u h)))

-- Equal blocks, exchanged.
abbrev flipped : List Block → List Block
flipped [] = []
flipped (B ∷ Bs) = record { quant = other_quant B.quant; vars = B.vars } ∷ flipped Bs

push-flipped : (b : Bound) (Bs : List Block) →
    push_block (record { quant = other_quant b.quant; var = b.var }) (flipped Bs) ≡ flipped (push_block b Bs)
push-flipped b [] = refl
push-flipped b (B ∷ Bs) = let e = other-same b.quant B.quant in rw e (go (same_quant b.quant B.quant))
  where
    go : (t : Bool) → cond t (record { quant = other_quant B.quant; vars = b.var ∷ B.vars } ∷ flipped Bs)
        (record { quant = other_quant b.quant; vars = b.var ∷ [] } ∷ flipped (B ∷ Bs)) ≡
        flipped (cond t (record { quant = B.quant; vars = b.var ∷ B.vars } ∷ Bs)
        (record { quant = b.quant; vars = b.var ∷ [] } ∷ B ∷ Bs))
    go true = refl
    go false = refl

blocks-exchanged : (P : Prefix) → blocks (exchanged P) ≡ flipped (blocks P)
blocks-exchanged [] = refl
blocks-exchanged (b ∷ P) =
    ap (push_block (record { quant = other_quant b.quant; var = b.var })) (blocks-exchanged P) ∙
    push-flipped b (blocks P)

same-flipped : (Bs Cs : List Block) → SameBlocks Bs Cs → SameBlocks (flipped Bs) (flipped Cs)
same-flipped [] [] s = s
same-flipped [] (C ∷ Cs) s = elim s [ ]
same-flipped (B ∷ Bs) [] s = elim s [ ]
same-flipped (B ∷ Bs) (C ∷ Cs) s = (ap other_quant s.0, s.1, same-flipped Bs Cs s.2)

pub lawful_herbrand-same : (F G : PrenexFormula) (c : Strategy) → SameFormula F G → LawfulHerbrand G.prefix c →
    LawfulHerbrand F.prefix c
lawful_herbrand-same F G c s h =
    exchanged-lawful F.prefix c (lawful-same (record { prefix = exchanged F.prefix; matrix = F.matrix })
    (record { prefix = exchanged G.prefix; matrix = G.matrix }) c
    (record {
      same_blocks = subst (λ Bs. SameBlocks Bs (blocks (exchanged G.prefix))) (sym (blocks-exchanged F.prefix))
          (subst (λ Cs. SameBlocks (flipped (blocks F.prefix)) Cs) (sym (blocks-exchanged G.prefix))
          (same-flipped (blocks F.prefix) (blocks G.prefix) s.same_blocks));
      same_clauses = s.same_clauses;
    }) (lawful-exchanged G.prefix c h))

pub herbrand-same : (F G : PrenexFormula) (c : Strategy) → SameFormula G F → SameFormula F G → HerbrandOf G c → HerbrandOf F c
herbrand-same F G c t s h =
    record { lawful = lawful_herbrand-same F G c s h.lawful; loses = λ A. more (outcome c A) (h.loses A) }
  where
    more : (M : Assignment) → MatrixFalse M G.matrix → MatrixFalse M F.matrix
    more M (D, m, f) = (D, IsIn-same G F D t m, f)

-- Whole runs.
pub run-carries : (F : PrenexFormula) (ss : List ProofStep) (G : PrenexFormula) (rs : List Reversal) (c : Strategy) →
    IsFormula F → JustifiedRun F ss G → Reversals F ss rs → HerbrandOf G c → HerbrandOf F (Forth rs c)
run-carries F ss G rs c f r u h =
    steps-carry F ss r.last rs c f r.steps u
    (herbrand-same r.last G c (Rattle.q_logic.proofs.Blocks.Same-sym r.last G r.same) r.same h)

pub run-lawful : (F : PrenexFormula) (ss : List ProofStep) (G : PrenexFormula) (rs : List Reversal) (c : Strategy) →
    IsFormula F → JustifiedRun F ss G → Reversals F ss rs → LawfulHerbrand G.prefix c →
    LawfulHerbrand F.prefix (Forth rs c)
run-lawful F ss G rs c f r u h = steps-lawful F ss r.last rs c f r.steps u (lawful_herbrand-same r.last G c r.same h)

-- A step with reversals is not extended.
pub reversed-not_extended : (F : PrenexFormula) (s : ProofStep) (rs : List Reversal) → Reversed F s rs → ¬ IsExtended F s
reversed-not_extended F (add p C) rs r x = x
reversed-not_extended F (delete p C) rs r x = x
reversed-not_extended F (drop_literal l C) rs (inl r) x = x.0 r.0
reversed-not_extended F (drop_literal l C) rs (inr r) x = x.1 r.1
reversed-not_extended F (fresh v w) rs r x = x
reversed-not_extended F (remove_variable v) rs r x = x

pub reversals-none_extended : (F : PrenexFormula) (ss : List ProofStep) (rs : List Reversal) → Reversals F ss rs →
    NoneExtended F ss
reversals-none_extended F [] rs r = tt
reversals-none_extended F (s ∷ ss) rs (es, rest, e, u, is) =
    (reversed-not_extended F s es e, reversals-none_extended (after F s) ss rest u)

-- Each justified step that is not extended has reversals.
pub step-total : (F : PrenexFormula) (s : ProofStep) → Justified F s → ¬ IsExtended F s → ¬ ((rs : List Reversal) → ¬ Reversed F s rs)
step-total F (add p C) v x k =
    let n : ¬ Implied F.matrix C = λ i. k [] (inl (i, refl)) in
    elim v.1 [
      | inl i ↦ n i
      | inr w ↦ k (added w.0 (every_outer F.prefix (negation w.0) F.matrix) ∷ [])
          (inr (n, (w.0, every_outer F.prefix (negation w.0) F.matrix, w.1, (λ O. refl), refl)))
    ]
step-total F (delete p C) v x k = k [] refl
step-total F (drop_literal l C) v x k =
    let Os = every_outer F.prefix (negation l) (one_less C F.matrix) in
    let n : ¬ ForallPivot F.prefix (one_less C F.matrix) C l =
    λ pv. k (turned l Os ∷ []) (inl (pv, (Os, (λ O. refl), refl))) in
    x (
      n,
      λ p. k (plain l (outer F.prefix l C) (inner F.prefix l C) ∷ [])
          (inr (n, p, inr ((λ t. k [] (inr (n, p, inl (t, refl)))), refl))),
    )
step-total F (fresh v w) j x k = k (freshened v ∷ []) refl
step-total F (remove_variable v) j x k = k (cond (is_universal F.prefix v) (removed v ∷ []) []) refl
