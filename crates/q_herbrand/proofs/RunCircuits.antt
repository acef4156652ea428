-- Along a run, whatever an entry holds has a circuit or is an input; and what comes out.
use Rattle.std.proofs.Common.{◌≡◌, ℕ, ◌+◌, ◌≤◌, Bool, true, false, cond, List, [], ◌∷◌, ◌++◌, length, inl, inr, arith, refl, sym, ap, ◌∙◌, subst, Option, Some, None}
use Rattle.std.proofs.lemmas.Bool.{cases_Bool, both_ways}
use Rattle.q_logic.specs.declared.formulas.Quant.{Quant}
use Rattle.q_logic.specs.declared.formulas.Quant.TheVariants.{Exists, Forall}
use Rattle.q_logic.specs.Prelude.{Literal, negation, Prefix, Clause, Matrix, IsIn, PrenexFormula, is_exists, is_existential, is_universal, is_bound, outer_or_same, Distinct, IsFormula, Assignment, Circuit, value_of, constant, replaced, CertificateView, trees_of, Strategy, circuit_of, outcome, Lawful, given, or_input, map_circuit, reread, keeps, ProofStep, add, delete, drop_literal, fresh, remove_variable, one_less, insert_after, removed_from, after, standard, Run, OutersOf}
use Rattle.q_logic.proofs.Common.{IsIn-outer, circuit_of-none, IsIn-append_left, IsIn-append_right, Justified, Valid-justified, Run-justified, is_bound-universal, existential-is_bound, outer_existential-free, universal-not_existential, insert-is_existential, removed-is_existential, removed-unbound, one_less-IsIn, at_or_other, unbound-universal}
use Rattle.q_logic.proofs.Outers.{outers-members}
use Rattle.q_aig.specs.Prelude.{Net, tree_at, Serves}
use Rattle.q_aig.proofs.Substitutes.{serves-same, serves-then}
use Rattle.q_certificate.specs.Prelude.{IsCovered, OutersCovered, look_at, IsAt, Stands, is_there, universals, existentials, IsNamed}
use Rattle.q_certificate.specs.Narrowed.{IsNarrowed}
use Rattle.q_certificate.proofs.NamedCertificates.{made-serves, made-lawful}
use Rattle.q_herbrand.specs.declared.building.Settled.{Settled}
use Rattle.q_herbrand.specs.Under.{under}
use Rattle.q_herbrand.specs.Settled.{IsSettled}
use Rattle.q_logic.specs.Exchanging.{exchanged, other_quant}
use Rattle.q_logic.specs.Herbrands.{LawfulHerbrand}
use Rattle.q_logic.specs.Reversals.{Reversal, freshened, removed, Forth, Reversed, Reversals, IsPlainDrop, inner}
use Rattle.q_logic.proofs.Exchanged.{exchanged-existential, exchanged-universal, exchanged-outer, exchanged-before, exchanged-distinct, lawful-exchanged, exchanged-lawful}
use Rattle.q_logic.proofs.Falsity.{MatrixFalse-agree}
use Rattle.q_logic.proofs.ForthRuns.{pivot_of, universal_of, step-lawful, run-lawful, run-carries}
use Rattle.q_refutation.specs.Refutations.{MayBeMade, AreMade}
use Rattle.q_herbrand.specs.Inputs.{has_input, AreOpened}
use Rattle.q_herbrand.specs.Covered.{OutersClear, AreCovered, weights}
use Rattle.q_herbrand.specs.declared.drafting.Draft.{Draft}
use Rattle.q_herbrand.specs.Following.{tree_of_literal, Follows}
use Rattle.q_herbrand.specs.Drafted.{IsLawfulRun, IsDrafted, IsBuiltFrom, IsChosen}
use Rattle.q_herbrand.specs.Refuted.{IsWide, IsRefuted}
use Rattle.q_herbrand.proofs.MadeSteps.{step-formula, made-lawful_back}
use Rattle.q_herbrand.proofs.InputEntries.{inputs-at}

removed-existential : (v : ℕ) (P : Prefix) → Distinct P → (x : ℕ) → is_existential (removed_from v P) x ≡ true →
    is_existential P x ≡ true
removed-existential v P d = at_or_other v (λ x. is_existential (removed_from v P) x ≡ true →
    is_existential P x ≡ true)
    (λ h. absurd (both_ways (is_bound (removed_from v P) v) (removed-unbound v P d)
    (existential-is_bound (removed_from v P) v h)))
    (λ x n h. sym (removed-is_existential v P x n) ∙ h)

module _ (U : ℕ → Bool) where
  abbrev HasExistentials : PrenexFormula → Type 0
  HasExistentials F = (x : ℕ) → is_existential F.prefix x ≡ true → U x ≡ true

  abbrev HasFresh : List Reversal → Type 0
  HasFresh rs = (v : ℕ) → IsIn (freshened v) rs → U v ≡ true

  after-existentials : (F : PrenexFormula) (s : ProofStep) (es : List Reversal) → IsFormula F → Reversed F s es →
      HasExistentials F → HasFresh es → HasExistentials (after F s)
  after-existentials F (add p C) es f e h n = h
  after-existentials F (delete p C) es f e h n = h
  after-existentials F (drop_literal l C) es f e h n = h
  after-existentials F (fresh v w) es f e h n = at_or_other v
      (λ x. is_existential (insert_after w v F.prefix) x ≡ true → U x ≡ true)
      (λ i. n v (subst (IsIn (freshened v)) (sym e) (inl refl)))
      (λ x d i. h x (sym (insert-is_existential w v F.prefix x d) ∙ i))
  after-existentials F (remove_variable v) es f e h n = λ x i. h x (removed-existential v F.prefix f.distinct x i)

  literal-covered : (F : PrenexFormula) (c : Strategy) (k : Literal) → HasExistentials F →
      LawfulHerbrand F.prefix c → is_bound F.prefix k.var ≡ true → IsCovered U c k
  literal-covered F c k h l b = elim (cases_Bool (is_existential F.prefix k.var)) [
    | inl e ↦ inr (h k.var e)
    | inr e ↦ inl (l.trees k.var ∙ is_bound-universal F.prefix k.var b e)
  ]

  outers-covered : (F : PrenexFormula) (X : Matrix) (m : Literal) (Os : List Clause) (c : Strategy) → IsFormula F →
      ((D : Clause) → IsIn D X → IsIn D F.matrix) → OutersOf F.prefix X m Os → HasExistentials F →
      LawfulHerbrand F.prefix c → OutersCovered U c Os
  outers-covered F X m Os c f sub os h l O i k j =
      let d = (outers-members F.prefix X m Os os).no_other O i in
      let inD : IsIn k d.0 = (IsIn-outer F.prefix m d.0 k (subst (IsIn k) d.3 j)).0 in
      literal-covered F c k h l (f.closed d.0 (sub d.0 d.1) k inD)

  outers-clear : (F : PrenexFormula) (X : Matrix) (m : Literal) (Os : List Clause) (c : Strategy) →
      is_existential F.prefix m.var ≡ true → OutersOf F.prefix X m Os → LawfulHerbrand F.prefix c →
      OutersClear m.var c Os
  outers-clear F X m Os c he os l O i k j g r =
      let d = (outers-members F.prefix X m Os os).no_other O i in
      let o = IsIn-outer F.prefix m d.0 k (subst (IsIn k) d.3 j) in
      let near : outer_or_same F.prefix k.var m.var ≡ true = kept k o.1 in
      let u : is_universal F.prefix k.var ≡ true = sym (l.trees k.var) ∙ g in
      let a = exchanged-before F.prefix m.var k.var ∙ l.reads k.var u m.var r in
      let b = outer_existential-free (exchanged F.prefix) k.var m.var (exchanged-outer F.prefix k.var m.var
      ∙ near) (exchanged-existential F.prefix k.var ∙ u) (exchanged-universal F.prefix m.var ∙ he) in
      both_ways _ b a
    where
      kept : (k : Literal) → keeps F.prefix m k ≡ true → outer_or_same F.prefix k.var m.var ≡ true
      kept k y = grind arith

  existential-none : (P : Prefix) (x : ℕ) → is_existential P x ≡ true → is_universal P x ≡ false
  existential-none P x h = go (is_universal P x) refl
    where
      go : (b : Bool) → is_universal P x ≡ b → is_universal P x ≡ false
      go true e = absurd (both_ways (is_existential P x) (universal-not_existential P x e) h)
      go false e = e

  inner-universal : (F : PrenexFormula) (C : Clause) (l : Literal) (c : Strategy) → IsFormula F →
      IsIn C F.matrix → is_universal F.prefix l.var ≡ true → IsPlainDrop F.prefix C l →
      LawfulHerbrand F.prefix c → (k : Literal) → IsIn k (l ∷ inner F.prefix l C) → given (c k.var) ≡ true
  inner-universal F C l c f i hu p h k (inl e) =
      h.trees k.var ∙ ap (λ (j : Literal). is_universal F.prefix j.var) e ∙ hu
  inner-universal F C l c f i hu p h k (inr m) =
      let w = inside C m in
      elim (cases_Bool (is_existential F.prefix k.var)) [
        | inl e ↦ absurd (both_ways (outer_or_same F.prefix k.var l.var) w.1 (p.no_inner k w.0 e))
        | inr e ↦ h.trees k.var ∙ is_bound-universal F.prefix k.var (f.closed C i k w.0) e
      ]
    where
      inside : (D : Clause) → IsIn k (inner F.prefix l D) → IsIn k D × (outer_or_same F.prefix k.var l.var ≡ false)
      inside [] m = absurd m
      inside (j ∷ D) m = go (outer_or_same F.prefix j.var l.var) refl m (inside D)
        where
          go : (b : Bool) → outer_or_same F.prefix j.var l.var ≡ b →
              IsIn k (cond b (inner F.prefix l D) (j ∷ inner F.prefix l D)) →
              (IsIn k (inner F.prefix l D) → IsIn k D × (outer_or_same F.prefix k.var l.var ≡ false)) →
              IsIn k (j ∷ D) × (outer_or_same F.prefix k.var l.var ≡ false)
          go true e m r = let w = r m in (inr w.0, w.1)
          go false e (inl q) r = (inl q, ap (λ (i : Literal). outer_or_same F.prefix i.var l.var) q ∙ e)
          go false e (inr m) r = let w = r m in (inr w.0, w.1)

  given-reread : (v : ℕ) (t : Circuit) (c : Strategy) → given (reread v t c v) ≡ given (c v)
  given-reread v t c = go (c v)
    where
      go : (o : Option Circuit) → given (map_circuit (replaced v t) o) ≡ given o
      go None = refl
      go (Some q) = refl

  step-covered : (F : PrenexFormula) (s : ProofStep) (es rest : List Reversal) (c : Strategy) → IsFormula F →
      MayBeMade false standard F s → Reversed F s es → HasExistentials F → HasFresh es →
      LawfulHerbrand (after F s).prefix (Forth rest c) → AreCovered U rest c → AreCovered U (es ++ rest) c
  step-covered F (add p C) es rest c f v (inl (i, e)) h n l r = subst (λ es. AreCovered U (es ++ rest) c) (sym e) r
  step-covered F (add p C) es rest c f v (inr (n, (m, Os, is, os, e))) h fr l r =
      let j = Valid-justified standard F (add p C) v in
      let pv = pivot_of F C p m is n j.1 in
      subst (λ es. AreCovered U (es ++ rest) c) (sym e) (
        (
          h m.var pv.existential_pivot,
          outers-covered F F.matrix (negation m) Os (Forth rest c) f (λ D i. i) os h l,
          outers-clear F F.matrix (negation m) Os (Forth rest c) pv.existential_pivot os l,
        ),
        l.trees m.var ∙ existential-none F.prefix m.var pv.existential_pivot,
        r,
      )
  step-covered F (delete p C) es rest c f v e h n l r = subst (λ es. AreCovered U (es ++ rest) c) (sym e) r
  step-covered F (drop_literal k C) es rest c f v (inl (pv, (Os, os, e))) h n l r =
      subst (λ es. AreCovered U (es ++ rest) c) (sym e) (
        outers-covered F (one_less C F.matrix) (negation k) Os (Forth rest c) f (one_less-IsIn C F.matrix) os h l,
        l.trees k.var ∙ pv.universal_pivot,
        r,
      )
  step-covered F (drop_literal k C) es rest c f v (inr (n, p, inl (t, e))) h fr l r =
      subst (λ es. AreCovered U (es ++ rest) c) (sym e) r
  step-covered F (drop_literal k C) es rest c f v (inr (n, p, inr (t, e))) h fr l r =
      subst (λ es. AreCovered U (es ++ rest) c) (sym e) (
        (λ j i. literal-covered F (Forth rest c) j h l (f.closed C (dropped v).0 j (IsIn-outer F.prefix k C j i).0)),
        inner-universal F C k (Forth rest c) f (dropped v).0
            (universal_of F.prefix (one_less C F.matrix) C k (dropped v).1).0 p l,
        r,
      )
    where
      dropped : MayBeMade false standard F (drop_literal k C) → Justified F (drop_literal k C)
      dropped w = Valid-justified standard F (drop_literal k C) w
  step-covered F (fresh v w) es rest c f j e h n l r =
      let back : LawfulHerbrand F.prefix (Forth (freshened v ∷ []) (Forth rest c)) =
      step-lawful F (fresh v w) (freshened v ∷ []) (Forth rest c) f (Valid-justified standard F (fresh v w) j) refl l in
      let none : given (reread v (constant false) (Forth rest c) v) ≡ false =
      back.trees v ∙ unbound-universal F.prefix v (Valid-justified standard F (fresh v w) j).0 in
      subst (λ es. AreCovered U (es ++ rest) c) (sym e) (
        n v (subst (IsIn (freshened v)) (sym e) (inl refl)),
        sym (given-reread v (constant false) (Forth rest c)) ∙ none,
        r,
      )
  step-covered F (remove_variable v) es rest c f j e h n l r =
      subst (λ es. AreCovered U (es ++ rest) c) (sym e) (go (is_universal F.prefix v))
    where
      go : (b : Bool) → AreCovered U (cond b (removed v ∷ []) [] ++ rest) c
      go true = (tt, tt, r)
      go false = r

  left-fresh : (es rest rs : List Reversal) → rs ≡ es ++ rest → HasFresh rs → HasFresh es
  left-fresh es rest rs e n v m = n v (subst (IsIn (freshened v)) (sym e) (IsIn-append_left (freshened v) es rest m))

  right-fresh : (es rest rs : List Reversal) → rs ≡ es ++ rest → HasFresh rs → HasFresh rest
  right-fresh es rest rs e n v m = n v (subst (IsIn (freshened v)) (sym e)
      (IsIn-append_right (freshened v) es rest m))

  pub steps-covered : (F : PrenexFormula) (ss : List ProofStep) (E : PrenexFormula) (rs : List Reversal) (c :
      Strategy) → IsFormula F → AreMade false standard F ss E → Reversals F ss rs → LawfulHerbrand E.prefix c →
      HasExistentials F → HasFresh rs → AreCovered U rs c
  steps-covered F [] E rs c f r u l h n = subst (λ rs. AreCovered U rs c) (sym u) tt
  steps-covered F (s ∷ ss) E rs c f r (es, rest, e, u, is) l h n =
      let g : IsFormula (after F s) = step-formula F s f r.0 in
      let ne = left-fresh es rest rs is n in
      let below = steps-covered (after F s) ss E rest c g r.1 u l (after-existentials F s es f e h ne)
      (right-fresh es rest rs is n) in
      subst (λ rs. AreCovered U rs c) (sym is)
      (step-covered F s es rest c f r.0 e h ne (made-lawful_back (after F s) ss E rest c g r.1 u l) below)

  pub steps-existentials : (F : PrenexFormula) (ss : List ProofStep) (E : PrenexFormula) (rs : List Reversal) →
      IsFormula F → AreMade false standard F ss E → Reversals F ss rs → HasExistentials F → HasFresh rs → HasExistentials E
  steps-existentials F [] E rs f r u h n = subst HasExistentials r h
  steps-existentials F (s ∷ ss) E rs f r (es, rest, e, u, is) h n =
      steps-existentials (after F s) ss E rest (step-formula F s f r.0) r.1 u
      (after-existentials F s es f e h (left-fresh es rest rs is n)) (right-fresh es rest rs is n)

-- What holds of the circuits that a run's end was given.
module _ (F : PrenexFormula) (rs : List Reversal) (gave : CertificateView) (base : Net) (ins : List (Option ℕ)) (d :
    Draft) (f : IsFormula F) (run : IsLawfulRun F rs gave) (opened : AreOpened base ins F.prefix rs) (drafted :
    IsDrafted base ins gave rs d) where
  back-lawful : Lawful (exchanged F.prefix) (Forth rs (trees_of gave))
  back-lawful = lawful-exchanged F.prefix (Forth rs (trees_of gave))
      (made-lawful_back F run.steps run.last rs (trees_of gave) f run.made run.reversals run.lawful)

  pub end-follows : Follows d.aig ins d.tables.circuits.items d.slots (Forth rs (trees_of gave))
  end-follows = drafted.follows run.last.prefix (lawful-exchanged run.last.prefix (trees_of gave) run.lawful)
      (steps-existentials (has_input ins) F run.steps run.last rs f run.made run.reversals opened.existentials
      opened.fresh)
      (steps-covered (has_input ins) F run.steps run.last rs (trees_of gave) f run.made run.reversals run.lawful
      opened.existentials opened.fresh)

  module _ (now : Net) (m : Settled) (row : List (Option ℕ)) (made : CertificateView) (settled : IsSettled d.aig base
      now d.slots m) (chosen : IsChosen (exchanged F.prefix) d m row) (named : IsNamed now made row
      (exchanged F.prefix)) where
    stands : (x : ℕ) (o : Option Circuit) (k : Option ℕ) → Forth rs (trees_of gave) x ≡ o → look_at row x ≡ k →
        Stands now o k
    stands x None None e i = tt
    stands x None (Some k) e i =
        let a : given (Forth rs (trees_of gave) x) ≡ true = back-lawful.trees x
        ∙ sym (chosen.existentials x) ∙ ap is_there i in
        absurd (let g : false ≡ true = ap given (sym e) ∙ a in cc)
    stands x (Some t) None e i =
        let a : is_there (look_at row x) ≡ true = chosen.existentials x ∙ sym (back-lawful.trees x) ∙ ap given e in
        absurd (let g : false ≡ true = ap is_there (sym i) ∙ a in cc)
    stands x (Some t) (Some k) e i =
        let u = end-follows.circuits x (inl (ap given e)) in
        let s : Serves (under end-follows.resolution u.0) t =
        subst (λ (o : Option Circuit). Serves (under end-follows.resolution u.0) (or_input x o)) e u.2 in
        by-literal u.0 (look_at d.tables.circuits.items x) refl (chosen.built x k i) u.1 s
      where
        by-literal : (v : Circuit) (q : Option ℕ) → look_at d.tables.circuits.items x ≡ q → IsBuiltFrom d m q k →
            tree_of_literal d.aig q ≡ Some v → Serves (under end-follows.resolution v) t → Serves (tree_at now k) t
        by-literal v None f b g s = absurd (cc)
        by-literal v (Some l) f b g s =
            let w : tree_at d.aig l ≡ v = cc in
            serves-then _ _ _ (settled.serves end-follows.resolution end-follows.resolved k l
            (drafted.ready.circuits x l f) b) (serves-then _ _ _
            (serves-same _ _ (ap (under end-follows.resolution) w)) s)

    at : IsAt now ins row (has_input ins) (Forth rs (trees_of gave))
    at = record {
      inputs = inputs-at now base.inputs ins opened.inputs settled.inputs;
      circuits = λ x. stands x (Forth rs (trees_of gave) x) (look_at row x) refl refl;
    }

    pub widened : IsWide F rs gave made
    widened = record {
      serves = λ u h. made-serves (exchanged F.prefix) (exchanged-distinct F.prefix f.distinct) (has_input ins) now
          made ins row (Forth rs (trees_of gave)) named at back-lawful u (exchanged-existential F.prefix u ∙ h);
      lawful = made-lawful (exchanged F.prefix) (exchanged-distinct F.prefix f.distinct) (has_input ins) now made ins
          row (Forth rs (trees_of gave)) named at back-lawful;
      gates =
          let a : length now.gates ≤ length base.gates + length d.aig.gates = settled.gates in
          let b : length d.aig.gates ≤ length gave.gates + weights rs = drafted.gates in
          let z : length base.gates ≡ 0 = ap length opened.gates in
          let e : length made.gates ≡ length now.gates = ap length named.gates in
          omega arith;
      cones = λ ns h.
          let a : length now.gates ≤ length base.gates + length d.aig.gates = settled.gates in
          let b = drafted.cones ns h in
          let z : length base.gates ≡ 0 = ap length opened.gates in
          let e : length made.gates ≡ length now.gates = ap length named.gates in
          omega arith;
    }

-- Names of an exchanged prefix.
pub universals-exchanged : (P : Prefix) → universals (exchanged P) ≡ existentials P
universals-exchanged [] = refl
universals-exchanged (b ∷ P) = go b.quant (universals-exchanged P)
  where
    go : (q : Quant) → universals (exchanged P) ≡ existentials P →
        cond (is_exists (other_quant q)) (universals (exchanged P)) (b.var ∷ universals (exchanged P)) ≡ cond
        (is_exists q) (b.var ∷ existentials P) (existentials P)
    go Exists e = ap (λ (xs : List ℕ). b.var ∷ xs) e
    go Forall e = e

pub existentials-exchanged : (P : Prefix) → existentials (exchanged P) ≡ universals P
existentials-exchanged [] = refl
existentials-exchanged (b ∷ P) = go b.quant (existentials-exchanged P)
  where
    go : (q : Quant) → existentials (exchanged P) ≡ universals P →
        cond (is_exists (other_quant q)) (b.var ∷ existentials (exchanged P)) (existentials (exchanged P)) ≡ cond
        (is_exists q) (universals P) (b.var ∷ universals P)
    go Exists e = e
    go Forall e = ap (λ (xs : List ℕ). b.var ∷ xs) e

pub refuted : (F G : PrenexFormula) (ss : List ProofStep) (rs : List Reversal) (gave wide made : CertificateView) →
    IsFormula F → Run F ss G → Reversals F ss rs → LawfulHerbrand G.prefix (trees_of gave) → IsWide F rs gave wide →
    IsNarrowed (exchanged F.prefix) wide made → IsRefuted F G rs gave made
refuted F G ss rs gave wide made f run reversals lawful w n = record {
  inputs = n.inputs ∙ universals-exchanged F.prefix;
  outputs = n.outputs ∙ existentials-exchanged F.prefix;
  values = values;
  lawful = made_law;
  herbrand = λ h. record {
    lawful = made_law;
    loses = λ A. MatrixFalse-agree (outcome back A) (outcome (trees_of made) A) F.matrix (same A)
        ((run-carries F ss G rs (trees_of gave) f (Run-justified F ss G run) reversals h).loses A);
  };
  gates = let a : length made.gates ≤ length wide.gates = n.gates in
      let b : length wide.gates ≤ length gave.gates + weights rs = w.gates in omega arith;
  cones = λ ns h. let a : length made.gates ≤ length wide.gates = n.gates in let b = w.cones ns h in omega arith;
}
  where
    back : Strategy
    back = Forth rs (trees_of gave)

    law : LawfulHerbrand F.prefix (Forth rs (trees_of gave))
    law = run-lawful F ss G rs (trees_of gave) f (Run-justified F ss G run) reversals lawful

    made_law : LawfulHerbrand F.prefix (trees_of made)
    made_law = exchanged-lawful F.prefix (trees_of made) n.lawful

    values : (u : ℕ) → is_universal F.prefix u ≡ true → (A : Assignment) →
        value_of (circuit_of (trees_of made) u) A ≡ value_of (circuit_of (Forth rs (trees_of gave)) u) A
    values u e A = (n.serves u (exchanged-existential F.prefix u ∙ e)).values A ∙ (w.serves u e).values A

    same : (A : Assignment) (x : ℕ) → outcome back A x ≡ outcome (trees_of made) A x
    same A x = elim (cases_Bool (is_universal F.prefix x)) [
      | inl e ↦ sym (values x e A)
      | inr e ↦ ap (λ (t : Circuit). value_of t A) (circuit_of-none (Forth rs (trees_of gave)) x (law.trees x ∙ e))
          ∙ sym (ap (λ (t : Circuit). value_of t A) (circuit_of-none (trees_of made) x (made_law.trees x ∙ e)))
    ]
