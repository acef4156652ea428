-- The laws of Merge: over the two clauses that join both literals each clause is implied in its new form.
use Rattle.std.proofs.Common.{◌≡◌, ◌↔◌, ◌+◌, Bool, true, false, not, ◌&&◌, eqb, length, arith, refl, ap, subst}
use Rattle.std.proofs.lemmas.Bool.{and_from}
use Rattle.q_logic.specs.declared.rule_bounds.Bounds.{Bounds}
use Rattle.q_logic.specs.Prelude.{Literal, Matrix, Prefix, is_existential, outer_or_same, Slots, live, formula_of, merge, Fits, change}
use Rattle.q_logic.specs.Merging.{merged, joined, Mergeable}
use Rattle.q_logic.specs.Deciding.{fits}
use Rattle.q_logic.proofs.Heights.{weight, one}
use Rattle.q_logic.proofs.Ways.{at-most, clauses-weight, lits-weight}
use Rattle.q_logic.proofs.InOrder.{merged-order}
use Rattle.q_logic.proofs.MeasureFalls.{falls-merge}
use Rattle.q_logic.proofs.MergeRun.{merge-run}
use Rattle.q_logic.proofs.Decided.{and-parts}
use Rattle.q_logic.proofs.JoinedDecided.{decided-joined, AllOrdered}
use Rattle.q_logic.proofs.RuleLaws.{Laws, false_true}

decided-merge : (B : Bounds) (P : Prefix) (N : Slots) (keep gone : Literal) → AllOrdered (live N) → (fits B P N (merge keep gone) ≡ true) ↔ Fits B P N (merge keep gone)
decided-merge B P N keep gone o = (there, back)
  where
    J : Bool
    J = joined (live N) keep gone

    K : Bool
    K = joined (live N) gone keep

    E : Bool
    E = is_existential P gone.var

    O : Bool
    O = outer_or_same P keep.var gone.var

    differ : not (eqb keep.var gone.var) ≡ true → eqb keep.var gone.var ≡ false
    differ h = grind arith

    there : fits B P N (merge keep gone) ≡ true → Mergeable P (live N) keep gone
    there h =
        let a : (not (eqb keep.var gone.var) ≡ true) × ((E && (O && (J && K))) ≡ true) = and-parts (not (eqb keep.var gone.var)) (E && (O && (J && K))) h in
        let b : (E ≡ true) × ((O && (J && K)) ≡ true) = and-parts E (O && (J && K)) a.1 in
        let c : (O ≡ true) × ((J && K) ≡ true) = and-parts O (J && K) b.1 in
        let d : (J ≡ true) × (K ≡ true) = and-parts J K c.1 in
        record { different = differ a.0; existential = b.0; kept_outer = c.0; to_gone = (decided-joined (live N) keep gone o).0 d.0; to_keep = (decided-joined (live N) gone keep o).0 d.1 }

    back : Mergeable P (live N) keep gone → fits B P N (merge keep gone) ≡ true
    back h = and_from (not (eqb keep.var gone.var)) (E && (O && (J && K))) (let z : eqb keep.var gone.var ≡ false = h.different in grind arith)
        (and_from E (O && (J && K)) h.existential
        (and_from O (J && K) h.kept_outer
        (and_from J K ((decided-joined (live N) keep gone o).1 h.to_gone) ((decided-joined (live N) gone keep o).1 h.to_keep))))

pub laws : (keep : Literal) (gone : Literal) → Laws (merge keep gone)
laws keep gone = record {
  run = λ B P N f m a. at-most (2 + (weight one (live N) + 0)) (4 + (weight length (live N) + 0)) (formula_of P (live N)) (change P N (merge keep gone)) (let i = clauses-weight P (live N) m in omega arith) (let i = lits-weight P (live N) m in omega arith) (merge-run B P N keep gone f.closed a.fits);
  distinct = λ P N d. d;
  falls = λ B P N h. falls-merge B P (live N) keep gone h;
  order = λ P N o. merged-order keep gone (live N) o;
  renumbered = λ B P M N r h. record {
    target = merge keep gone;
    fits = subst (λ (X : Matrix). Mergeable P X keep gone) r.same h;
    changed = ap (λ (X : Matrix). formula_of P (merged keep gone X)) r.same;
    kept = λ i. refl;
  };
  nothing = λ B N o a h. false_true h.existential;
  decided = λ B P N n o. decided-merge B P N keep gone o;
}
