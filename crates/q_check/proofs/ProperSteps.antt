-- A formula that the code may hold stays one behind steps that can be made.
use Rattle.std.proofs.Common.{◌≡◌, ◌≤◌, ◌<◌, ◌^◌, ℕ, Bool, true, false, cond, eqb, List, [], ◌∷◌, inl, inr, arith, sym, ap, ◌∙◌, subst, Option}
use Rattle.std.specs.List.{AllByRecursion}
use Rattle.q_logic.specs.declared.limits.Limits.{Limits}
use Rattle.q_logic.specs.declared.formulas.Bound.{Bound}
use Rattle.q_logic.specs.declared.formulas.Quant.TheVariants.{Exists}
use Rattle.q_logic.specs.Prelude.{Literal, IsBelow, Clause, Matrix, Prefix, IsIn, PrenexFormula, ArePairs, IsProper, IsFormula, AreAlike, AreModerate, Distinct, without, is_bound, ProofStep, add, delete, drop_literal, fresh, remove_variable, after, one_less, insert_after, removed_from}
use Rattle.q_logic.specs.StepForms.{IsStep}
use Rattle.q_logic.proofs.Common.{IsIn-alike, AllByRecursion-IsIn, one_less-IsIn, without-IsIn, without-in_order}
use Rattle.q_logic.proofs.FormulaParts.{each-IsIn}
use Rattle.q_logic.proofs.Soundness.{after-formula}
use Rattle.q_same_steps.specs.Making.{Applies}

abbrev InRange : Bound → Type 0
InRange q = (1 ≤ q.var) × (q.var < 2 ^ 31)

removed-ranges : (v : ℕ) (P : Prefix) → AllByRecursion InRange P → AllByRecursion InRange (removed_from v P)
removed-ranges v [] r = tt
removed-ranges v (b ∷ P) r = go (eqb b.var v) (removed-ranges v P r.1)
  where
    go : (t : Bool) → AllByRecursion InRange (removed_from v P) → AllByRecursion InRange (cond t P (b ∷ removed_from v P))
    go true i = r.1
    go false i = (r.0, i)

inserted-ranges : (w v : ℕ) (P : Prefix) → InRange (record { quant = Exists; var = v }) → AllByRecursion InRange P → AllByRecursion InRange (insert_after w v P)
inserted-ranges w v [] n r = tt
inserted-ranges w v (b ∷ P) n r = go (eqb b.var w) (inserted-ranges w v P n r.1)
  where
    go : (t : Bool) → AllByRecursion InRange (insert_after w v P) → AllByRecursion InRange (cond t (b ∷ record { quant = Exists; var = v } ∷ P) (b ∷ insert_after w v P))
    go true i = (r.0, (n, r.1))
    go false i = (r.0, i)

after-ranges : (m : Limits) (F : PrenexFormula) (s : ProofStep) → AreModerate m → AllByRecursion InRange F.prefix → Applies m F s → AllByRecursion InRange (after F s).prefix
after-ranges m F (add p C) h r v = r
after-ranges m F (delete p C) h r v = r
after-ranges m F (drop_literal l C) h r v = r
after-ranges m F (fresh x w) h r v = inserted-ranges w x F.prefix (v.positive, small x m.vars v.within h.vars) r
  where
    small : (x n : ℕ) → x ≤ n → n < 2 ^ 31 → x < 2 ^ 31
    small x n a b = omega (arith, a, b)
after-ranges m F (remove_variable x) h r v = removed-ranges x F.prefix r

less-ordered : (C : Clause) (X : Matrix) → AllByRecursion (ArePairs IsBelow) X → AllByRecursion (ArePairs IsBelow) (one_less C X)
less-ordered C X o = each-IsIn (ArePairs IsBelow) (one_less C X) (λ D m. AllByRecursion-IsIn (ArePairs IsBelow) X D o (one_less-IsIn C X D m))

after-ordered : (m : Limits) (F : PrenexFormula) (s : ProofStep) → AllByRecursion (ArePairs IsBelow) F.matrix → IsStep s → AllByRecursion (ArePairs IsBelow) (after F s).matrix
after-ordered m F (add p C) o h = (h.0, o)
after-ordered m F (delete p C) o h = less-ordered C F.matrix o
after-ordered m F (drop_literal l C) o h = (without-in_order l C h.0, less-ordered C F.matrix o)
after-ordered m F (fresh x w) o h = o
after-ordered m F (remove_variable x) o h = o

made-formula : (m : Limits) (F : PrenexFormula) (s : ProofStep) → IsFormula F → Applies m F s → IsFormula (after F s)
made-formula m F (add p C) f v = record {
  distinct = f.distinct;
  closed = λ D i. elim i [
    | inl e ↦ (λ k j. v.0 k (subst (IsIn k) e j))
    | inr r ↦ f.closed D r
  ];
}
made-formula m F (delete p C) f v =
    record { distinct = f.distinct; closed = λ D i. f.closed D (one_less-IsIn C F.matrix D i) }
made-formula m F (drop_literal l C) f v = record {
  distinct = f.distinct;
  closed = λ D i. elim i [
    | inl e ↦ (λ k j. v.0 k (without-IsIn l C k (subst (IsIn k) e j)))
    | inr r ↦ f.closed D (one_less-IsIn C F.matrix D r)
  ];
}
made-formula m F (fresh v w) f h = after-formula F (fresh v w) f (h.absent, h.behind)
made-formula m F (remove_variable v) f h = after-formula F (remove_variable v) f h

pub made-proper : (m : Limits) (F : PrenexFormula) (s : ProofStep) → AreModerate m → IsProper F → IsStep s → Applies m F s → IsProper (after F s)
made-proper m F s h p i v = record {
  formula = made-formula m F s p.formula v;
  ranges = after-ranges m F s h p.ranges v;
  ordered = after-ordered m F s p.ordered i;
}

-- The order of clauses doesn't matter.
pub alike-proper : (F G : PrenexFormula) → AreAlike F G → IsProper F → IsProper G
alike-proper F G a p = record {
  formula = record {
    distinct = subst Distinct a.prefix p.formula.distinct;
    closed = λ D i k j. subst (λ (P : Prefix). is_bound P k.var ≡ true) a.prefix (p.formula.closed D (back D i) k j);
  };
  ranges = subst (AllByRecursion InRange) a.prefix p.ranges;
  ordered = each-IsIn (ArePairs IsBelow) G.matrix (λ D i. AllByRecursion-IsIn (ArePairs IsBelow) F.matrix D p.ordered (back D i));
}
  where
    back : (D : Clause) → IsIn D G.matrix → IsIn D F.matrix
    back = IsIn-alike G.matrix F.matrix (λ C. sym (a.clauses C))
