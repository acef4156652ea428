-- What is common to the targets of all rules: how a change keeps the limits, what depends on the clause of each id alone, and
-- when a target was taken.
use Rattle.std.proofs.Common.{◌≡◌, ◌≤◌, ◌+◌, ℕ, Bool, true, false, cond, [], ◌∷◌, inl, inr, arith, refl, sym, ap, ◌∙◌, subst, Some, None, length}
use Rattle.std.proofs.lemmas.Bool.{cases_eq}
use Rattle.q_logic.specs.declared.rule_bounds.Bounds.{Bounds}
use Rattle.q_logic.specs.Prelude.{Literal, Clause, Matrix, Prefix, PrenexFormula, without, standard, IsInLimits, measure_of, literals_in, has, without_literal, each_without, Slots, slot, set_slot, live, others, formula_of, swept, Target, Fits, Applicable, change, result_of, AreAlike}
use Rattle.q_logic.proofs.Common.{without-shorter, live-gone, slot-set_other, slot-set_none}
use Rattle.q_logic.proofs.MeasureFalls.{measure-alike}
use Rattle.q_logic.proofs.RuleLaws.{Renumbering, Renumbered}
use Rattle.q_logic.proofs.LawsOf.{laws_of}
use Rattle.q_logic.proofs.TargetRuns.{target-falls}
use Rattle.q_kernel.specs.Prelude.{Seen, slots, formula_in, SameView, IsReady, IsTaken}
use Rattle.q_kernel.proofs.SlotLists.{length-others, literals-others, live-same}
use Rattle.q_kernel.proofs.KernelRuns.{led-through, led-view}
use Rattle.q_rule.specs.Becoming.{HasResult}

-- No more clauses and no more literals.
pub record IsLess (Y X : Matrix) : Type 0 where
  pub clauses : length Y ≤ length X
  pub lits : literals_in Y ≤ literals_in X

pub less-through : (Z Y X : Matrix) → IsLess Z Y → IsLess Y X → IsLess Z X
less-through Z Y X f g = record { clauses = let a = f.clauses in let b = g.clauses in omega arith; lits = let a = f.lits in let b = g.lits in omega arith }

pub less-limits : (P : Prefix) (Y X : Matrix) → IsLess Y X → IsInLimits standard (formula_of P X) → IsInLimits standard (formula_of P Y)
less-limits P Y X f h = record { vars = h.vars; clauses = most (length Y) (length X) 33554432 f.clauses h.clauses; lits = most (literals_in Y) (literals_in X) 134217728 f.lits h.lits }
  where
    most : (x y z : ℕ) → x ≤ y → y ≤ z → x ≤ z
    most x y z i j = omega arith

pub each_without-less : (l : Literal) (X : Matrix) → IsLess (each_without l X) X
each_without-less l [] = record { clauses = omega arith; lits = omega arith }
each_without-less l (D ∷ X) = let i = each_without-less l X in let w = without-shorter l D in record {
  clauses = let a = i.clauses in omega arith;
  lits = let a = i.lits in omega arith;
}

pub without_literal-less : (l : Literal) (X : Matrix) → IsLess (without_literal l X) X
without_literal-less l [] = record { clauses = omega arith; lits = omega arith }
without_literal-less l (D ∷ X) = go (has l D) (without_literal-less l X)
  where
    go : (b : Bool) → IsLess (without_literal l X) X → IsLess (cond b (without_literal l X) (D ∷ without_literal l X)) (D ∷ X)
    go true i = record { clauses = let a = i.clauses in omega arith; lits = let a = i.lits in omega arith }
    go false i = record { clauses = let a = i.clauses in omega arith; lits = let a = i.lits in omega arith }

pub others-less : (N : Slots) (c : ℕ) (C : Clause) → slot N c ≡ Some C → IsLess (others c N) (live N)
others-less N c C e = record { clauses = let a = length-others N c C e in omega arith; lits = let a = literals-others N c C e in omega arith }

pub shortened-less : (l : Literal) (N : Slots) (c : ℕ) (C : Clause) → slot N c ≡ Some C → IsLess (without l C ∷ others c N) (live N)
shortened-less l N c C e = record {
  clauses = let a = length-others N c C e in omega arith;
  lits = let a = literals-others N c C e in let w = without-shorter l C in omega arith;
}

-- The same clause of each id.
pub others-same : (M N : Slots) (c : ℕ) → ((d : ℕ) → slot N d ≡ slot M d) → others c M ≡ others c N
others-same M N c s = sym (live-gone M c) ∙ (live-same (set_slot c None M) (set_slot c None N) same ∙ live-gone N c)
  where
    same : (d : ℕ) → slot (set_slot c None M) d ≡ slot (set_slot c None N) d
    same d = elim (cases_eq d c) [
      | inl e ↦ subst (λ (x : ℕ). slot (set_slot c None M) x ≡ slot (set_slot c None N) x) (sym e) (slot-set_none c M ∙ sym (slot-set_none c N))
      | inr n ↦ slot-set_other c d None M n ∙ (sym (s d) ∙ sym (slot-set_other c d None N n))
    ]

-- The conditions of a target, and its change, depend on the prefix and on the clause of each id alone.
abbrev same-numbers : (M N : Slots) → ((d : ℕ) → slot N d ≡ slot M d) → Renumbering M N
same-numbers M N s = record {
  number = λ c. c;
  same = live-same M N (λ d. sym (s d));
  there = λ c C e. s c ∙ e;
  beside = λ c C e. others-same M N c s;
  apart = λ c d C D e f n. n;
}

fits-slots : (B : Bounds) (P : Prefix) (M N : Slots) (t : Target) → ((d : ℕ) → slot N d ≡ slot M d) → Fits B P M t → Fits B P N t
fits-slots B P M N t s f =
    let u : Renumbered B P M N (λ c. c) t = (laws_of t).renumbered B P M N (same-numbers M N s) f in
    subst (λ (v : Target). Fits B P N v) (u.kept (λ c. refl)) u.fits

change-slots : (B : Bounds) (P : Prefix) (M N : Slots) (t : Target) → ((d : ℕ) → slot N d ≡ slot M d) → Fits B P M t → change P M t ≡ change P N t
change-slots B P M N t s f =
    let u : Renumbered B P M N (λ c. c) t = (laws_of t).renumbered B P M N (same-numbers M N s) f in
    u.changed ∙ ap (λ (v : Target). change P N v) (u.kept (λ c. refl))

pub fits-view : (B : Bounds) (old new : Seen) (t : Target) → SameView old new → Fits B old.prefix (slots old) t → Fits B new.prefix (slots new) t
fits-view B old new t v f = subst (λ (P : Prefix). Fits B P (slots new) t) (sym v.prefix) (fits-slots B old.prefix (slots old) (slots new) t v.clauses f)

pub change-view : (B : Bounds) (old new : Seen) (t : Target) → SameView old new → Fits B old.prefix (slots old) t → change old.prefix (slots old) t ≡ change new.prefix (slots new) t
change-view B old new t v f = change-slots B old.prefix (slots old) (slots new) t v.clauses f ∙ ap (λ (P : Prefix). change P (slots new) t) (sym v.prefix)

pub applies-view : (B : Bounds) (old new : Seen) (t : Target) → SameView old new → Applicable B old.prefix (slots old) t → Applicable B new.prefix (slots new) t
applies-view B old new t v a = record { fits = fits-view B old new t v a.fits; in_limits = subst (λ (F : PrenexFormula). IsInLimits standard F) (change-view B old new t v a.fits) a.in_limits }

pub view-itself : (k : Seen) → SameView k k
view-itself k = record { prefix = refl; clauses = λ c. refl; formula = refl; text = refl }

pub view-through : (a b c : Seen) → SameView a b → SameView b c → SameView a c
view-through a b c v w = record { prefix = w.prefix ∙ v.prefix; clauses = λ i. w.clauses i ∙ v.clauses i; formula = w.formula ∙ v.formula; text = w.text ∙ v.text }

pub ready-view : (old new : Seen) → SameView old new → IsReady old → IsReady new
ready-view old new v r = record { swept = subst (λ (F : PrenexFormula). swept F ≡ F) (sym v.formula) r.swept; limits = subst (λ (F : PrenexFormula). IsInLimits standard F) (sym v.formula) r.limits }

-- A target that was taken.
measure-same : (B : Bounds) (F G : PrenexFormula) → AreAlike F G → measure_of B F ≡ measure_of B G
measure-same B F G a = measure-alike B F.prefix F.matrix G.matrix a.clauses ∙ ap (λ (P : Prefix). measure_of B (formula_of P G.matrix)) a.prefix

pub taken : (B : Bounds) (old mid new : Seen) (t : Target) → Applicable B old.prefix (slots old) t → SameView old mid → HasResult mid new t → IsTaken B old new t
taken B old mid new t applies v h =
    let e : result_of mid.prefix (slots mid) t ≡ result_of old.prefix (slots old) t = ap swept (sym (change-view B old mid t v applies.fits)) in
    let a : AreAlike (result_of old.prefix (slots old) t) (formula_in new) = subst (λ F. AreAlike F (formula_in new)) e h.alike in
    record {
      applies = applies;
      led = led-through old mid new (led-view old mid v) h.led;
      result = a;
      lower = subst (λ (n : ℕ). n + 1 ≤ measure_of B (formula_in old)) (measure-same B (result_of old.prefix (slots old) t) (formula_in new) a) (target-falls B old.prefix (slots old) t applies.fits);
      ready = h.ready;
    }
