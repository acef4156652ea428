-- Steps on a prefix whose variables a log can name are steps that a log can hold.
use Rattle.std.proofs.Common.{◌≤◌, ◌<◌, ◌^◌, ℕ, Bool, true, false, cond, eqb, List, [], ◌∷◌, Option, Some, None, inl, inr, refl, arith}
use Rattle.std.specs.List.{AllByRecursion}
use Rattle.q_logic.specs.declared.formulas.Quant.TheVariants.{Exists}
use Rattle.q_logic.specs.Prelude.{Literal, Clause, Prefix, IsIn, NumberedFormula, ProofPart, ProofStep, add, delete, drop_literal, fresh, remove_variable, Within, hinted_after, insert_after, removed_from, IsFirst, IsStep, in_front, standard, without}
use Rattle.q_logic.proofs.Common.{bound-range, existential-is_bound, without-IsIn}
use Rattle.q_log.specs.Texts.{IsLogged}
use Rattle.q_same_steps.specs.HintedMaking.{HintedApplies}
use Rattle.q_run_show.specs.Readings.{AreNamed}

abbrev IsNamed : Literal → Type 0
IsNamed l = (1 ≤ l.var) × (l.var < 2 ^ 31)

each-named : (ls : List Literal) → ((k : Literal) → IsIn k ls → IsNamed k) → AllByRecursion IsNamed ls
each-named [] h = tt
each-named (l ∷ ls) h = (h l (inl refl), each-named ls (λ k m. h k (inr m)))

front-named : (P : Prefix) (p : Option Literal) (C : Clause) → AreNamed P → Within P C → IsFirst p C → AllByRecursion IsNamed (in_front p C)
front-named P None C a w f = each-named C (λ k m. bound-range P k.var a (w k m))
front-named P (Some l) C a w f = (bound-range P l.var a (w l f), each-named (without l C) (λ k m. bound-range P k.var a (w k (without-IsIn l C k m))))

pub step-logged : (N : NumberedFormula) (s : ProofStep) (t : ProofPart) → AreNamed N.prefix → IsStep s → HintedApplies standard N s t → IsLogged s
step-logged N (add p C) t a i h = record { step = i; numbers = front-named N.prefix p C a h.0 i.1 }
step-logged N (delete p C) t a i h = record { step = i; numbers = front-named N.prefix p C a h.0 i.1 }
step-logged N (drop_literal l C) t a i h = record { step = i; numbers = front-named N.prefix (Some l) C a h.0 i.1 }
step-logged N (fresh v w) t a i h =
    let f = h.0 in
    record { step = tt; numbers = ((f.positive, small v f.within), (bound-range N.prefix w a (existential-is_bound N.prefix w f.behind), tt)) }
  where
    small : (x : ℕ) → x ≤ 16777215 → x < 2 ^ 31
    small x b = omega arith
step-logged N (remove_variable v) t a i h = record { step = tt; numbers = (bound-range N.prefix v a h.0, tt) }

inserted-named : (w v : ℕ) (P : Prefix) → AreNamed P → (1 ≤ v) × (v < 2 ^ 31) → AreNamed (insert_after w v P)
inserted-named w v [] a r = tt
inserted-named w v (b ∷ P) a r = go (eqb b.var w) (inserted-named w v P a.1 r)
  where
    go : (t : Bool) → AreNamed (insert_after w v P) → AreNamed (cond t (b ∷ record { quant = Exists; var = v } ∷ P) (b ∷ insert_after w v P))
    go true i = (a.0, (r, a.1))
    go false i = (a.0, i)

left-named : (v : ℕ) (P : Prefix) → AreNamed P → AreNamed (removed_from v P)
left-named v [] a = tt
left-named v (b ∷ P) a = go (eqb b.var v) (left-named v P a.1)
  where
    go : (t : Bool) → AreNamed (removed_from v P) → AreNamed (cond t P (b ∷ removed_from v P))
    go true i = a.1
    go false i = (a.0, i)

pub after-named : (N : NumberedFormula) (s : ProofStep) (t : ProofPart) → HintedApplies standard N s t → AreNamed N.prefix → AreNamed (hinted_after N s t).prefix
after-named N (add p C) t h a = a
after-named N (delete p C) t h a = a
after-named N (drop_literal l C) t h a = a
after-named N (fresh v w) t h a = let f = h.0 in inserted-named w v N.prefix a (f.positive, small v f.within)
  where
    small : (x : ℕ) → x ≤ 16777215 → x < 2 ^ 31
    small x b = omega arith
after-named N (remove_variable v) t h a = left-named v N.prefix a
