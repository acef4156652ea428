-- The steps of a proper formula are such that their text is read as them.
use Rattle.std.proofs.Common.{◌≡◌, ◌≤◌, ◌<◌, ◌^◌, ℕ, Bool, true, false, cond, [], ◌∷◌, inl, inr, arith, refl, Option, Some, None}
use Rattle.std.specs.List.{AllByRecursion}
use Rattle.q_logic.specs.Prelude.{Literal, IsBelow, literal_eq, Clause, IsIn, PrenexFormula, ArePairs, IsProper, without, is_bound, standard, add, delete, drop_literal, fresh, remove_variable, Within, Valid, IsFirst, first_of, in_front}
use Rattle.q_logic.proofs.Common.{without-IsIn, without-in_order}
use Rattle.q_log.specs.Texts.{IsLogged}
use Rattle.q_log.proofs.WritableRuns.{first-of}
use Rattle.q_kernel.proofs.TextCosts.{proper-var, proper-in_order}

abbrev InRange : Literal → Type 0
InRange l = (1 ≤ l.var) × (l.var < 2 ^ 31)

clause-range : (F : PrenexFormula) (C : Clause) → IsProper F → Within F.prefix C → AllByRecursion InRange C
clause-range F [] p w = tt
clause-range F (l ∷ C) p w = (proper-var F l.var p (w l (inl refl)), clause-range F C p (λ k m. w k (inr m)))

without-range : (l : Literal) (C : Clause) → AllByRecursion InRange C → AllByRecursion InRange (without l C)
without-range l [] a = tt
without-range l (k ∷ C) a = go (literal_eq k l) (without-range l C a.1)
  where
    go : (b : Bool) → AllByRecursion InRange (without l C) → AllByRecursion InRange (cond b (without l C) (k ∷ without l C))
    go true i = i
    go false i = (a.0, i)

front-range : (F : PrenexFormula) (q : Option Literal) (C : Clause) → IsProper F → Within F.prefix C → IsFirst q C → AllByRecursion InRange (in_front q C)
front-range F None C p w f = clause-range F C p w
front-range F (Some l) C p w f = (proper-var F l.var p (w l f), without-range l C (clause-range F C p w))

pub logged-add : (F : PrenexFormula) (q : Option Literal) (C : Clause) → IsProper F → Within F.prefix C → ArePairs IsBelow C → IsFirst q C → IsLogged (add q C)
logged-add F q C p w o f = record { step = (o, f); numbers = front-range F q C p w f }

pub logged-delete : (F : PrenexFormula) (q : Option Literal) (C : Clause) → IsProper F → IsIn C F.matrix → IsFirst q C → IsLogged (delete q C)
logged-delete F q C p m f = record { step = (proper-in_order F C p m, f); numbers = front-range F q C p (p.formula.closed C m) f }

pub logged-drop : (F : PrenexFormula) (l : Literal) (C : Clause) → IsProper F → IsIn C F.matrix → IsIn l C → IsLogged (drop_literal l C)
logged-drop F l C p m i = record { step = (proper-in_order F C p m, i); numbers = front-range F (Some l) C p (p.formula.closed C m) i }

pub logged-shorter : (F : PrenexFormula) (l : Literal) (C : Clause) → IsProper F → IsIn C F.matrix → IsLogged (add (first_of (without l C)) (without l C))
logged-shorter F l C p m = logged-add F (first_of (without l C)) (without l C) p (λ k i. p.formula.closed C m k (without-IsIn l C k i)) (without-in_order l C (proper-in_order F C p m)) (first-of (without l C))

pub logged-fresh : (F : PrenexFormula) (v w : ℕ) → IsProper F → Valid standard F (fresh v w) → is_bound F.prefix w ≡ true → IsLogged (fresh v w)
logged-fresh F v w p h e = record { step = tt; numbers = ((h.positive, small v h.within), (proper-var F w p e, tt)) }
  where
    small : (x : ℕ) → x ≤ 16777215 → x < 2 ^ 31
    small x a = omega arith

pub logged-remove : (F : PrenexFormula) (v : ℕ) → IsProper F → Valid standard F (remove_variable v) → IsLogged (remove_variable v)
logged-remove F v p h = record { step = tt; numbers = (proper-var F v p h.0, tt) }
