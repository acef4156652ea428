-- Whether some target applies does not depend on the numbers of the clauses.
use Rattle.std.proofs.Common.{◌≡◌, ◌≢◌, ℕ, zero, suc, [], ◌∷◌, refl, sym, ap, subst, arith, Some, None}
use Rattle.q_logic.specs.declared.rule_bounds.Bounds.{Bounds}
use Rattle.q_logic.specs.Prelude.{Clause, Prefix, PrenexFormula, standard, IsInLimits, Slots, slot, live, others, numbered, Target, Applicable}
use Rattle.q_logic.proofs.RuleLaws.{Renumbering, Renumbered}
use Rattle.q_logic.proofs.LawsOf.{laws_of}
use Rattle.q_logic.proofs.Common.{live-numbered}
use Rattle.q_sched.specs.Settled.{NoneApplies}

-- where the clause of a number of `numbered (live N)` stands in N
abbrev number_in : Slots → ℕ → ℕ
number_in [] c = c
number_in (None ∷ N) c = suc (number_in N c)
number_in (Some D ∷ N) zero = zero
number_in (Some D ∷ N) (suc c) = suc (number_in N c)

-- and back
abbrev order_in : Slots → ℕ → ℕ
order_in [] c = c
order_in (None ∷ N) zero = zero
order_in (None ∷ N) (suc c) = order_in N c
order_in (Some D ∷ N) zero = zero
order_in (Some D ∷ N) (suc c) = suc (order_in N c)

out_of-there : (N : Slots) (c : ℕ) (C : Clause) → slot (numbered (live N)) c ≡ Some C → slot N (number_in N c) ≡ Some C
out_of-there [] c C e = cc
out_of-there (None ∷ N) c C e = out_of-there N c C e
out_of-there (Some D ∷ N) zero C e = e
out_of-there (Some D ∷ N) (suc c) C e = out_of-there N c C e

out_of-beside : (N : Slots) (c : ℕ) (C : Clause) → slot (numbered (live N)) c ≡ Some C → others c (numbered (live N)) ≡ others (number_in N c) N
out_of-beside [] c C e = cc
out_of-beside (None ∷ N) c C e = out_of-beside N c C e
out_of-beside (Some D ∷ N) zero C e = live-numbered (live N)
out_of-beside (Some D ∷ N) (suc c) C e = ap (λ Y. D ∷ Y) (out_of-beside N c C e)

out_of-apart : (N : Slots) (c d : ℕ) → c ≢ d → number_in N c ≢ number_in N d
out_of-apart [] c d n e = n e
out_of-apart (None ∷ N) c d n e = out_of-apart N c d n (omega arith)
out_of-apart (Some D ∷ N) zero zero n e = n refl
out_of-apart (Some D ∷ N) zero (suc d) n e = omega arith
out_of-apart (Some D ∷ N) (suc c) zero n e = omega arith
out_of-apart (Some D ∷ N) (suc c) (suc d) n e = out_of-apart N c d (λ f. n (ap suc f)) (omega arith)

into-there : (N : Slots) (c : ℕ) (C : Clause) → slot N c ≡ Some C → slot (numbered (live N)) (order_in N c) ≡ Some C
into-there [] c C e = cc
into-there (None ∷ N) zero C e = cc
into-there (None ∷ N) (suc c) C e = into-there N c C e
into-there (Some D ∷ N) zero C e = e
into-there (Some D ∷ N) (suc c) C e = into-there N c C e

into-beside : (N : Slots) (c : ℕ) (C : Clause) → slot N c ≡ Some C → others c N ≡ others (order_in N c) (numbered (live N))
into-beside [] c C e = cc
into-beside (None ∷ N) zero C e = cc
into-beside (None ∷ N) (suc c) C e = into-beside N c C e
into-beside (Some D ∷ N) zero C e = sym (live-numbered (live N))
into-beside (Some D ∷ N) (suc c) C e = ap (λ Y. D ∷ Y) (into-beside N c C e)

into-apart : (N : Slots) (c d : ℕ) (C D : Clause) → slot N c ≡ Some C → slot N d ≡ Some D → c ≢ d → order_in N c ≢ order_in N d
into-apart [] c d C D e f n = cc
into-apart (None ∷ N) zero d C D e f n = cc
into-apart (None ∷ N) (suc c) zero C D e f n = cc
into-apart (None ∷ N) (suc c) (suc d) C D e f n = into-apart N c d C D e f (λ g. n (ap suc g))
into-apart (Some E ∷ N) zero zero C D e f n = absurd (n refl)
into-apart (Some E ∷ N) zero (suc d) C D e f n = λ g. omega arith
into-apart (Some E ∷ N) (suc c) zero C D e f n = λ g. omega arith
into-apart (Some E ∷ N) (suc c) (suc d) C D e f n = λ g. into-apart N c d C D e f (λ h. n (ap suc h)) (omega arith)

out_of-numbered : (N : Slots) → Renumbering (numbered (live N)) N
out_of-numbered N = record {
  number = number_in N;
  same = live-numbered (live N);
  there = out_of-there N;
  beside = out_of-beside N;
  apart = λ c d C D e f. out_of-apart N c d;
}

into-numbered : (N : Slots) → Renumbering N (numbered (live N))
into-numbered N = record {
  number = order_in N;
  same = sym (live-numbered (live N));
  there = into-there N;
  beside = into-beside N;
  apart = into-apart N;
}

applies-elsewhere : (B : Bounds) (P : Prefix) (M N : Slots) → Renumbering M N → (t : Target) → Applicable B P M t → (u : Target) × Applicable B P N u
applies-elsewhere B P M N r t a =
    let u : Renumbered B P M N r.number t = (laws_of t).renumbered B P M N r a.fits in
    (u.target, record { fits = u.fits; in_limits = subst (λ (F : PrenexFormula). IsInLimits standard F) u.changed a.in_limits })

-- the program's own numbering and that of the clauses in their order
pub none-numbered : (B : Bounds) (P : Prefix) (N : Slots) → NoneApplies B P N → NoneApplies B P (numbered (live N))
none-numbered B P N h t a =
    let u : (u : Target) × Applicable B P N u = applies-elsewhere B P (numbered (live N)) N (out_of-numbered N) t a in
    h u.0 u.1

pub numbered-none : (B : Bounds) (P : Prefix) (N : Slots) → NoneApplies B P (numbered (live N)) → NoneApplies B P N
numbered-none B P N h t a =
    let u : (u : Target) × Applicable B P (numbered (live N)) u = applies-elsewhere B P N (numbered (live N)) (into-numbered N) t a in
    h u.0 u.1
