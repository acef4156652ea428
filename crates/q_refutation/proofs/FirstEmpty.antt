-- Steps in front of a proof that are made without the empty clause, and what is behind them; formulas that are alike.
use Rattle.std.proofs.Common.{◌≡◌, ◌+◌, ℕ, Bool, false, List, [], ◌∷◌, ◌++◌, length, inl, inr, refl, sym, subst, arith, Option}
use Rattle.q_logic.specs.declared.limits.Limits.{Limits}
use Rattle.q_logic.specs.declared.steps.Kind.TheVariants.{Delete}
use Rattle.q_logic.specs.Prelude.{Clause, IsIn, Prefix, PrenexFormula, AreAlike, ProofStep, add, delete, drop_literal, fresh, remove_variable, Within, Valid, Cause, after}
use Rattle.q_logic.specs.StepForms.{kind_of}
use Rattle.q_logic.proofs.AlikeFormulas.{alike_swapped, alike_valid, alike_wrong}
use Rattle.q_logic.proofs.JustifiedRuns.{IsIn-alike}
use Rattle.q_same_steps.specs.Making.{Applies, Unfit}
use Rattle.q_refutation.specs.Refutations.{MayBeMade, AreMadeUnlost, IsLost, RefutedIn, IsBad, BadCause, RefusedAt}

-- a deletion may be made where it can be, and any other step where it is valid

pub may-pass : (m : Limits) (F : PrenexFormula) (s : ProofStep) → kind_of s ≡ Delete → Applies m F s → MayBeMade false m F s
may-pass m F (add p C) k a = cc
may-pass m F (delete p C) k a = a
may-pass m F (drop_literal l C) k a = cc
may-pass m F (fresh v w) k a = cc
may-pass m F (remove_variable v) k a = cc

pub may-step : (m : Limits) (F : PrenexFormula) (s : ProofStep) → (kind_of s ≡ Delete → ⊥) → Valid m F s → MayBeMade false m F s
may-step m F (add p C) k v = v
may-step m F (delete p C) k v = absurd (k refl)
may-step m F (drop_literal l C) k v = v
may-step m F (fresh v w) k h = h
may-step m F (remove_variable v) k h = h

pub bad-pass : (m : Limits) (F : PrenexFormula) (s : ProofStep) (n : ℕ) → kind_of s ≡ Delete → Unfit m F s n → BadCause false m F s n
bad-pass m F (add p C) n k u = cc
bad-pass m F (delete p C) n k u = record { applies = u.applies; least = u.least }
bad-pass m F (drop_literal l C) n k u = cc
bad-pass m F (fresh v w) n k u = cc
bad-pass m F (remove_variable v) n k u = cc

pub bad-step : (m : Limits) (F : PrenexFormula) (s : ProofStep) (n : ℕ) → (kind_of s ≡ Delete → ⊥) → Cause m F s n → BadCause false m F s n
bad-step m F (add p C) n k u = record { applies = u.applies; least = u.least }
bad-step m F (delete p C) n k u = absurd (k refl)
bad-step m F (drop_literal l C) n k u = record { applies = u.applies; least = u.least }
bad-step m F (fresh v w) n k u = record { applies = u.applies; least = u.least }
bad-step m F (remove_variable v) n k u = record { applies = u.applies; least = u.least }

-- formulas that are alike

pub alike_lost : (F G : PrenexFormula) → AreAlike F G → IsLost F → IsLost G
alike_lost F G a h = IsIn-alike F.matrix G.matrix a.clauses [] h

alike_there : (F G : PrenexFormula) (C : Clause) → AreAlike F G → Within F.prefix C × IsIn C F.matrix → Within G.prefix C × IsIn C G.matrix
alike_there F G C a (w, i) = (subst (λ (P : Prefix). Within P C) a.prefix w, IsIn-alike F.matrix G.matrix a.clauses C i)

pub alike_may : (m : Limits) (F G : PrenexFormula) (s : ProofStep) → AreAlike F G → MayBeMade false m F s → MayBeMade false m G s
alike_may m F G (add p C) a h = alike_valid m F G (add p C) a h
alike_may m F G (delete p C) a h = alike_there F G C a h
alike_may m F G (drop_literal l C) a h = alike_valid m F G (drop_literal l C) a h
alike_may m F G (fresh v w) a h = alike_valid m F G (fresh v w) a h
alike_may m F G (remove_variable v) a h = alike_valid m F G (remove_variable v) a h

alike_is_bad : (m : Limits) (F G : PrenexFormula) (s : ProofStep) (n : ℕ) → AreAlike F G → IsBad false m F s n → IsBad false m G s n
alike_is_bad m F G (add p C) n a h = alike_wrong m F G (add p C) n a h
alike_is_bad m F G (delete p C) n a (inl (e, u)) = inl (e, λ w. u (subst (λ (P : Prefix). Within P C) (sym a.prefix) w))
alike_is_bad m F G (delete p C) n a (inr (e, u)) = inr (e, λ i. u (IsIn-alike G.matrix F.matrix (λ D. sym (a.clauses D)) C i))
alike_is_bad m F G (drop_literal l C) n a h = alike_wrong m F G (drop_literal l C) n a h
alike_is_bad m F G (fresh v w) n a h = alike_wrong m F G (fresh v w) n a h
alike_is_bad m F G (remove_variable v) n a h = alike_wrong m F G (remove_variable v) n a h

pub alike_bad : (m : Limits) (F G : PrenexFormula) (s : ProofStep) (n : ℕ) → AreAlike F G → BadCause false m F s n → BadCause false m G s n
alike_bad m F G s n a c = record {
  applies = alike_is_bad m F G s n a c.applies;
  least = λ k h w. c.least k h (alike_is_bad m G F s k (alike_swapped F G a) w);
}

-- one step more

pub made-more : (lax : Bool) (m : Limits) (F E : PrenexFormula) (ss : List ProofStep) (s : ProofStep) → AreMadeUnlost lax m F ss E →
    (IsLost E → ⊥) → MayBeMade lax m E s → AreMadeUnlost lax m F (ss ++ s ∷ []) (after E s)
made-more lax m F E [] s e u v = subst (λ (G : PrenexFormula). AreMadeUnlost lax m G (s ∷ []) (after E s)) (sym e) (u, v, refl)
made-more lax m F E (t ∷ ss) s (n, h, r) u v = (n, h, made-more lax m (after F t) E ss s r u v)

-- what is behind steps that are made

pub refuted-behind : (lax : Bool) (m : Limits) (F E : PrenexFormula) (ss us : List ProofStep) (k : ℕ) → AreMadeUnlost lax m F ss E →
    RefutedIn lax m E us k → RefutedIn lax m F (ss ++ us) (length ss + k)
refuted-behind lax m F E [] us k e r =
    let z : k ≡ 0 + k = omega arith in
    subst (λ (i : ℕ). RefutedIn lax m F us i) z (subst (λ (G : PrenexFormula). RefutedIn lax m G us k) (sym e) r)
refuted-behind lax m F E (t ∷ ss) us k (n, h, q) r =
    inr (n, h, (length ss + k, refuted-behind lax m (after F t) E ss us k q r, omega arith))

pub refused-behind : (lax : Bool) (m : Limits) (F E : PrenexFormula) (ss us : List ProofStep) (at : ℕ) (cause : Option ℕ) →
    AreMadeUnlost lax m F ss E → RefusedAt lax m E us at cause → RefusedAt lax m F (ss ++ us) (length ss + at) cause
refused-behind lax m F E [] us at cause e r =
    let z : at ≡ 0 + at = omega arith in
    subst (λ (i : ℕ). RefusedAt lax m F us i cause) z (subst (λ (G : PrenexFormula). RefusedAt lax m G us at cause) (sym e) r)
refused-behind lax m F E (t ∷ ss) us at cause (n, h, q) r =
    (n, inr (h, (length ss + at, refused-behind lax m (after F t) E ss us at cause q r, omega arith)))

-- the empty clause is there

pub refuted-now : (lax : Bool) (m : Limits) (F : PrenexFormula) (us : List ProofStep) → IsLost F → RefutedIn lax m F us 0
refuted-now lax m F [] h = (h, refl)
refuted-now lax m F (s ∷ us) h = inl (h, refl)
