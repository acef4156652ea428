-- Steps in front of a proof that are taken without the empty clause, and what is behind them.
use Rattle.std.proofs.Common.{◌≡◌, ◌+◌, ℕ, suc, Bool, true, false, cond, List, [], ◌∷◌, ◌++◌, length, inl, inr, refl, sym, subst, arith, Option}
use Rattle.q_logic.specs.declared.limits.Limits.{Limits}
use Rattle.q_logic.specs.Prelude.{PrenexFormula, ProofStep, after}
use Rattle.q_shares.specs.Shares.{Share, count}
use Rattle.q_refutation.specs.Refutations.{IsLost}
use Rattle.q_refutation.specs.SharedRefutations.{AreTakenUnlost, MayBeTaken, RefusedShared, SharedIn}

-- one step more
pub taken-more : (j : Share) (m : Limits) (k : ℕ) (F E : PrenexFormula) (ss : List ProofStep) (s : ProofStep) → AreTakenUnlost j m k F ss E →
    (IsLost E → ⊥) → MayBeTaken (j (k + length ss)) m E s → AreTakenUnlost j m k F (ss ++ s ∷ []) (after E s)
taken-more j m k F E [] s e u v =
    let z : k + 0 ≡ k = omega arith in
    let w : MayBeTaken (j k) m E s = subst (λ (n : ℕ). MayBeTaken (j n) m E s) z v in
    subst (λ (G : PrenexFormula). AreTakenUnlost j m k G (s ∷ []) (after E s)) (sym e) (u, w, refl)
taken-more j m k F E (t ∷ ss) s (n, h, r) u v =
    let z : k + suc (length ss) ≡ (k + 1) + length ss = omega arith in
    (n, h, taken-more j m (k + 1) (after F t) E ss s r u (subst (λ (n : ℕ). MayBeTaken (j n) m E s) z v))

-- what is behind steps that are taken
pub in-behind : (j : Share) (m : Limits) (k : ℕ) (F E : PrenexFormula) (ss us : List ProofStep) (n : ℕ) → AreTakenUnlost j m k F ss E →
    SharedIn j m (k + length ss) E us n → SharedIn j m k F (ss ++ us) (count j k ss + n)
in-behind j m k F E [] us n e r =
    let z : k + 0 ≡ k = omega arith in
    let y : n ≡ 0 + n = omega arith in
    let w : SharedIn j m k E us n = subst (λ (i : ℕ). SharedIn j m i E us n) z r in
    subst (λ (i : ℕ). SharedIn j m k F us i) y (subst (λ (G : PrenexFormula). SharedIn j m k G us n) (sym e) w)
in-behind j m k F E (t ∷ ss) us n (u, h, q) r =
    let z : k + suc (length ss) ≡ (k + 1) + length ss = omega arith in
    inr (
      u,
      h,
      (
        count j (k + 1) ss + n,
        in-behind j m (k + 1) (after F t) E ss us n q (subst (λ (i : ℕ). SharedIn j m i E us n) z r),
        more (j k) (count j (k + 1) ss),
      ),
    )
  where
    more : (own : Bool) (c : ℕ) → cond own (c + 1) c + n ≡ cond own (c + n + 1) (c + n)
    more true c = omega arith
    more false c = refl

pub refused-front : (j : Share) (m : Limits) (k : ℕ) (F E : PrenexFormula) (ss us : List ProofStep) (at : ℕ) (cause : Option ℕ) →
    AreTakenUnlost j m k F ss E → RefusedShared j m (k + length ss) E us at cause → RefusedShared j m k F (ss ++ us) (length ss + at) cause
refused-front j m k F E [] us at cause e r =
    let z : k + 0 ≡ k = omega arith in
    let y : at ≡ 0 + at = omega arith in
    let w : RefusedShared j m k E us at cause = subst (λ (i : ℕ). RefusedShared j m i E us at cause) z r in
    subst (λ (i : ℕ). RefusedShared j m k F us i cause) y (subst (λ (G : PrenexFormula). RefusedShared j m k G us at cause) (sym e) w)
refused-front j m k F E (t ∷ ss) us at cause (u, h, q) r =
    let z : k + suc (length ss) ≡ (k + 1) + length ss = omega arith in (
      u,
      inr (
        h,
        (
          length ss + at,
          refused-front j m (k + 1) (after F t) E ss us at cause q (subst (λ (i : ℕ). RefusedShared j m i E us at cause) z r),
          omega arith,
        ),
      ),
    )

-- the empty clause is there
pub in-now : (j : Share) (m : Limits) (k : ℕ) (F : PrenexFormula) (us : List ProofStep) → IsLost F → SharedIn j m k F us 0
in-now j m k F [] h = (h, refl)
in-now j m k F (s ∷ us) h = inl (h, refl)
