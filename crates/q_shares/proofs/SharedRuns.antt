-- Steps that are judged in shares.
use Rattle.std.proofs.Math.Nat.{mod-lt}
use Rattle.std.proofs.Common.{◌≡◌, ◌≤◌, ◌<◌, ℕ, zero, suc, ◌+◌, ◌/◌, ◌%◌, eqb, Bool, true, false, cond, List, [], ◌∷◌, inl, inr, refl, sym, subst, arith, length}
use Rattle.q_logic.specs.declared.limits.Limits.{Limits}
use Rattle.q_logic.specs.Prelude.{PrenexFormula, IsIn, SameFormula, ValidSteps, Run, standard}
use Rattle.q_logic.specs.Steps.{ProofStep, Valid, Cause, after}
use Rattle.q_same_steps.specs.Making.{Applies, Unfit, made}
use Rattle.q_same_steps.proofs.MadeSteps.{valid-applies}
use Rattle.q_shares.specs.Shares.{Share, judged, AreMade, ShareRun, count, counts, shares_of, AreDealt, AllSay, first_dealt, Refuses, IsFirstWrong}

-- a share that a number is in
pub finds : (js : List Share) (k : ℕ) → 1 ≤ shares_of js k → (j : Share) × IsIn j js × (j k ≡ true)
finds [] k h = absurd (omega arith)
finds (j ∷ js) k h = go (j k) refl h (finds js k)
  where
    go : (t : Bool) → j k ≡ t → 1 ≤ cond t (shares_of js k + 1) (shares_of js k) → (1 ≤ shares_of js k → (i : Share) × IsIn i js × (i k ≡ true)) →
        (i : Share) × IsIn i (j ∷ js) × (i k ≡ true)
    go true e h ih = (j, inl refl, e)
    go false e h ih = let r = ih h in (r.0, inr r.1, r.2)

shared-valid : (js : List Share) (m : Limits) (k : ℕ) (F : PrenexFormula) (ss : List ProofStep) → AreDealt js →
    ((j : Share) → IsIn j js → AreMade j m k F ss) → ValidSteps m F ss (made F ss)
shared-valid js m k F [] d h = refl
shared-valid js m k F (s ∷ ss) d h =
    let o : 1 ≤ shares_of js k = (let e : shares_of js k ≡ 1 = d k in omega arith) in
    let j = finds js k o in
    let v : judged (j.0 k) (Valid m F s) (Applies m F s) = (h j.0 j.1).0 in (
      subst (λ (t : Bool). judged t (Valid m F s) (Applies m F s)) j.2 v,
      shared-valid js m (k + 1) (after F s) ss d (λ i n. (h i n).1),
    )

pub valid-made : (m : Limits) (F E : PrenexFormula) (ss : List ProofStep) → ValidSteps m F ss E → made F ss ≡ E
valid-made m F E [] e = e
valid-made m F E (s ∷ ss) (v, r) = valid-made m (after F s) E ss r

pub valid-shared : (j : Share) (m : Limits) (k : ℕ) (F E : PrenexFormula) (ss : List ProofStep) → ValidSteps m F ss E → AreMade j m k F ss
valid-shared j m k F E [] e = tt
valid-shared j m k F E (s ∷ ss) (v, r) = (go (j k), valid-shared j m (k + 1) (after F s) E ss r)
  where
    go : (t : Bool) → judged t (Valid m F s) (Applies m F s)
    go true = v
    go false = valid-applies m F s v

pub shares-run : (js : List Share) (F G : PrenexFormula) (ss : List ProofStep) → AreDealt js → AllSay js F ss G → Run F ss G
shares-run js F G ss d h =
    let o : 1 ≤ shares_of js 0 = (let e : shares_of js 0 ≡ 1 = d 0 in omega arith) in
    let j = finds js 0 o in
    record { last = made F ss; steps = shared-valid js standard 0 F ss d (λ i n. (h i n).steps); same = (h j.0 j.1).same }

pub run-share : (j : Share) (F G : PrenexFormula) (ss : List ProofStep) → Run F ss G → ShareRun j F ss G
run-share j F G ss r = record {
  steps = valid-shared j standard 0 F r.last ss r.steps;
  same = subst (λ (E : PrenexFormula). SameFormula E G) (sym (valid-made standard F r.last ss r.steps)) r.same;
}

-- the numbers that they say add up

counts-none : (js : List Share) (k : ℕ) → counts js k [] ≡ 0
counts-none [] k = refl
counts-none (j ∷ js) k = let i : counts js k [] ≡ 0 = counts-none js k in omega arith

counts-more : (js : List Share) (k : ℕ) (s : ProofStep) (ss : List ProofStep) → counts js k (s ∷ ss) ≡ shares_of js k + counts js (k + 1) ss
counts-more [] k s ss = refl
counts-more (j ∷ js) k s ss = go (j k) (counts-more js k s ss)
  where
    go : (t : Bool) → counts js k (s ∷ ss) ≡ shares_of js k + counts js (k + 1) ss →
        cond t (count j (k + 1) ss + 1) (count j (k + 1) ss) + counts js k (s ∷ ss)
        ≡ cond t (shares_of js k + 1) (shares_of js k) + (count j (k + 1) ss + counts js (k + 1) ss)
    go true i = omega arith
    go false i = omega arith

pub counts-sum : (js : List Share) (k : ℕ) (ss : List ProofStep) → AreDealt js → counts js k ss ≡ length ss
counts-sum js k [] d = counts-none js k
counts-sum js k (s ∷ ss) d =
    let e : counts js k (s ∷ ss) ≡ shares_of js k + counts js (k + 1) ss = counts-more js k s ss in
    let f : shares_of js k ≡ 1 = d k in
    let i : counts js (k + 1) ss ≡ length ss = counts-sum js (k + 1) ss d in
    omega arith

-- dealt in turn

dealt-once : (b n k i : ℕ) → (((k / b) % n < i → shares_of (first_dealt b n i) k ≡ 1) × (i ≤ (k / b) % n → shares_of (first_dealt b n i) k ≡ 0))
dealt-once b n k zero = ((λ h. absurd (omega arith)), (λ h. refl))
dealt-once b n k (suc i) = go (eqb ((k / b) % n) i) refl (dealt-once b n k i)
  where
    go : (t : Bool) → eqb ((k / b) % n) i ≡ t →
        (((k / b) % n < i → shares_of (first_dealt b n i) k ≡ 1) × (i ≤ (k / b) % n → shares_of (first_dealt b n i) k ≡ 0)) →
        (((k / b) % n < suc i → cond t (shares_of (first_dealt b n i) k + 1) (shares_of (first_dealt b n i) k) ≡ 1)
        × (suc i ≤ (k / b) % n → cond t (shares_of (first_dealt b n i) k + 1) (shares_of (first_dealt b n i) k) ≡ 0))
    go true e ih = (
      (λ h. let q : (k / b) % n ≡ i = grind arith in let z : shares_of (first_dealt b n i) k ≡ 0 = ih.1 (omega arith) in omega arith),
      (λ h. let q : (k / b) % n ≡ i = grind arith in absurd (omega arith)),
    )
    go false e ih = (
      (λ h. let q : ¬ ((k / b) % n ≡ i) = (λ p. clash p) in ih.0 (omega arith)),
      (λ h. ih.1 (omega arith)),
    )
      where
        clash : (k / b) % n ≡ i → ⊥
        clash p = grind arith

pub all-dealt : (b n : ℕ) → 0 < n → AreDealt (first_dealt b n n)
all-dealt b n h k = (dealt-once b n k n).0 (mod-lt (k / b) h)

pub first-wrong : (js : List Share) (m : Limits) (F : PrenexFormula) (ss : List ProofStep) (s : ProofStep) (n : ℕ) → AreDealt js →
    ((i : Share) → IsIn i js → AreMade i m 0 F ss) → (j : Share) → IsIn j js → j (length ss) ≡ true → Refuses j m F ss s n → IsFirstWrong m F ss s n
first-wrong js m F ss s n d a j i t r =
    (shared-valid js m 0 F ss d a, subst (λ (b : Bool). judged b (Cause m (made F ss) s n) (Unfit m (made F ss) s n)) t r.cause)

pub wrong-refused : (js : List Share) (m : Limits) (F : PrenexFormula) (ss : List ProofStep) (s : ProofStep) (n : ℕ) → AreDealt js →
    IsFirstWrong m F ss s n → (j : Share) × IsIn j js × (j (length ss) ≡ true) × Refuses j m F ss s n
wrong-refused js m F ss s n d w =
    let o : 1 ≤ shares_of js (length ss) = (let e : shares_of js (length ss) ≡ 1 = d (length ss) in omega arith) in
    let j = finds js (length ss) o in (
      j.0,
      j.1,
      j.2,
      record {
        steps = valid-shared j.0 m 0 F (made F ss) ss w.0;
        cause = subst (λ (b : Bool). judged b (Cause m (made F ss) s n) (Unfit m (made F ss) s n)) (sym j.2) w.1;
      },
    )
