-- Steps with proof parts that are judged in shares.
use Rattle.std.proofs.Common.{◌≡◌, ◌≤◌, ℕ, ◌+◌, Bool, true, false, List, [], ◌∷◌, refl, sym, subst, arith}
use Rattle.q_logic.specs.declared.limits.Limits.{Limits}
use Rattle.q_logic.specs.Prelude.{PrenexFormula, IsIn, SameFormula, standard}
use Rattle.q_logic.specs.Steps.{ProofStep, add, delete, drop_literal, fresh, remove_variable}
use Rattle.q_logic.specs.Hinted.{NumberedFormula, ProofPart, Hinted, HintedValid, HintedSteps, HintedRun, hinted_after, begun, plain}
use Rattle.q_shares.specs.Shares.{Share, judged, shares_of, AreDealt}
use Rattle.q_same_steps.specs.HintedMaking.{HintedApplies, hinted_made}
use Rattle.q_shares.specs.HintedShares.{AreHintedMade, HintedShareRun, AllSayHinted}
use Rattle.q_shares.proofs.SharedRuns.{finds}

pub hinted_valid-applies : (m : Limits) (F : NumberedFormula) (s : ProofStep) (t : ProofPart) → HintedValid m F s t → HintedApplies m F s t
hinted_valid-applies m F (add p C) t v = (v.0, v.2)
hinted_valid-applies m F (delete p C) t v = (v.0, v.1)
hinted_valid-applies m F (drop_literal l C) t v = (v.0, v.1)
hinted_valid-applies m F (fresh v w) t h = h
hinted_valid-applies m F (remove_variable v) t h = h

shared-hinted : (js : List Share) (m : Limits) (k : ℕ) (F : NumberedFormula) (hs : List Hinted) → AreDealt js →
    ((j : Share) → IsIn j js → AreHintedMade j m k F hs) → HintedSteps m F hs (hinted_made F hs)
shared-hinted js m k F [] d a = refl
shared-hinted js m k F (h ∷ hs) d a =
    let o : 1 ≤ shares_of js k = (let e : shares_of js k ≡ 1 = d k in omega arith) in
    let j = finds js k o in
    let v : judged (j.0 k) (HintedValid m F h.step h.proof) (HintedApplies m F h.step h.proof) = (a j.0 j.1).0 in (
      subst (λ (t : Bool). judged t (HintedValid m F h.step h.proof) (HintedApplies m F h.step h.proof)) j.2 v,
      shared-hinted js m (k + 1) (hinted_after F h.step h.proof) hs d (λ i n. (a i n).1),
    )

pub hinted-made : (m : Limits) (F E : NumberedFormula) (hs : List Hinted) → HintedSteps m F hs E → hinted_made F hs ≡ E
hinted-made m F E [] e = e
hinted-made m F E (h ∷ hs) (v, r) = hinted-made m (hinted_after F h.step h.proof) E hs r

pub hinted-shared : (j : Share) (m : Limits) (k : ℕ) (F E : NumberedFormula) (hs : List Hinted) → HintedSteps m F hs E → AreHintedMade j m k F hs
hinted-shared j m k F E [] e = tt
hinted-shared j m k F E (h ∷ hs) (v, r) = (go (j k), hinted-shared j m (k + 1) (hinted_after F h.step h.proof) E hs r)
  where
    go : (t : Bool) → judged t (HintedValid m F h.step h.proof) (HintedApplies m F h.step h.proof)
    go true = v
    go false = hinted_valid-applies m F h.step h.proof v

pub hinted-shares-run : (js : List Share) (F G : PrenexFormula) (hs : List Hinted) → AreDealt js → AllSayHinted js F hs G → HintedRun F hs G
hinted-shares-run js F G hs d a =
    let o : 1 ≤ shares_of js 0 = (let e : shares_of js 0 ≡ 1 = d 0 in omega arith) in
    let j = finds js 0 o in
    record { last = hinted_made (begun F) hs; steps = shared-hinted js standard 0 (begun F) hs d (λ i n. (a i n).steps); same = (a j.0 j.1).same }

pub hinted-run-share : (j : Share) (F G : PrenexFormula) (hs : List Hinted) → HintedRun F hs G → HintedShareRun j F hs G
hinted-run-share j F G hs r = record {
  steps = hinted-shared j standard 0 (begun F) r.last hs r.steps;
  same = subst (λ (E : NumberedFormula). SameFormula (plain E) G) (sym (hinted-made standard (begun F) r.last hs r.steps)) r.same;
}
