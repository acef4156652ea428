-- Of the parts that refuse a log, one says what `check` says, and none says an earlier line.
use Rattle.std.proofs.Common.{◌≡◌, ◌⊎◌, ◌≤◌, ◌+◌, inl, inr, sym, subst, arith, ℕ, Bool, true, false, List, [], ◌∷◌, Option, Some, None}
use Rattle.q_logic.specs.declared.limits.Limits.{Limits}
use Rattle.q_logic.specs.Prelude.{PrenexFormula, NumberedFormula, HintedValid, HintedCause, IsIn, ProofStep, ProofPart, Valid, Cause, after, hinted_after, begun, plain, standard}
use Rattle.q_same_steps.specs.Making.{Applies, Unfit}
use Rattle.q_same_steps.specs.HintedMaking.{HintedApplies, HintedUnfit}
use Rattle.q_same_steps.proofs.MadeSteps.{valid-applies}
use Rattle.q_shares.specs.Shares.{Share, AreDealt, judged}
use Rattle.q_shares.proofs.SharedRuns.{finds, valid-made, valid-shared}
use Rattle.q_shares.proofs.HintedSharedRuns.{hinted_valid-applies, hinted-made, hinted-shared}
use Rattle.q_log.specs.declared.error.LogError.{LogError}
use Rattle.q_log.specs.declared.error.LogError.TheVariants.{BadLine, Limit, NoMemory}
use Rattle.q_log.specs.Logs as logs
use Rattle.q_hinted.specs.Logs.{hinted_in, read_entries}
use Rattle.q_command.specs.Logs.{Entry, HintedEntry, steps_of, hinted_of, IsOffence, IsFirstBad, IsFirstBadHinted, IsRefusedAt}
use Rattle.q_command.specs.Checks.{Checks, IsPlainWay, IsHintedWay}
use Rattle.q_command.specs.Parts.{ChecksShared, IsFirstBadShared, IsFirstBadHintedShared, IsPlainShareWay, IsHintedShareWay, IsRefusedShared}
use Rattle.q_command.specs.declared.outcome.Outcome.TheVariants.{RefusedLine, RefusedEnd}
use Rattle.q_command.proofs.CheckStatus.{carried}
use Rattle.q_command.proofs.PartStatus.{right-or-wrong}
use Rattle.q_command.proofs.SharedHints.{hinted-right-or-wrong}
use Rattle.q_parts.proofs.RisingLines.{at-most, itself, IsFrom, Rises, log-rises}
use Rattle.q_parts.proofs.RisingEntries.{RiseHinted, hinted-log-rises}

-- a part makes what is valid
makes : (b : Bool) (m : Limits) (F : PrenexFormula) (s : ProofStep) → Valid m F s → judged b (Valid m F s) (Applies m F s)
makes true m F s v = v
makes false m F s v = valid-applies m F s v

makes-hinted : (b : Bool) (m : Limits) (F : NumberedFormula) (s : ProofStep) (t : ProofPart) → HintedValid m F s t → judged b (HintedValid m F s t) (HintedApplies m F s t)
makes-hinted true m F s t v = v
makes-hinted false m F s t v = hinted_valid-applies m F s t v

owner : (js : List Share) (k : ℕ) → AreDealt js → (j : Share) × IsIn j js × (j k ≡ true)
owner js k d = finds js k (subst (λ (n : ℕ). 1 ≤ n) (sym (d k)) (itself 1))

-- who judges the first wrong step says so
bad-told : (js : List Share) → AreDealt js → (k : ℕ) (F : PrenexFormula) (es : List Entry) (r : Option LogError) (n c : ℕ) → IsFirstBad F es r n c → (j : Share) × IsIn j js × IsFirstBadShared j k F es r n c
bad-told js d k F [] r n c h = let j = owner js k d in (j.0, j.1, h)
bad-told js d k F (e ∷ es) r n c (inl (l, x)) =
    let j = owner js k d in
    (j.0, j.1, inl (l, subst (λ (b : Bool). judged b (Cause standard F e.1 c) (Unfit standard F e.1 c)) (sym j.2) x))
bad-told js d k F (e ∷ es) r n c (inr (v, x)) =
    let j = bad-told js d (k + 1) (after F e.1) es r n c x in
    (j.0, j.1, inr (makes (j.0 k) standard F e.1 v, j.2))

bad-told-hinted : (js : List Share) → AreDealt js → (k : ℕ) (N : NumberedFormula) (hs : List HintedEntry) (r : Option LogError) (n c : ℕ) → IsFirstBadHinted N hs r n c → (j : Share) × IsIn j js × IsFirstBadHintedShared j k N hs r n c
bad-told-hinted js d k N [] r n c h = let j = owner js k d in (j.0, j.1, h)
bad-told-hinted js d k N (h ∷ hs) r n c (inl (l, x)) =
    let j = owner js k d in
    (j.0, j.1, inl (l, subst (λ (b : Bool). judged b (HintedCause standard N h.1.step h.1.proof c) (HintedUnfit standard N h.1.step h.1.proof c)) (sym j.2) x))
bad-told-hinted js d k N (h ∷ hs) r n c (inr (v, x)) =
    let j = bad-told-hinted js d (k + 1) (hinted_after N h.1.step h.1.proof) hs r n c x in
    (j.0, j.1, inr (makes-hinted (j.0 k) standard N h.1.step h.1.proof v, j.2))

refused-told : (js : List Share) → AreDealt js → (F : PrenexFormula) (log : List ℕ) (n c : ℕ) → IsRefusedAt F log n c → (j : Share) × IsIn j js × IsRefusedShared j F log n c
refused-told js d F log n c (inl (p, x)) =
    let j = bad-told js d 0 F (logs.read standard.bytes log).steps (logs.read standard.bytes log).refused n c x in
    (j.0, j.1, inl (p, j.2))
refused-told js d F log n c (inr (p, x)) =
    let j = bad-told-hinted js d 0 (begun F) (hinted_in (read_entries standard.bytes log).entries) (read_entries standard.bytes log).refused n c x in
    (j.0, j.1, inr (p, j.2))

pub line-told : (js : List Share) (n c : ℕ) (i o l : List ℕ) → AreDealt js → Checks (RefusedLine n c) i o l → (j : Share) × IsIn j js × ChecksShared j (RefusedLine n c) i o l
line-told js n c i o l d h =
    let j = refused-told js d h.from l n c h.holds in
    (j.0, j.1, record { from = h.from; to = h.to; is_input = h.is_input; is_output = h.is_output; holds = j.2 })

-- an offence has one line
one-line : (r : Option LogError) (n c m d : ℕ) → IsOffence r n c → IsOffence r m d → n ≤ m
one-line None n c m d a b = absurd a
one-line (Some (BadLine k)) n c m d a b = subst (λ (x : ℕ). n ≤ x) (sym b.0) (subst (λ (x : ℕ). x ≤ k) (sym a.0) (itself k))
one-line (Some (Limit k)) n c m d a b = subst (λ (x : ℕ). n ≤ x) (sym b.0) (subst (λ (x : ℕ). x ≤ k) (sym a.0) (itself k))
one-line (Some NoMemory) n c m d a b = absurd a

offence-from : (a : ℕ) (r : Option LogError) (n c : ℕ) → IsFrom a r → IsOffence r n c → a ≤ n
offence-from a None n c f o = absurd o
offence-from a (Some (BadLine k)) n c f o = subst (λ (x : ℕ). a ≤ x) (sym o.0) f
offence-from a (Some (Limit k)) n c f o = subst (λ (x : ℕ). a ≤ x) (sym o.0) f
offence-from a (Some NoMemory) n c f o = absurd o

-- what is said of later steps has a later line
bad-from : (j : Share) (a k : ℕ) (F : PrenexFormula) (es : List Entry) (r : Option LogError) (n c : ℕ) → Rises a es r → IsFirstBadShared j k F es r n c → a ≤ n
bad-from j a k F [] r n c f h = offence-from a r n c f h
bad-from j a k F (e ∷ es) r n c f (inl (l, x)) = subst (λ (y : ℕ). a ≤ y) (sym l) f.0
bad-from j a k F (e ∷ es) r n c f (inr (v, x)) = at-most a e.0 n f.0 (bad-from j e.0 (k + 1) (after F e.1) es r n c f.1 x)

bad-from-hinted : (j : Share) (a k : ℕ) (N : NumberedFormula) (hs : List HintedEntry) (r : Option LogError) (n c : ℕ) → RiseHinted a hs r → IsFirstBadHintedShared j k N hs r n c → a ≤ n
bad-from-hinted j a k N [] r n c f h = offence-from a r n c f h
bad-from-hinted j a k N (e ∷ hs) r n c f (inl (l, x)) = subst (λ (y : ℕ). a ≤ y) (sym l) f.0
bad-from-hinted j a k N (e ∷ hs) r n c f (inr (v, x)) = at-most a e.0 n f.0 (bad-from-hinted j e.0 (k + 1) (hinted_after N e.1.step e.1.proof) hs r n c f.1 x)

-- no part says an earlier line than `check`
none-before : (j : Share) (a k : ℕ) (F : PrenexFormula) (es : List Entry) (r : Option LogError) (n c m d : ℕ) → Rises a es r → IsFirstBad F es r n c → IsFirstBadShared j k F es r m d → n ≤ m
none-before j a k F [] r n c m d f h g = one-line r n c m d h g
none-before j a k F (e ∷ es) r n c m d f (inl (l, x)) (inl (q, y)) = subst (λ (z : ℕ). n ≤ z) (sym q) (subst (λ (z : ℕ). z ≤ e.0) (sym l) (itself e.0))
none-before j a k F (e ∷ es) r n c m d f (inl (l, x)) (inr (w, y)) = subst (λ (z : ℕ). z ≤ m) (sym l) (bad-from j e.0 (k + 1) (after F e.1) es r m d f.1 y)
none-before j a k F (e ∷ es) r n c m d f (inr (v, x)) (inl (q, y)) = absurd (right-or-wrong (j k) standard F e.1 d (makes (j k) standard F e.1 v) y)
none-before j a k F (e ∷ es) r n c m d f (inr (v, x)) (inr (w, y)) = none-before j e.0 (k + 1) (after F e.1) es r n c m d f.1 x y

none-before-hinted : (j : Share) (a k : ℕ) (N : NumberedFormula) (hs : List HintedEntry) (r : Option LogError) (n c m d : ℕ) → RiseHinted a hs r → IsFirstBadHinted N hs r n c → IsFirstBadHintedShared j k N hs r m d → n ≤ m
none-before-hinted j a k N [] r n c m d f h g = one-line r n c m d h g
none-before-hinted j a k N (e ∷ hs) r n c m d f (inl (l, x)) (inl (q, y)) = subst (λ (z : ℕ). n ≤ z) (sym q) (subst (λ (z : ℕ). z ≤ e.0) (sym l) (itself e.0))
none-before-hinted j a k N (e ∷ hs) r n c m d f (inl (l, x)) (inr (w, y)) = subst (λ (z : ℕ). z ≤ m) (sym l) (bad-from-hinted j e.0 (k + 1) (hinted_after N e.1.step e.1.proof) hs r m d f.1 y)
none-before-hinted j a k N (e ∷ hs) r n c m d f (inr (v, x)) (inl (q, y)) =
    absurd (hinted-right-or-wrong (j k) standard N e.1.step e.1.proof d (makes-hinted (j k) standard N e.1.step e.1.proof v) y)
none-before-hinted j a k N (e ∷ hs) r n c m d f (inr (v, x)) (inr (w, y)) = none-before-hinted j e.0 (k + 1) (hinted_after N e.1.step e.1.proof) hs r n c m d f.1 x y

refused-before : (j : Share) (F : PrenexFormula) (log : List ℕ) (n c m d : ℕ) → IsRefusedAt F log n c → IsRefusedShared j F log m d → n ≤ m
refused-before j F log n c m d (inl (p, x)) (inl (q, y)) =
    none-before j 1 0 F (logs.read standard.bytes log).steps (logs.read standard.bytes log).refused n c m d (log-rises standard.bytes log) x y
refused-before j F log n c m d (inl (p, x)) (inr (q, y)) = absurd (omega (arith, p, q))
refused-before j F log n c m d (inr (p, x)) (inl (q, y)) = absurd (omega (arith, p, q))
refused-before j F log n c m d (inr (p, x)) (inr (q, y)) =
    none-before-hinted j 1 0 (begun F) (hinted_in (read_entries standard.bytes log).entries) (read_entries standard.bytes log).refused n c m d (hinted-log-rises standard.bytes log) x y

pub line-least : (j : Share) (n c m d : ℕ) (i o l : List ℕ) → Checks (RefusedLine n c) i o l → ChecksShared j (RefusedLine m d) i o l → n ≤ m
line-least j n c m d i o l h g = refused-before j h.from l n c m d h.holds (carried i o (λ F G. IsRefusedAt F l n c) (λ F G. IsRefusedShared j F l m d) h g)

-- where `check` refuses the end, so does each part
ways : (j : Share) (log : List ℕ) (F last : PrenexFormula) → IsPlainWay log F last ⊎ IsHintedWay log F last → IsPlainShareWay j log F last ⊎ IsHintedShareWay j log F last
ways j log F last (inl w) = inl (record {
  entries = w.entries;
  is_log = w.is_log;
  steps = valid-shared j standard 0 F last (steps_of w.entries) w.steps;
  last_is = sym (valid-made standard F last (steps_of w.entries) w.steps);
})
ways j log F last (inr w) = inr (record {
  hinted = w.hinted;
  is_log = w.is_log;
  steps = hinted-shared j standard 0 (begun F) w.numbered (hinted_of w.hinted) w.steps;
  last_is = subst (λ (N : NumberedFormula). last ≡ plain N) (sym (hinted-made standard (begun F) w.numbered (hinted_of w.hinted) w.steps)) w.last_is;
})

pub end-told : (j : Share) (c : ℕ) (i o l : List ℕ) → Checks (RefusedEnd c) i o l → ChecksShared j (RefusedEnd c) i o l
end-told j c i o l h = record {
  from = h.from;
  to = h.to;
  is_input = h.is_input;
  is_output = h.is_output;
  holds = record { last = h.holds.last; way = ways j l h.from h.holds.last h.holds.way; apart = h.holds.apart };
}
