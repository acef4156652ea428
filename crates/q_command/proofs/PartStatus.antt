-- When each status of a part of `check` comes.
use Rattle.std.proofs.Common.{◌≡◌, ◌⊎◌, inl, inr, ◌∙◌, sym, ap, subst, arith, ℕ, ◌+◌, Bool, true, false, List, [], ◌∷◌, Some, None}
use Rattle.std.proofs.lemmas.Option.{same_Some}
use Rattle.q_logic.specs.declared.limits.Limits.{Limits}
use Rattle.q_logic.specs.Prelude.{PrenexFormula, standard, ProofStep, Valid, Cause, after, SameFormula, begun, plain, hinted_after, NumberedFormula}
use Rattle.q_logic.specs.Steps.{add, delete, drop_literal, fresh, remove_variable}
use Rattle.q_logic.proofs.Validity.{Valid-no_cause}
use Rattle.q_same_steps.specs.Making.{Applies, IsUnfit, Unfit, made}
use Rattle.q_same_steps.specs.HintedMaking.{hinted_made}
use Rattle.q_shares.specs.Shares.{Share, AreMade, judged}
use Rattle.q_shares.specs.HintedShares.{AreHintedMade}
use Rattle.q_io.specs.Files.{bytes_at}
use Rattle.q_log.specs.Logs as logs
use Rattle.q_hinted.specs.Logs.{read_entries}
use Rattle.q_hinted.proofs.Profiles.{no-steps}
use Rattle.q_command.specs.Logs.{Entry, HintedEntry, steps_of, hinted_of}
use Rattle.q_command.specs.Names.{ThreeNames}
use Rattle.q_command.specs.Parts.{ChecksShared, EndsElsewhereShared, IsFirstBadShared, IsFirstBadHintedShared, IsPlainShareWay, IsHintedShareWay, IsRefusedShared, IsShareLog, LeadsShared, share_of, told}
use Rattle.q_command.specs.declared.part.Part.{Part}
use Rattle.q_command.specs.declared.outcome.Role.TheVariants.{In, Out}
use Rattle.q_command.specs.declared.outcome.Outcome.{Outcome}
use Rattle.q_command.specs.declared.outcome.Outcome.TheVariants.{Verified, RefusedLine, RefusedEnd, RefusedInput, ReadFault, NoMemory}
use Rattle.q_command.specs.declared.status.Status.TheVariants as status
use Rattle.q_command.proofs.CheckStatus.{Settles, all_or_none-some, answers-by, no_offence}
use Rattle.q_command.proofs.OutcomeStatus.{check-usage}
use Rattle.q_command.proofs.SharedHints.{hinted-right-or-wrong}
use Rattle.q_command.proofs.ToldLaws.{ToldLaws, exact}
use Rattle.q_command.proofs.WholeLogs.{second, not-both-profiles}

-- a step that can be made has no cause
fit-no_unfit : (m : Limits) (F : PrenexFormula) (s : ProofStep) (n : ℕ) → Applies m F s → IsUnfit m F s n → ⊥
fit-no_unfit m F (add p C) n h (inl w) = w.1 h.0
fit-no_unfit m F (add p C) n h (inr w) = w.1 h.1
fit-no_unfit m F (delete p C) n h (inl w) = w.1 h.0
fit-no_unfit m F (delete p C) n h (inr w) = w.1 h.1
fit-no_unfit m F (drop_literal l C) n h (inl w) = w.1 h.0
fit-no_unfit m F (drop_literal l C) n h (inr w) = w.1 h.1
fit-no_unfit m F (fresh v x) n h w = w.1 h
fit-no_unfit m F (remove_variable v) n h (inl w) = let e = h.0 in let f = w.1 in cc
fit-no_unfit m F (remove_variable v) n h (inr w) = w.1 h.1

pub right-or-wrong : (b : Bool) (m : Limits) (F : PrenexFormula) (s : ProofStep) (n : ℕ) → judged b (Valid m F s) (Applies m F s) → judged b (Cause m F s n) (Unfit m F s n) → ⊥
right-or-wrong true m F s n v w = Valid-no_cause m F s n v w
right-or-wrong false m F s n v w = fit-no_unfit m F s n v w.applies

not_both_shared : (j : Share) (k : ℕ) (F : PrenexFormula) (es : List Entry) (n c : ℕ) → IsFirstBadShared j k F es None n c → AreMade j standard k F (steps_of es) → ⊥
not_both_shared j k F [] n c b v = b
not_both_shared j k F (e ∷ es) n c (inl (line, cause)) v = right-or-wrong (j k) standard F e.1 c v.0 cause
not_both_shared j k F (e ∷ es) n c (inr (valid, later)) v = not_both_shared j (k + 1) (after F e.1) es n c later v.1

not_both_hinted : (j : Share) (k : ℕ) (N : NumberedFormula) (hs : List HintedEntry) (n c : ℕ) → IsFirstBadHintedShared j k N hs None n c → AreHintedMade j standard k N (hinted_of hs) → ⊥
not_both_hinted j k N [] n c b v = b
not_both_hinted j k N (h ∷ hs) n c (inl (line, cause)) v = hinted-right-or-wrong (j k) standard N h.1.step h.1.proof c v.0 cause
not_both_hinted j k N (h ∷ hs) n c (inr (fits, later)) v = not_both_hinted j (k + 1) (hinted_after N h.1.step h.1.proof) hs n c later v.1

line_no_share : (j : Share) (log : List ℕ) (F G : PrenexFormula) (n c : ℕ) → IsRefusedShared j F log n c → LeadsShared j log F G → ⊥
line_no_share j log F G n c (inl (one, b)) (es, inl r) =
    let p = all_or_none-some (logs.read standard.bytes log).refused (logs.read standard.bytes log).steps es r.is_log in
    not_both_shared j 0 F es n c (subst (λ x. IsFirstBadShared j 0 F es x n c) p.0 (subst (λ x. IsFirstBadShared j 0 F x (logs.read standard.bytes log).refused n c) p.1 b)) r.run.steps
line_no_share j log F G n c (inl (one, b)) (es, inr r) = let two = (second log r.hinted r.is_log).profile in absurd (omega (arith, one, two))
line_no_share j log F G n c (inr (two, b)) (es, inl r) =
    let w : Some es ≡ None = sym r.is_log ∙ no-steps standard.bytes log two in
    cc
line_no_share j log F G n c (inr (two, b)) (es, inr r) =
    let p = second log r.hinted r.is_log in
    not_both_hinted j 0 (begun F) r.hinted n c (subst (λ x. IsFirstBadHintedShared j 0 (begun F) r.hinted x n c) p.refused (subst (λ x. IsFirstBadHintedShared j 0 (begun F) x (read_entries standard.bytes log).refused n c) p.hinted b)) r.run.steps

end_no_share : (j : Share) (log : List ℕ) (F G : PrenexFormula) (c : ℕ) → EndsElsewhereShared j log F G c → LeadsShared j log F G → ⊥
end_no_share j log F G c e (es, r) = go e.way r
  where
    go : IsPlainShareWay j log F e.last ⊎ IsHintedShareWay j log F e.last → IsShareLog j log F G es → ⊥
    go (inl w) (inl r) =
        let same : w.entries ≡ es = same_Some w.entries es (sym w.is_log ∙ r.is_log) in
        let last : made F (steps_of es) ≡ e.last = ap (λ (xs : List Entry). made F (steps_of xs)) (sym same) ∙ sym w.last_is in
        e.apart.differ (subst (λ (L : PrenexFormula). SameFormula L G) last r.run.same)
    go (inl w) (inr r) = not-both-profiles log w.entries r.hinted w.is_log r.is_log
    go (inr w) (inl r) = not-both-profiles log es w.hinted r.is_log w.is_log
    go (inr w) (inr r) =
        let same : w.hinted ≡ r.hinted = same_Some w.hinted r.hinted (sym w.is_log ∙ r.is_log) in
        let last : plain (hinted_made (begun F) (hinted_of r.hinted)) ≡ e.last = ap (λ (xs : List HintedEntry). plain (hinted_made (begun F) (hinted_of xs))) (sym same) ∙ sym w.last_is in
        e.apart.differ (subst (λ (L : PrenexFormula). SameFormula L G) last r.run.same)

settled : (j : Share) (due : Outcome) (i o l : List ℕ) → ChecksShared j due i o l → Settles (LeadsShared j l) due i o
settled j (Verified n) i o l h = record { from = h.from; to = h.to; is_input = h.is_input; is_output = h.is_output; holds = (h.holds.0, h.holds.1) }
settled j (RefusedLine n c) i o l h = record { from = h.from; to = h.to; is_input = h.is_input; is_output = h.is_output; holds = line_no_share j l h.from h.to n c h.holds }
settled j (RefusedEnd c) i o l h = record { from = h.from; to = h.to; is_input = h.is_input; is_output = h.is_output; holds = end_no_share j l h.from h.to c h.holds }
settled j (RefusedInput In n c) i o l h = inl (λ F f. no_offence i F n c h f)
settled j (RefusedInput Out n c) i o l h = inr (λ F f. no_offence o F n c h.2 f)
settled j ReadFault i o l h = tt
settled j NoMemory i o l h = tt

pub laws : (n : ThreeNames) (p : Part) → ToldLaws (told n p)
laws n p = record {
  gives = λ o given disk after old new h d.
      let i = bytes_at disk n.input in
      let u = bytes_at disk n.output in
      let l = bytes_at disk n.log in
      answers-by (LeadsShared (share_of p) l) given i u o (settled (share_of p) o i u l h) d;
  no_usage = check-usage;
  answers = λ given disk after m g. (exact given status.Done _ m g.verified, exact given status.LogRefused _ m g.log_refused);
}
