-- The share that is the whole log: what is said of it is what is said of the log.
use Rattle.std.proofs.Common.{◌≡◌, ◌⊎◌, ◌+◌, ◌∙◌, inl, inr, refl, sym, subst, ℕ, Bool, true, List, [], ◌∷◌, Option, Some, None, IfSome}
use Rattle.q_logic.specs.Prelude.{PrenexFormula, NumberedFormula, hinted_after, begun, standard, Valid, Cause, ValidSteps, SameFormula, after, Run, UndoEntry}
use Rattle.q_same_steps.specs.Making.{Applies, Unfit, made}
use Rattle.q_same_steps.specs.HintedMaking.{hinted_made}
use Rattle.q_shares.specs.Shares.{Share, ShareRun, judged}
use Rattle.q_log.specs.declared.error.LogError.{LogError}
use Rattle.q_log.specs.Logs as logs
use Rattle.q_hinted.specs.Logs.{hinted_in, read_entries}
use Rattle.q_command.specs.Logs.{Entry, HintedEntry, steps_of, hinted_of, IsFirstBad, IsFirstBadHinted, IsRefusedAt}
use Rattle.q_command.specs.Checks.{Checks, EndsElsewhere, IsHintedWay, IsPlainWay, IsRunLog, LogPasses, LogSays}
use Rattle.q_command.specs.Parts.{ChecksShared, EndsElsewhereShared, IsFirstBadShared, IsFirstBadHintedShared, IsPlainShareWay, IsHintedShareWay, IsRefusedShared, IsShareLog, IsWhole, LogPassesShared, LogSaysShared}
use Rattle.q_command.specs.Audits.{LogIsShared, LogIsTaken}
use Rattle.q_command.specs.declared.audit.Keep.{Keep}
use Rattle.q_command.specs.declared.audit.Passed.{Passed}
use Rattle.q_command.specs.declared.outcome.Role.TheVariants.{In, Out}
use Rattle.q_command.specs.declared.outcome.Outcome.{Outcome}
use Rattle.q_command.specs.declared.outcome.Outcome.TheVariants.{Verified, RefusedLine, RefusedEnd, RefusedInput, ReadFault, NoMemory}
use Rattle.q_command.proofs.LogEntries.{steps_of-length}
use Rattle.q_command.proofs.SharedSteps.{whole-valid, whole-count}
use Rattle.q_command.proofs.SharedHints.{Fits, Fails, whole-hinted, whole-hinted-run}

module _ (j : Share) (w : IsWhole j) where
  whole-run : (F G : PrenexFormula) (es : List Entry) → ShareRun j F (steps_of es) G → Run F (steps_of es) G
  whole-run F G es r = record { last = made F (steps_of es); steps = whole-valid j standard 0 F (steps_of es) w r.steps; same = r.same }

  whole-log : (log : List ℕ) (F G : PrenexFormula) (es : List Entry) → IsShareLog j log F G es → IsRunLog log F G es
  whole-log log F G es (inl a) = inl (record { is_log = a.is_log; run = whole-run F G es a.run })
  whole-log log F G es (inr a) = inr (record { hinted = a.hinted; is_log = a.is_log; run = whole-hinted-run j F G (hinted_of a.hinted) w a.run; entries_are = a.entries_are })

  whole-passes : (keep : Bool) (log : List ℕ) (F G : PrenexFormula) (n : ℕ) (us : List UndoEntry) → LogPassesShared j keep log F G n us → LogPasses keep log F G n us
  whole-passes keep log F G n us p = record {
    entries = p.entries;
    leads = whole-log log F G p.entries p.leads;
    count = p.counted ∙ (whole-count j 0 (steps_of p.entries) w ∙ steps_of-length p.entries);
    undone = λ k. p.undone k w;
  }

  pub whole-taken : (keep : Keep) (log : List ℕ) (F G : PrenexFormula) (p : Passed) → LogIsShared j keep log F G p → LogIsTaken keep log F G p
  unfolding whole-passes
  whole-taken keep log F G p t = record { origin = t.origin; passes = whole-passes keep.undo log F G p.steps p.undo t.passes; taken = t.taken }

  whole-bad : (k : ℕ) (F : PrenexFormula) (es : List Entry) (r : Option LogError) (n c : ℕ) → IsFirstBadShared j k F es r n c → IsFirstBad F es r n c
  whole-bad k F [] r n c h = h
  whole-bad k F (e ∷ es) r n c (inl (l, x)) = inl (l, subst (λ (b : Bool). judged b (Cause standard F e.1 c) (Unfit standard F e.1 c)) (w k) x)
  whole-bad k F (e ∷ es) r n c (inr (v, x)) =
      inr (subst (λ (b : Bool). judged b (Valid standard F e.1) (Applies standard F e.1)) (w k) v, whole-bad (k + 1) (after F e.1) es r n c x)

  whole-bad-hinted : (k : ℕ) (N : NumberedFormula) (hs : List HintedEntry) (r : Option LogError) (n c : ℕ) → IsFirstBadHintedShared j k N hs r n c → IsFirstBadHinted N hs r n c
  whole-bad-hinted k N [] r n c h = h
  whole-bad-hinted k N (e ∷ hs) r n c (inl (l, x)) = inl (l, subst (λ (b : Bool). Fails b standard N e.1.step e.1.proof c) (w k) x)
  whole-bad-hinted k N (e ∷ hs) r n c (inr (v, x)) =
      inr (subst (λ (b : Bool). Fits b standard N e.1.step e.1.proof) (w k) v, whole-bad-hinted (k + 1) (hinted_after N e.1.step e.1.proof) hs r n c x)

  whole-refused : (F : PrenexFormula) (log : List ℕ) (n c : ℕ) → IsRefusedShared j F log n c → IsRefusedAt F log n c
  whole-refused F log n c (inl (p, x)) = inl (p, whole-bad 0 F (logs.read standard.bytes log).steps (logs.read standard.bytes log).refused n c x)
  whole-refused F log n c (inr (p, x)) = inr (p, whole-bad-hinted 0 (begun F) (hinted_in (read_entries standard.bytes log).entries) (read_entries standard.bytes log).refused n c x)

  whole-ends : (log : List ℕ) (F G : PrenexFormula) (c : ℕ) → EndsElsewhereShared j log F G c → EndsElsewhere log F G c
  whole-ends log F G c e = record { last = e.last; way = go e.way; apart = e.apart }
    where
      go : IsPlainShareWay j log F e.last ⊎ IsHintedShareWay j log F e.last → IsPlainWay log F e.last ⊎ IsHintedWay log F e.last
      go (inl a) = inl (record {
        entries = a.entries;
        is_log = a.is_log;
        steps = subst (λ (L : PrenexFormula). ValidSteps standard F (steps_of a.entries) L) (sym a.last_is) (whole-valid j standard 0 F (steps_of a.entries) w a.steps);
      })
      go (inr a) = inr (record {
        hinted = a.hinted;
        is_log = a.is_log;
        numbered = hinted_made (begun F) (hinted_of a.hinted);
        steps = whole-hinted j standard 0 (begun F) (hinted_of a.hinted) w a.steps;
        last_is = a.last_is;
      })

  pub whole-says : (o : Outcome) (F G : PrenexFormula) (log : List ℕ) → LogSaysShared j o F G log → LogSays o F G log
  whole-says (Verified n) F G log (es, l, c) = (es, whole-log log F G es l, c ∙ (whole-count j 0 (steps_of es) w ∙ steps_of-length es))
  whole-says (RefusedLine n c) F G log h = whole-refused F log n c h
  whole-says (RefusedEnd c) F G log h = whole-ends log F G c h
  whole-says (RefusedInput r n c) F G log h = h
  whole-says ReadFault F G log h = tt
  whole-says NoMemory F G log h = tt

  pub whole-checks : (o : Outcome) (i u l : List ℕ) → ChecksShared j o i u l → Checks o i u l
  whole-checks (Verified n) i u l h = record { from = h.from; to = h.to; is_input = h.is_input; is_output = h.is_output; holds = whole-says (Verified n) h.from h.to l h.holds }
  whole-checks (RefusedLine n c) i u l h = record { from = h.from; to = h.to; is_input = h.is_input; is_output = h.is_output; holds = whole-says (RefusedLine n c) h.from h.to l h.holds }
  whole-checks (RefusedEnd c) i u l h = record { from = h.from; to = h.to; is_input = h.is_input; is_output = h.is_output; holds = whole-says (RefusedEnd c) h.from h.to l h.holds }
  whole-checks (RefusedInput In n c) i u l h = h
  whole-checks (RefusedInput Out n c) i u l h = h
  whole-checks ReadFault i u l h = tt
  whole-checks NoMemory i u l h = tt
