-- When each status comes.
use Rattle.std.proofs.Common.{◌≡◌, ◌⊎◌, ◌↔◌, inl, inr, ◌∙◌, refl, sym, ap, subst, arith, ℕ, List, [], ◌∷◌, Option, Some, None, Ok, Err, IfSome}
use Rattle.std.proofs.lemmas.Option.{same_Some}
use Rattle.q_logic.specs.Prelude.{PrenexFormula, standard, ProofStep, after, ValidSteps, SameFormula, Holds, Hinted, HintedSteps as AreValid, NumberedFormula, begun, plain, hinted_after}
use Rattle.q_logic.proofs.HintedCauses.{HintedValid-no_cause}
use Rattle.q_logic.proofs.Validity.{Valid-no_cause}
use Rattle.q_dimacs.specs.declared.error.ReadError.TheVariants as reading
use Rattle.q_dimacs.specs.Offences.{Offence, parse}
use Rattle.q_dimacs.proofs.GrammarIsRead.{grammar_is_read}
use Rattle.q_log.specs.declared.error.LogError.{LogError}
use Rattle.q_log.specs.Logs as logs
use Rattle.q_hinted.specs.Logs.{read_entries}
use Rattle.q_hinted.proofs.Profiles.{no-steps}
use Rattle.q_command.specs.Logs.{Entry, HintedEntry, steps_of, hinted_of, IsFirstBad, IsFirstBadHinted, IsRefusedAt}
use Rattle.q_command.proofs.WholeLogs.{second, not-both-profiles}
use Rattle.q_command.specs.Statuses.{status_of}
use Rattle.q_command.specs.declared.outcome.Role.TheVariants.{In, Out}
use Rattle.q_command.specs.declared.outcome.Outcome.{Outcome}
use Rattle.q_command.specs.declared.outcome.Outcome.TheVariants.{Verified, RefusedLine, RefusedEnd, RefusedInput, ReadFault, NoMemory}
use Rattle.q_command.specs.declared.status.Status.{Status}
use Rattle.q_command.specs.declared.status.Status.TheVariants as status
use Rattle.q_command.specs.Checks.{IsFileOf, IsNoFormula, OfFormulas, IsRunLog, LeadsTo, IsPlainWay, IsHintedWay, EndsElsewhere, Checks, IsVerified, IsNoRun, HaveOneTruth, IfVerified, IsUnverified, MayCome, AnswersBy, AnswersExactly}

-- a file has one formula, or an offence
pub one_formula : (bytes : List ℕ) (F G : PrenexFormula) → IsFileOf bytes F → IsFileOf bytes G → F ≡ G
one_formula bytes F G f g = let e : parse standard bytes ≡ Ok F = grammar_is_read standard bytes F f in let d : parse standard bytes ≡ Ok G = grammar_is_read standard bytes G g in cc

pub no_offence : (bytes : List ℕ) (F : PrenexFormula) (n c : ℕ) → Offence standard bytes n c → IsFileOf bytes F → ⊥
no_offence bytes F n c o f = let e : parse standard bytes ≡ Ok F = grammar_is_read standard bytes F f in let d : parse standard bytes ≡ Err (reading.Refused n c) = o in cc

-- what the files hold is determined
pub carried : (i o : List ℕ) (P Q : PrenexFormula → PrenexFormula → Type 0) (p : OfFormulas i o P) (q : OfFormulas i o Q) → Q p.from p.to
carried i o P Q p q =
    subst (λ (F : PrenexFormula). Q F p.to) (one_formula i q.from p.from q.is_input p.is_input) (subst (λ (G : PrenexFormula). Q q.from G) (one_formula o q.to p.to q.is_output p.is_output) q.holds)

-- a refused step or line is in no run
not_both : (F E : PrenexFormula) (es : List Entry) (n c : ℕ) → IsFirstBad F es None n c → ValidSteps standard F (steps_of es) E → ⊥
not_both F E [] n c b v = b
not_both F E (e ∷ es) n c (inl (line, cause)) v = Valid-no_cause standard F e.1 c v.0 cause
not_both F E (e ∷ es) n c (inr (valid, later)) v = not_both (after F e.1) E es n c later v.1

pub not_both_hinted : (N M : NumberedFormula) (hs : List HintedEntry) (n c : ℕ) → IsFirstBadHinted N hs None n c → AreValid standard N (hinted_of hs) M → ⊥
not_both_hinted N M [] n c b v = b
not_both_hinted N M (h ∷ hs) n c (inl (line, cause)) v = HintedValid-no_cause standard N h.1.step h.1.proof c v.0 cause
not_both_hinted N M (h ∷ hs) n c (inr (valid, later)) v = not_both_hinted (hinted_after N h.1.step h.1.proof) M hs n c later v.1

pub all_or_none-some : (e : Option LogError) (steps es : List Entry) → logs.all_or_none e steps ≡ Some es → (e ≡ None) × (steps ≡ es)
all_or_none-some None steps es h = (refl, cc)
all_or_none-some (Some x) steps es h = cc

pub line_no_run : (log : List ℕ) (F G : PrenexFormula) (n c : ℕ) → IsRefusedAt F log n c → LeadsTo log F G → ⊥
line_no_run log F G n c (inl (one, b)) (es, inl r) =
    let p = all_or_none-some (logs.read standard.bytes log).refused (logs.read standard.bytes log).steps es r.is_log in
    not_both F r.run.last es n c (subst (λ x. IsFirstBad F es x n c) p.0 (subst (λ x. IsFirstBad F x (logs.read standard.bytes log).refused n c) p.1 b)) r.run.steps
line_no_run log F G n c (inl (one, b)) (es, inr r) = let two = (second log r.hinted r.is_log).profile in absurd (omega (arith, one, two))
line_no_run log F G n c (inr (two, b)) (es, inl r) =
    let w : Some es ≡ None = sym r.is_log ∙ no-steps standard.bytes log two in
    cc
line_no_run log F G n c (inr (two, b)) (es, inr r) =
    let p = second log r.hinted r.is_log in
    not_both_hinted (begun F) r.run.last r.hinted n c (subst (λ x. IsFirstBadHinted (begun F) r.hinted x n c) p.refused (subst (λ x. IsFirstBadHinted (begun F) x (read_entries standard.bytes log).refused n c) p.hinted b)) r.run.steps

valid-one : (F E L : PrenexFormula) (ss : List ProofStep) → ValidSteps standard F ss E → ValidSteps standard F ss L → E ≡ L
valid-one F E L [] v w = sym v ∙ w
valid-one F E L (s ∷ ss) v w = valid-one (after F s) E L ss v.1 w.1

pub hinted-one : (N E L : NumberedFormula) (hs : List Hinted) → AreValid standard N hs E → AreValid standard N hs L → E ≡ L
hinted-one N E L [] v w = sym v ∙ w
hinted-one N E L (h ∷ hs) v w = hinted-one (hinted_after N h.step h.proof) E L hs v.1 w.1

pub end_no_run : (log : List ℕ) (F G : PrenexFormula) (c : ℕ) → EndsElsewhere log F G c → LeadsTo log F G → ⊥
end_no_run log F G c e (es, r) = go e.way r
  where
    go : IsPlainWay log F e.last ⊎ IsHintedWay log F e.last → IsRunLog log F G es → ⊥
    go (inl w) (inl r) =
        let same : w.entries ≡ es = same_Some w.entries es (sym w.is_log ∙ r.is_log) in
        let last : e.last ≡ r.run.last = valid-one F e.last r.run.last (steps_of es) (subst (λ x. ValidSteps standard F (steps_of x) e.last) same w.steps) r.run.steps in
        e.apart.differ (subst (λ (L : PrenexFormula). SameFormula L G) (sym last) r.run.same)
    go (inl w) (inr r) = not-both-profiles log w.entries r.hinted w.is_log r.is_log
    go (inr w) (inl r) = not-both-profiles log es w.hinted r.is_log w.is_log
    go (inr w) (inr r) =
        let same : w.hinted ≡ r.hinted = same_Some w.hinted r.hinted (sym w.is_log ∙ r.is_log) in
        let last : w.numbered ≡ r.run.last = hinted-one (begun F) w.numbered r.run.last (hinted_of r.hinted) (subst (λ x. AreValid standard (begun F) (hinted_of x) w.numbered) same w.steps) r.run.steps in
        e.apart.differ (subst (λ (L : PrenexFormula). SameFormula L G) (sym (w.last_is ∙ ap plain last)) r.run.same)

-- what an outcome settles of this
abbrev pub Settles : (PrenexFormula → PrenexFormula → Type 0) → Outcome → List ℕ → List ℕ → Type 0
Settles P (Verified n) i o = OfFormulas i o P
Settles P (RefusedLine n c) i o = OfFormulas i o (λ F G. ¬ P F G)
Settles P (RefusedEnd c) i o = OfFormulas i o (λ F G. ¬ P F G)
Settles P (RefusedInput r n c) i o = IsNoFormula i ⊎ IsNoFormula o
Settles P ReadFault i o = Unit {0}
Settles P NoMemory i o = Unit {0}

module _ (P : PrenexFormula → PrenexFormula → Type 0) (answer : Status) (i o : List ℕ) where
  may_come : MayCome answer → (answer ≡ status.Done → ⊥) → (answer ≡ status.LogRefused → ⊥) → (answer ≡ status.InputRefused → ⊥) → AnswersBy P answer i o
  may_come m d r n =
      record {
        verified = ((λ x. absurd (d x)), (λ p. inr m));
        log_refused = ((λ x. absurd (r x)), (λ p. inr m));
        input_refused = ((λ x. absurd (n x)), (λ p. inr m));
      }

  so : answer ≡ status.Done → OfFormulas i o P → AnswersBy P answer i o
  so e h =
      record {
        verified = ((λ x. h), (λ x. inl e));
        log_refused = ((λ x. absurd (cc)), (λ q. absurd (q.holds (carried i o _ _ q h))));
        input_refused = ((λ x. absurd (cc)), (λ q. absurd (elim q [ inl z ↦ z h.from h.is_input | inr z ↦ z h.to h.is_output ])));
      }

  not_so : answer ≡ status.LogRefused → OfFormulas i o (λ F G. ¬ P F G) → AnswersBy P answer i o
  not_so e h =
      record {
        verified = ((λ x. absurd (cc)), (λ q. absurd (h.holds (carried i o _ _ h q))));
        log_refused = ((λ x. h), (λ q. inl e));
        input_refused = ((λ x. absurd (cc)), (λ q. absurd (elim q [ inl z ↦ z h.from h.is_input | inr z ↦ z h.to h.is_output ])));
      }

  no_formula : answer ≡ status.InputRefused → IsNoFormula i ⊎ IsNoFormula o → AnswersBy P answer i o
  no_formula e h =
      record {
        verified = ((λ x. absurd (cc)), (λ q. absurd (elim h [ inl z ↦ z q.from q.is_input | inr z ↦ z q.to q.is_output ])));
        log_refused = ((λ x. absurd (cc)), (λ q. absurd (elim h [ inl z ↦ z q.from q.is_input | inr z ↦ z q.to q.is_output ])));
        input_refused = ((λ x. h), (λ q. inl e));
      }

  -- an answer is that of its outcome, or may come at any time
  pub answers-by : {A B : Type 0} (due : Outcome) → Settles P due i o → (answer ≡ status_of due) ⊎ ((answer ≡ status.WriteFault) × A) ⊎ ((answer ≡ status.NoMemory) × B) → AnswersBy P answer i o
  answers-by due h (inr (inl e)) = may_come (inr (inl e.0)) (λ x. cc) (λ x. cc) (λ x. cc)
  answers-by due h (inr (inr e)) = may_come (inr (inr e.0)) (λ x. cc) (λ x. cc) (λ x. cc)
  answers-by (Verified n) h (inl e) = so e h
  answers-by (RefusedLine n c) h (inl e) = not_so e h
  answers-by (RefusedEnd c) h (inl e) = not_so e h
  answers-by (RefusedInput r n c) h (inl e) = no_formula e h
  answers-by ReadFault h (inl e) = may_come (inl e) (λ x. cc) (λ x. cc) (λ x. cc)
  answers-by NoMemory h (inl e) = may_come (inr (inr e)) (λ x. cc) (λ x. cc) (λ x. cc)

settled : (due : Outcome) (i o l : List ℕ) → Checks due i o l → Settles (LeadsTo l) due i o
settled (Verified n) i o l h = record { from = h.from; to = h.to; is_input = h.is_input; is_output = h.is_output; holds = (h.holds.0, h.holds.1) }
settled (RefusedLine n c) i o l h = record { from = h.from; to = h.to; is_input = h.is_input; is_output = h.is_output; holds = line_no_run l h.from h.to n c h.holds }
settled (RefusedEnd c) i o l h = record { from = h.from; to = h.to; is_input = h.is_input; is_output = h.is_output; holds = end_no_run l h.from h.to c h.holds }
settled (RefusedInput In n c) i o l h = inl (λ F f. no_offence i F n c h f)
settled (RefusedInput Out n c) i o l h = inr (λ F f. no_offence o F n c h.2 f)
settled ReadFault i o l h = tt
settled NoMemory i o l h = tt

-- a log that is verified keeps truth, whatever the answer
true-then : {A B : Type 0} (due : Outcome) (answer : Status) (T : Type 0) → IfVerified due T → (answer ≡ status_of due) ⊎ ((answer ≡ status.WriteFault) × A) ⊎ ((answer ≡ status.NoMemory) × B) → answer ≡ status.Done → T
true-then (Verified n) answer T t d e = t
true-then due answer T t (inr (inl f)) e = let z = f.0 in cc
true-then due answer T t (inr (inr f)) e = let z = f.0 in cc
true-then (RefusedLine n c) answer T t (inl q) e = cc
true-then (RefusedEnd c) answer T t (inl q) e = cc
true-then (RefusedInput r n c) answer T t (inl q) e = cc
true-then ReadFault answer T t (inl q) e = cc
true-then NoMemory answer T t (inl q) e = cc

pub answers : {A B : Type 0} (due : Outcome) (answer : Status) (i o l : List ℕ) → Checks due i o l → IfVerified due (HaveOneTruth i o) → (answer ≡ status_of due) ⊎ ((answer ≡ status.WriteFault) × A) ⊎ ((answer ≡ status.NoMemory) × B) → AnswersExactly answer i o l
answers due answer i o l h t d =
    let a = answers-by (LeadsTo l) answer i o due (settled due i o l h) d in
    record { verified = a.verified; truth = true-then due answer (HaveOneTruth i o) t d; log_refused = a.log_refused; input_refused = a.input_refused }

pub if_verified-some : {D : Type 0} (due : Outcome) (o : Option D) (P : D → Type 0) → IfVerified due (IfSome o P) → IfSome o (λ d. IfVerified due (P d))
if_verified-some (Verified n) o P h = h
if_verified-some (RefusedLine n c) None P h = tt
if_verified-some (RefusedLine n c) (Some d) P h = tt
if_verified-some (RefusedEnd c) None P h = tt
if_verified-some (RefusedEnd c) (Some d) P h = tt
if_verified-some (RefusedInput r n c) None P h = tt
if_verified-some (RefusedInput r n c) (Some d) P h = tt
if_verified-some ReadFault None P h = tt
if_verified-some ReadFault (Some d) P h = tt
if_verified-some NoMemory None P h = tt
if_verified-some NoMemory (Some d) P h = tt

pub one_truth : (i o : List ℕ) (F G : PrenexFormula) → IsFileOf i F → IsFileOf o G → Holds F ↔ Holds G → HaveOneTruth i o
one_truth i o F G f g t A B a b =
    subst (λ (H : PrenexFormula). Holds H ↔ Holds B) (one_formula i F A f a) (subst (λ (H : PrenexFormula). Holds F ↔ Holds H) (one_formula o G B g b) t)

pub at_some : {X : Type 0} (P : X → Type 0) (o : Option X) (p : X) → Some p ≡ o → P p → IfSome o P
at_some P o p e h = subst (λ x. IfSome x P) e h

-- where the log is verified, neither it nor a formula is refused
pub verified-run : (i o l : List ℕ) → IsVerified i o l → IsNoRun i o l → ⊥
verified-run i o l v r = r.holds (carried i o _ _ r v)

pub verified-formulas : (i o l : List ℕ) → IsVerified i o l → IsNoFormula i ⊎ IsNoFormula o → ⊥
verified-formulas i o l v (inl z) = z v.from v.is_input
verified-formulas i o l v (inr z) = z v.to v.is_output

pub unverified-truth : (w : Outcome) (i o : List ℕ) → IsUnverified w → IfVerified w (HaveOneTruth i o)
unverified-truth (Verified n) i o h = absurd h
unverified-truth (RefusedLine n c) i o h = tt
unverified-truth (RefusedEnd c) i o h = tt
unverified-truth (RefusedInput r n c) i o h = tt
unverified-truth ReadFault i o h = tt
unverified-truth NoMemory i o h = tt

pub unverified-not_done : (w : Outcome) (answer : Status) → IsUnverified w → answer ≡ status_of w → answer ≡ status.Done → ⊥
unverified-not_done (Verified n) answer h e x = h
unverified-not_done (RefusedLine n c) answer h e x = cc
unverified-not_done (RefusedEnd c) answer h e x = cc
unverified-not_done (RefusedInput r n c) answer h e x = cc
unverified-not_done ReadFault answer h e x = cc
unverified-not_done NoMemory answer h e x = cc

pub unverified-not_circuits : (w : Outcome) (answer : Status) → answer ≡ status_of w → answer ≡ status.CircuitsRefused → ⊥
unverified-not_circuits (Verified n) answer e x = cc
unverified-not_circuits (RefusedLine n c) answer e x = cc
unverified-not_circuits (RefusedEnd c) answer e x = cc
unverified-not_circuits (RefusedInput r n c) answer e x = cc
unverified-not_circuits ReadFault answer e x = cc
unverified-not_circuits NoMemory answer e x = cc
