-- When each status of `disprove` comes.
use Rattle.std.proofs.Common.{◌≡◌, ◌≢◌, inl, inr, ◌∙◌, sym, subst, ℕ, Bool, true, false, List, Option, None, Some}
use Rattle.q_logic.specs.Prelude.{PrenexFormula, Holds, IsFormula, begun, standard}
use Rattle.q_io.specs.Files.{Disk, bytes_at}
use Rattle.q_log.specs.declared.error.LogError.{LogError}
use Rattle.q_log.specs.Logs.{Parsed}
use Rattle.q_shares.specs.Shares.{judged}
use Rattle.q_refutation.specs.Refutations.{RefusedAt}
use Rattle.q_shown.specs.HintedRefutations.{HintedRefusedAt}
use Rattle.q_shown.proofs.HintedRefuting.{hinted-false, hinted-number, hinted_not-both, number-hinted}
use Rattle.q_refutation.proofs.Refuting.{refutes-false}
use Rattle.q_refutation.proofs.Refusing.{refutes-number, number-refutes, not-both}
use Rattle.q_command.specs.Checks.{IsNoFormula, MayCome, Exactly}
use Rattle.q_command.specs.Logs.{HintedEntry, hinted_of, steps_of}
use Rattle.q_command.specs.Sinks.{SinkView, IsDue}
use Rattle.q_command.specs.declared.status.Status.{Status}
use Rattle.q_command.specs.declared.status.Status.TheVariants as status
use Rattle.q_command.proofs.CheckStatus.{one_formula, no_offence}
use Rattle.q_command.proofs.FileFormulas.{file-formula}
use Rattle.q_command.proofs.ToldLaws.{ToldLaws, exact}
use Rattle.q_run_disprove.specs.DisprovedLines.{status_of_disproved}
use Rattle.q_run_disprove.specs.Disproofs.{DisproveFiles, EndFails, InputIsFalse, IsRefutation, LineFails, OfFiles, SaysOf, proof_of}
use Rattle.q_run_disprove.specs.HintedDisproofs.{Disproves, DisprovesExactly, HintedSays, IsDisproof, IsHintedRefutation, IsNoDisproof, Refutes, Tells, TellsFiles, hinted_proof, is_hinted, offence_in, told}
use Rattle.q_run_disprove.specs.declared.disproved.Disproved.{Disproved}
use Rattle.q_run_disprove.specs.declared.disproved.Disproved.TheVariants as outcome

-- the proof is read, and does not refute
abbrev IsRefusal : Disproved → Type 0
IsRefusal (outcome.False n) = ⊥
IsRefusal (outcome.RefusedLine n c) = Unit {0}
IsRefusal outcome.RefusedEnd = Unit {0}
IsRefusal (outcome.RefusedInput n c) = ⊥
IsRefusal outcome.ReadFault = ⊥
IsRefusal outcome.NoMemory = ⊥

-- what is refused is no refutation
refused-not : (F : PrenexFormula) (p : Parsed) (at : ℕ) (cause : Option ℕ) → RefusedAt false standard F (steps_of p.steps) at cause → IsRefutation F p → ⊥
refused-not F p at cause r h =
    let n = refutes-number false standard F (steps_of p.steps) h in
    not-both false standard F (steps_of p.steps) n.0 at cause n.1 r

pub line-not : (k c : ℕ) (F : PrenexFormula) (p : Parsed) → LineFails k c F p → IsRefutation F p → ⊥
line-not k c F p (inl (at, r, l)) h = refused-not F p at (Some c) r h
line-not k c F p (inr ((at, r), o)) h = refused-not F p at None r h

pub end-not : (F : PrenexFormula) (p : Parsed) → EndFails F p → IsRefutation F p → ⊥
end-not F p ((at, r), o) h = refused-not F p at None r h

-- what a refusal says is no refutation
not-refuted : (o : Disproved) (F : PrenexFormula) (p : Parsed) → IsRefusal o → SaysOf o F p → IsRefutation F p → ⊥
not-refuted (outcome.False n) F p i h r = i
not-refuted (outcome.RefusedLine k c) F p i h r = line-not k c F p h r
not-refuted outcome.RefusedEnd F p i h r = end-not F p h r
not-refuted (outcome.RefusedInput k c) F p i h r = h
not-refuted outcome.ReadFault F p i h r = i
not-refuted outcome.NoMemory F p i h r = i

hinted-refused : (F : PrenexFormula) (hs : List HintedEntry) (at : ℕ) (cause : Option ℕ) → HintedRefusedAt standard (begun F) (hinted_of hs) at cause →
    IsHintedRefutation F hs → ⊥
hinted-refused F hs at cause r h =
    let n = hinted-number standard (begun F) (hinted_of hs) h in
    hinted_not-both standard (begun F) (hinted_of hs) n.0 at cause n.1 r

not-hinted : (o : Disproved) (F : PrenexFormula) (hs : List HintedEntry) (r : Option LogError) → IsRefusal o → HintedSays o F hs r → IsHintedRefutation F hs → ⊥
not-hinted (outcome.False n) F hs r i h k = i
not-hinted (outcome.RefusedLine n c) F hs r i (inl (at, x, l)) k = hinted-refused F hs at (Some c) x k
not-hinted (outcome.RefusedLine n c) F hs r i (inr ((at, x), l)) k = hinted-refused F hs at None x k
not-hinted outcome.RefusedEnd F hs r i ((at, x), l) k = hinted-refused F hs at None x k
not-hinted (outcome.RefusedInput n c) F hs r i h k = h
not-hinted outcome.ReadFault F hs r i h k = i
not-hinted outcome.NoMemory F hs r i h k = i

-- with hints or without
module _ (binary : Bool) (bytes : List ℕ) (F : PrenexFormula) where
  told-not : (o : Disproved) → IsRefusal o → Tells o binary bytes F → Refutes binary bytes F → ⊥
  told-not o i h r = go (is_hinted binary bytes) h r
    where
      go : (b : Bool) → judged b (HintedSays o F (hinted_proof binary bytes) (offence_in binary bytes)) (SaysOf o F (proof_of binary bytes)) →
          judged b (IsHintedRefutation F (hinted_proof binary bytes)) (IsRefutation F (proof_of binary bytes)) → ⊥
      go true h r = not-hinted o F (hinted_proof binary bytes) (offence_in binary bytes) i h r
      go false h r = not-refuted o F (proof_of binary bytes) i h r

  told-false : (k : ℕ) → Tells (outcome.False k) binary bytes F → Refutes binary bytes F
  told-false k h = go (is_hinted binary bytes) h
    where
      go : (b : Bool) → judged b (HintedSays (outcome.False k) F (hinted_proof binary bytes) (offence_in binary bytes)) (SaysOf (outcome.False k) F (proof_of binary bytes)) →
          judged b (IsHintedRefutation F (hinted_proof binary bytes)) (IsRefutation F (proof_of binary bytes))
      go true h = number-hinted standard (begun F) (hinted_of (hinted_proof binary bytes)) k h
      go false h = number-refutes false standard F (steps_of (proof_of binary bytes).steps) k h

  refuted-false : IsFormula F → Refutes binary bytes F → Holds F → ⊥
  refuted-false f r t = go (is_hinted binary bytes) r
    where
      go : (b : Bool) → judged b (IsHintedRefutation F (hinted_proof binary bytes)) (IsRefutation F (proof_of binary bytes)) → ⊥
      go true r = hinted-false standard F (hinted_of (hinted_proof binary bytes)) f r t
      go false r = refutes-false false standard F (steps_of (proof_of binary bytes).steps) f r t

-- an answer that is due, one that does not come, and one in whose place a fault came
pub due : (given s : Status) (P : Type 0) → given ≡ s → P → Exactly given s P
due given s P e p = ((λ x. p), (λ x. inl e))

pub not-due : (given s t : Status) (P : Type 0) → given ≡ s → (s ≡ t → ⊥) → (P → ⊥) → Exactly given t P
not-due given s t P e d h = ((λ x. absurd (d (sym e ∙ x))), (λ p. absurd (h p)))

pub faulty : (given t : Status) (P : Type 0) → MayCome given → (MayCome t → ⊥) → Exactly given t P
faulty given t P m d = ((λ x. absurd (d (subst MayCome x m))), (λ p. inr m))

pub false-stays : MayCome status.False → ⊥
false-stays (inl a) = cc
false-stays (inr (inl a)) = cc
false-stays (inr (inr a)) = cc

pub log-stays : MayCome status.LogRefused → ⊥
log-stays (inl a) = cc
log-stays (inr (inl a)) = cc
log-stays (inr (inr a)) = cc

pub input-stays : MayCome status.InputRefused → ⊥
input-stays (inl a) = cc
input-stays (inr (inl a)) = cc
input-stays (inr (inr a)) = cc

-- a proof that is judged as if it had no hints
pub plain-false : (n : DisproveFiles) (binary : Bool) (before : Disk) → OfFiles n binary before IsRefutation → InputIsFalse n before
plain-false n binary before p F f h =
    let e : p.formula ≡ F = one_formula (bytes_at before n.input) p.formula F p.is_input f in
    refutes-false false standard p.formula (steps_of (proof_of binary (bytes_at before n.proof)).steps)
    (file-formula (bytes_at before n.input) p.formula p.is_input) p.holds (subst Holds (sym e) h)

module _ (given : Status) (n : DisproveFiles) (binary : Bool) (before : Disk) (after : Option Disk) where
  abbrev Result : Type 0
  Result = DisprovesExactly given n binary before after

  -- the file holds one formula
  apart : IsDisproof n binary before → IsNoDisproof n binary before → ⊥
  apart p q =
      q.holds (subst (Refutes binary (bytes_at before n.proof))
      (one_formula (bytes_at before n.input) p.formula q.formula p.is_input q.is_input) p.holds)

  pub is-false : IsDisproof n binary before → InputIsFalse n before
  is-false p F f h =
      let e : p.formula ≡ F = one_formula (bytes_at before n.input) p.formula F p.is_input f in
      refuted-false binary (bytes_at before n.proof) p.formula (file-formula (bytes_at before n.input) p.formula p.is_input) p.holds (subst Holds (sym e) h)

  disproved : IsDisproof n binary before → after ≡ Some before → given ≡ status.False → Result
  disproved p same e = record {
    disproved = due given status.False (IsDisproof n binary before) e p;
    is_false = λ x. is-false p;
    log_refused = not-due given status.False status.LogRefused (IsNoDisproof n binary before) e (λ x. cc) (λ q. apart p q);
    input_refused = not-due given status.False status.InputRefused (IsNoFormula (bytes_at before n.input)) e (λ x. cc) (λ z. z p.formula p.is_input);
    untouched = same;
  }

  refused : IsNoDisproof n binary before → after ≡ Some before → given ≡ status.LogRefused → Result
  refused p same e = record {
    disproved = not-due given status.LogRefused status.False (IsDisproof n binary before) e (λ x. cc) (λ q. apart q p);
    is_false = λ x. absurd (let w : status.LogRefused ≡ status.False = sym e ∙ x in cc);
    log_refused = due given status.LogRefused (IsNoDisproof n binary before) e p;
    input_refused = not-due given status.LogRefused status.InputRefused (IsNoFormula (bytes_at before n.input)) e (λ x. cc) (λ z. z p.formula p.is_input);
    untouched = same;
  }

  no-formula : IsNoFormula (bytes_at before n.input) → after ≡ Some before → given ≡ status.InputRefused → Result
  no-formula z same e = record {
    disproved = not-due given status.InputRefused status.False (IsDisproof n binary before) e (λ x. cc) (λ q. z q.formula q.is_input);
    is_false = λ x. absurd (let w : status.InputRefused ≡ status.False = sym e ∙ x in cc);
    log_refused = not-due given status.InputRefused status.LogRefused (IsNoDisproof n binary before) e (λ x. cc) (λ q. z q.formula q.is_input);
    input_refused = due given status.InputRefused (IsNoFormula (bytes_at before n.input)) e z;
    untouched = same;
  }

  fault : MayCome given → after ≡ Some before → Result
  fault m same = record {
    disproved = faulty given status.False (IsDisproof n binary before) m false-stays;
    is_false = λ x. absurd (false-stays (subst MayCome x m));
    log_refused = faulty given status.LogRefused (IsNoDisproof n binary before) m log-stays;
    input_refused = faulty given status.InputRefused (IsNoFormula (bytes_at before n.input)) m input-stays;
    untouched = same;
  }

  due-answers : (o : Disproved) → TellsFiles o n binary before → after ≡ Some before → given ≡ status_of_disproved o → Result
  due-answers (outcome.False k) h same e =
      disproved (record { formula = h.formula; is_input = h.is_input; holds = told-false binary (bytes_at before n.proof) h.formula k h.holds }) same e
  due-answers (outcome.RefusedLine k c) h same e =
      refused (record { formula = h.formula; is_input = h.is_input; holds = told-not binary (bytes_at before n.proof) h.formula (outcome.RefusedLine k c) tt h.holds }) same e
  due-answers outcome.RefusedEnd h same e =
      refused (record { formula = h.formula; is_input = h.is_input; holds = told-not binary (bytes_at before n.proof) h.formula outcome.RefusedEnd tt h.holds }) same e
  due-answers (outcome.RefusedInput k c) h same e = no-formula (λ F f. no_offence (bytes_at before n.input) F k c h f) same e
  due-answers outcome.ReadFault h same e = fault (inl e) same
  due-answers outcome.NoMemory h same e = fault (inr (inr e)) same

  pub disprove-answers : (o : Disproved) (old new : SinkView) → Disproves o n binary before after → IsDue (status_of_disproved o) given old new → Result
  disprove-answers o old new h (inl e) = due-answers o h.0 h.1 e
  disprove-answers o old new h (inr (inl e)) = fault (inr (inl e.0)) h.1
  disprove-answers o old new h (inr (inr e)) = fault (inr (inr e.0)) h.1

pub disprove-usage : (o : Disproved) → status_of_disproved o ≢ status.Usage
disprove-usage (outcome.False k) e = cc
disprove-usage (outcome.RefusedLine k c) e = cc
disprove-usage outcome.RefusedEnd e = cc
disprove-usage (outcome.RefusedInput k c) e = cc
disprove-usage outcome.ReadFault e = cc
disprove-usage outcome.NoMemory e = cc

pub laws : (n : DisproveFiles) (binary : Bool) → ToldLaws (told n binary)
laws n binary = record {
  gives = λ o given disk after old new h d. disprove-answers given n binary disk after o old new h d;
  no_usage = disprove-usage;
  answers = λ given disk after m g. (exact given status.False _ m g.disproved, exact given status.LogRefused _ m g.log_refused);
}
