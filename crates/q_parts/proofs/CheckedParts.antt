-- What `check` answers of parts is what it answers of the log.
use Rattle.std.proofs.Common.{◌≡◌, ◌≤◌, ◌⊎◌, ◌==◌, ◌++◌, ◌∙◌, ℕ, if◌then◌else◌, List, [], ◌∷◌, length, Some, None, inl, inr, sym, subst}
use Rattle.q_logic.specs.Prelude.{PrenexFormula, ProofStep, Run, standard}
use Rattle.q_hinted.specs.Logs.{Profile, all_or_none, hinted_in, read_entries}
use Rattle.q_command.specs.Logs.{Entry}
use Rattle.q_command.specs.Checks.{Checks, IsHintedRunLog, IsRunLog, IsVerified, AnswersExactly, MayCome}
use Rattle.q_command.specs.declared.outcome.Outcome.TheVariants.{Verified}
use Rattle.q_command.specs.declared.status.Status.{Status}
use Rattle.q_command.specs.declared.status.Status.TheVariants as status
use Rattle.q_hinted.proofs.Profiles.{no-steps}
use Rattle.q_log.specs.Logs.{Steps}
use Rattle.q_command.proofs.WholeLogs.{profile-told}
use Rattle.q_parts.specs.LogParts.{AreSameWords, EndsLine}
use Rattle.q_parts.specs.CheckedParts.{PartFile, AllChecked, IsPlain, all_logs, all_steps, last_file}
use Rattle.q_parts.proofs.JoinedLogs.{joined-steps}
use Rattle.q_parts.proofs.SameWords.{same-words, same-length}
use Rattle.q_parts.proofs.JoinedFiles.{AreVerified, IsVerifiedBy, all-verified, rest-verified}

no-hints : (l : List ℕ) (F G : PrenexFormula) (es : List Entry) → IsPlain l → IsHintedRunLog l F G es → ⊥
no-hints l F G es p h = clash (subst (λ (n : ℕ). (if n == 2 then all_or_none (read_entries standard.bytes l).refused (hinted_in (read_entries standard.bytes l).entries) else None) ≡ Some h.hinted) p h.is_log)
  where
    clash : None ≡ Some h.hinted → ⊥
    clash e = cc

to_part : (i o l : List ℕ) (n : ℕ) → IsPlain l → Checks (Verified n) i o l → IsVerifiedBy i o l n
to_part i o l n p c = go c.holds
  where
    go : (entries : List Entry) × IsRunLog l c.from c.to entries × (n ≡ length entries) → IsVerifiedBy i o l n
    go (es, inl r, q) = record {
      from = c.from;
      to = c.to;
      is_input = c.is_input;
      is_output = c.is_output;
      entries = es;
      is_log = r.is_log;
      run = r.run;
      count = q;
    }
    go (es, inr h, q) = absurd (no-hints l c.from c.to es p h)

to_check : (i o l : List ℕ) (n : ℕ) → IsVerifiedBy i o l n → Checks (Verified n) i o l
to_check i o l n v = record {
  from = v.from;
  to = v.to;
  is_input = v.is_input;
  is_output = v.is_output;
  holds = (
    v.entries,
    inl (record { is_log = v.is_log; run = v.run }),
    v.count,
  );
}

to_parts : (i : List ℕ) (p : PartFile) (ps : List PartFile) → AllChecked i p ps → AreVerified i p ps
to_parts i p [] a = to_part i p.behind p.log p.steps a.0 a.1
to_parts i p (q ∷ ps) a = (a.0, to_part i p.behind p.log p.steps a.1 a.2, to_parts p.behind q ps a.3)

pub checks-joined : (i : List ℕ) (p : PartFile) (ps : List PartFile) → AllChecked i p ps → length (all_logs p ps) ≤ standard.bytes →
    Checks (Verified (all_steps p ps)) i (last_file p ps) (all_logs p ps)
checks-joined i p ps a h =
    to_check i (last_file p ps) (all_logs p ps) (all_steps p ps) (all-verified i p ps (to_parts i p ps a) h)

verified-of : (i o l : List ℕ) (n : ℕ) → Checks (Verified n) i o l → IsVerified i o l
verified-of i o l n c = record { from = c.from; to = c.to; is_input = c.is_input; is_output = c.is_output; holds = (c.holds.0, c.holds.1) }

pub answers-joined : (answer : Status) (i : List ℕ) (p : PartFile) (ps : List PartFile) → AllChecked i p ps → length (all_logs p ps) ≤ standard.bytes →
    AnswersExactly answer i (last_file p ps) (all_logs p ps) → (answer ≡ status.Done) ⊎ MayCome answer
answers-joined answer i p ps a h x =
    x.verified.1 (verified-of i (last_file p ps) (all_logs p ps) (all_steps p ps) (checks-joined i p ps a h))

-- the rest of a log
some-plain : (l : List ℕ) (us : List Entry) → Steps standard.bytes l ≡ Some us → IsPlain l
some-plain l us e = go (profile-told standard.bytes l)
  where
    clash : Some us ≡ None → ⊥
    clash w = cc

    go : (Profile standard.bytes l ≡ 1) ⊎ (Profile standard.bytes l ≡ 2) → IsPlain l
    go (inl p) = p
    go (inr p) = absurd (clash (sym e ∙ no-steps standard.bytes l p))

pub checks-rest : (i m o a b : List ℕ) (k n : ℕ) (us : List Entry) → EndsLine a → length (a ++ b) ≤ standard.bytes → IsPlain a →
    Checks (Verified k) i m a → Steps standard.bytes b ≡ Some us → Checks (Verified n) i o (a ++ b) → Checks (Verified (length us)) m o b
checks-rest i m o a b k n us l h p v t w =
    let x = to_part i m a k p v in
    let j = joined-steps standard.bytes a b x.entries us l h x.is_log t in
    to_check m o b (length us) (rest-verified i m o a b k n us l h x t (to_part i o (a ++ b) n (some-plain (a ++ b) j.0 j.1) w))

-- the same words
pub checks-same : (i o l other : List ℕ) (n : ℕ) → AreSameWords l other → length l ≤ standard.bytes → length other ≤ standard.bytes → IsPlain l → Checks (Verified n) i o l → Checks (Verified n) i o other
checks-same i o l other n w h k p c =
    let v = to_part i o l n p c in
    let s = same-words standard.bytes l other v.entries w h k v.is_log in
    to_check i o other n (record {
      from = v.from;
      to = v.to;
      is_input = v.is_input;
      is_output = v.is_output;
      entries = s.entries;
      is_log = s.is_log;
      run = subst (λ (ss : List ProofStep). Run v.from ss v.to) (sym s.same) v.run;
      count = v.count ∙ sym (same-length v.entries s.entries s.same);
    })
