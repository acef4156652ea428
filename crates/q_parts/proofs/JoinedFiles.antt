-- Parts that are verified make a log that is verified.
use Rattle.std.proofs.Common.{◌≡◌, ◌≤◌, ℕ, ◌+◌, List, [], ◌∷◌, ◌++◌, length, Some, refl, sym, ap, ◌∙◌, subst, arith, length-append}
use Rattle.q_logic.specs.Prelude.{PrenexFormula, standard, ProofStep, Run}
use Rattle.q_log.specs.Logs.{Steps}
use Rattle.q_same_steps.proofs.Composing.{runs-joined, run-rest}
use Rattle.q_command.specs.Checks.{IsFileOf}
use Rattle.q_command.specs.Logs.{Entry, steps_of}
use Rattle.q_parts.specs.LogParts.{EndsLine, IsJoined}
use Rattle.q_parts.specs.CheckedParts.{PartFile, all_logs, all_steps, last_file}
use Rattle.q_parts.proofs.JoinedLogs.{joined-steps}
use Rattle.q_command.proofs.FileFormulas.{file-formula}
use Rattle.q_command.proofs.CheckStatus.{one_formula}
use Rattle.q_command.proofs.LogEntries.{steps_of-append, steps_of-length}

-- `check` says `verified n` of these three files, and the log has no hints
pub record IsVerifiedBy (input output log : List ℕ) (n : ℕ) : Type 0 where
  pub from : PrenexFormula
  pub to : PrenexFormula
  pub is_input : IsFileOf input from
  pub is_output : IsFileOf output to
  pub entries : List Entry
  pub is_log : Steps standard.bytes log ≡ Some entries
  pub run : Run from (steps_of entries) to
  pub count : n ≡ length entries

-- each part is verified, from the file before it to the one behind it; all logs but the last end a line
abbrev pub AreVerified : List ℕ → PartFile → List PartFile → Type 0
AreVerified input p [] = IsVerifiedBy input p.behind p.log p.steps
AreVerified input p (q ∷ ps) = EndsLine p.log × IsVerifiedBy input p.behind p.log p.steps × AreVerified p.behind q ps

joined-steps_of : (es us both : List Entry) → IsJoined es us both → steps_of both ≡ steps_of es ++ steps_of us
joined-steps_of es us both j = ap steps_of j.are ∙ (steps_of-append es j.later ∙ ap (λ (ss : List ProofStep). steps_of es ++ ss) j.same)

joined-length : (es us both : List Entry) → IsJoined es us both → length both ≡ length es + length us
joined-length es us both j =
    let a : length both ≡ length (es ++ j.later) = ap (λ (xs : List Entry). length xs) j.are in
    let b : length (es ++ j.later) ≡ length es + length j.later = length-append es j.later in
    let c : length (steps_of j.later) ≡ length (steps_of us) = ap (λ (ss : List ProofStep). length ss) j.same in
    let d : length (steps_of j.later) ≡ length j.later = steps_of-length j.later in
    let e : length (steps_of us) ≡ length us = steps_of-length us in
    omega arith

pub two-verified : (i m o a b : List ℕ) (k n : ℕ) → EndsLine a → length (a ++ b) ≤ standard.bytes →
    IsVerifiedBy i m a k → IsVerifiedBy m o b n → IsVerifiedBy i o (a ++ b) (k + n)
two-verified i m o a b k n l h v w =
    let j = joined-steps standard.bytes a b v.entries w.entries l h v.is_log w.is_log in
    let e : w.from ≡ v.to = one_formula m w.from v.to w.is_input v.is_output in
    let s : Run v.to (steps_of w.entries) w.to = subst (λ (F : PrenexFormula). Run F (steps_of w.entries) w.to) e w.run in
    let r : Run v.from (steps_of v.entries ++ steps_of w.entries) w.to =
    runs-joined v.from v.to w.to (steps_of v.entries) (steps_of w.entries) (file-formula i v.from v.is_input) (file-formula m v.to v.is_output) v.run s in
    let z : length j.0 ≡ length v.entries + length w.entries = joined-length v.entries w.entries j.0 j.2 in
    let x : k ≡ length v.entries = v.count in
    let y : n ≡ length w.entries = w.count in
    record {
      from = v.from;
      to = w.to;
      is_input = v.is_input;
      is_output = w.is_output;
      entries = j.0;
      is_log = j.1;
      run = subst (λ (ss : List ProofStep). Run v.from ss w.to) (sym (joined-steps_of v.entries w.entries j.0 j.2)) r;
      count = omega arith;
    }

pub all-verified : (i : List ℕ) (p : PartFile) (ps : List PartFile) → AreVerified i p ps → length (all_logs p ps) ≤ standard.bytes →
    IsVerifiedBy i (last_file p ps) (all_logs p ps) (all_steps p ps)
all-verified i p [] v h = v
all-verified i p (q ∷ ps) v h =
    let z : length (p.log ++ all_logs q ps) ≡ length p.log + length (all_logs q ps) = length-append p.log (all_logs q ps) in
    let b : length (all_logs q ps) ≤ standard.bytes = omega arith in
    two-verified i p.behind (last_file q ps) p.log (all_logs q ps) p.steps (all_steps q ps) v.0 h v.1 (all-verified p.behind q ps v.2 b)

pub same-some : {X : Type 0} (x y : X) → Some x ≡ Some y → x ≡ y
same-some x y e = cc

-- Where a first part is verified, the rest is verified if the whole is.
pub rest-verified : (i m o a b : List ℕ) (k n : ℕ) (us : List Entry) → EndsLine a → length (a ++ b) ≤ standard.bytes →
    IsVerifiedBy i m a k → Steps standard.bytes b ≡ Some us → IsVerifiedBy i o (a ++ b) n → IsVerifiedBy m o b (length us)
rest-verified i m o a b k n us l h v t w =
    let j = joined-steps standard.bytes a b v.entries us l h v.is_log t in
    let q : w.entries ≡ j.0 = same-some w.entries j.0 (sym w.is_log ∙ j.1) in
    let e : w.from ≡ v.from = one_formula i w.from v.from w.is_input v.is_input in
    let r : Run v.from (steps_of v.entries ++ steps_of us) w.to =
    subst (λ (ss : List ProofStep). Run v.from ss w.to) (ap steps_of q ∙ joined-steps_of v.entries us j.0 j.2)
    (subst (λ (F : PrenexFormula). Run F (steps_of w.entries) w.to) e w.run) in
    record {
      from = v.to;
      to = w.to;
      is_input = v.is_output;
      is_output = w.is_output;
      entries = us;
      is_log = t;
      run = run-rest v.from v.to w.to (steps_of v.entries) (steps_of us) (file-formula i v.from v.is_input) (file-formula m v.to v.is_output) r v.run;
      count = refl;
    }
