-- Parts that say `verified` make a log that `check` verifies.
use Rattle.std.proofs.Common.{◌≡◌, ◌∙◌, inl, inr, refl, sym, ap, subst, arith, ℕ, ◌+◌, List, [], ◌∷◌, sum}
use Rattle.std.proofs.lemmas.Option.{same_Some}
use Rattle.std.proofs.lemmas.List.Sums.{sum_by-cons}
use Rattle.q_logic.specs.Prelude.{PrenexFormula, IsIn}
use Rattle.q_shares.specs.Shares.{Share, ShareRun, AllSay, AreDealt, count, counts, shares_of}
use Rattle.q_shares.specs.HintedShares.{HintedShareRun}
use Rattle.q_shares.proofs.SharedRuns.{shares-run, run-share, counts-sum}
use Rattle.q_shares.proofs.HintedSharedRuns.{hinted-shares-run, hinted-run-share}
use Rattle.q_command.specs.Logs.{Entry, HintedEntry, steps_of, hinted_of, stripped}
use Rattle.q_command.specs.Checks.{Checks, IsRunLog}
use Rattle.q_command.specs.Parts.{AllVerified, ChecksShared, IsShareLog}
use Rattle.q_command.specs.declared.outcome.Outcome.TheVariants.{Verified}
use Rattle.q_command.proofs.CheckStatus.{carried}
use Rattle.q_command.proofs.LogEntries.{steps_of-length}
use Rattle.q_command.proofs.WholeLogs.{not-both-profiles}

-- a log has one list of steps, whoever checks it
one-share-log : (log : List ℕ) (F G : PrenexFormula) (j k : Share) (es fs : List Entry) → IsShareLog j log F G es → IsShareLog k log F G fs → fs ≡ es
one-share-log log F G j k es fs (inl a) (inl b) = same_Some fs es (sym b.is_log ∙ a.is_log)
one-share-log log F G j k es fs (inl a) (inr b) = absurd (not-both-profiles log es b.hinted a.is_log b.is_log)
one-share-log log F G j k es fs (inr a) (inl b) = absurd (not-both-profiles log fs a.hinted b.is_log a.is_log)
one-share-log log F G j k es fs (inr a) (inr b) =
    let h : b.hinted ≡ a.hinted = same_Some b.hinted a.hinted (sym b.is_log ∙ a.is_log) in
    b.entries_are ∙ (ap stripped h ∙ sym a.entries_are)

-- what each of several says of the steps, and their numbers
module _ (i o l : List ℕ) (j : Share) (m : ℕ) (v : ChecksShared j (Verified m) i o l) where
  says-too : (k : Share) (n : ℕ) → ChecksShared k (Verified n) i o l → IsShareLog k l v.from v.to v.holds.0 × (n ≡ count k 0 (steps_of v.holds.0))
  says-too k n w =
      let x = carried i o _ _ v w in
      let e : x.0 ≡ v.holds.0 = one-share-log l v.from v.to j k v.holds.0 x.0 v.holds.1 x.1 in
      (subst (λ (es : List Entry). IsShareLog k l v.from v.to es) e x.1, x.2 ∙ ap (λ (es : List Entry). count k 0 (steps_of es)) e)

  all-too : (js : List Share) (ms : List ℕ) → AllVerified js ms i o l → ((k : Share) → IsIn k js → IsShareLog k l v.from v.to v.holds.0) × (sum ms ≡ counts js 0 (steps_of v.holds.0))
  all-too [] [] a = ((λ k h. elim h [ ]), refl)
  all-too [] (n ∷ ms) a = elim a [ ]
  all-too (k ∷ js) [] a = elim a [ ]
  all-too (k ∷ js) (n ∷ ms) a =
      let r = all-too js ms a.1 in
      let s = says-too k n a.0 in
      let c : n ≡ count k 0 (steps_of v.holds.0) = s.1 in
      let d : sum ms ≡ counts js 0 (steps_of v.holds.0) = r.1 in
      let f : sum (n ∷ ms) ≡ n + sum ms = sum_by-cons (λ x. x) n ms in (
        (λ h x. elim x [
          | inl e ↦ subst (λ (t : Share). IsShareLog t l v.from v.to v.holds.0) (sym e) s.0
          | inr y ↦ r.0 h y
        ]),
        omega (arith, c, d, f),
      )

  -- the steps are a run
  runs : (js : List Share) → AreDealt js → ((k : Share) → IsIn k js → IsShareLog k l v.from v.to v.holds.0) → IsShareLog j l v.from v.to v.holds.0 → IsRunLog l v.from v.to v.holds.0
  runs js d h (inr a) = inr (record {
    hinted = a.hinted;
    is_log = a.is_log;
    run = hinted-shares-run js v.from v.to (hinted_of a.hinted) d (λ k x. hinted k (h k x));
    entries_are = a.entries_are;
  })
    where
      hinted : (k : Share) → IsShareLog k l v.from v.to v.holds.0 → HintedShareRun k v.from (hinted_of a.hinted) v.to
      hinted k (inl b) = absurd (not-both-profiles l v.holds.0 a.hinted b.is_log a.is_log)
      hinted k (inr b) = subst (λ (hs : List HintedEntry). HintedShareRun k v.from (hinted_of hs) v.to) (same_Some b.hinted a.hinted (sym b.is_log ∙ a.is_log)) b.run
  runs js d h (inl a) = inl (record { is_log = a.is_log; run = shares-run js v.from v.to (steps_of v.holds.0) d (λ k x. plain k (h k x)) })
    where
      plain : (k : Share) → IsShareLog k l v.from v.to v.holds.0 → ShareRun k v.from (steps_of v.holds.0) v.to
      plain k (inl b) = b.run
      plain k (inr b) = absurd (not-both-profiles l v.holds.0 b.hinted a.is_log b.is_log)

pub parts-verify : (js : List Share) (ms : List ℕ) (i o l : List ℕ) → AreDealt js → AllVerified js ms i o l → Checks (Verified (sum ms)) i o l
parts-verify [] ms i o l d a = absurd (let e : shares_of [] 0 ≡ 1 = d 0 in cc)
parts-verify (j ∷ js) [] i o l d a = elim a [ ]
parts-verify (j ∷ js) (m ∷ ms) i o l d a =
    let v = a.0 in
    let r = all-too i o l j m v (j ∷ js) (m ∷ ms) a in
    record {
      from = v.from;
      to = v.to;
      is_input = v.is_input;
      is_output = v.is_output;
      holds = (
        v.holds.0,
        runs i o l j m v (j ∷ js) d r.0 v.holds.1,
        r.1 ∙ (counts-sum (j ∷ js) 0 (steps_of v.holds.0) d ∙ steps_of-length v.holds.0),
      );
    }

-- and who is one of them says so too
share-log : (j : Share) (log : List ℕ) (F G : PrenexFormula) (es : List Entry) → IsRunLog log F G es → IsShareLog j log F G es
share-log j log F G es (inl a) = inl (record { is_log = a.is_log; run = run-share j F G (steps_of es) a.run })
share-log j log F G es (inr a) = inr (record { hinted = a.hinted; is_log = a.is_log; run = hinted-run-share j F G (hinted_of a.hinted) a.run; entries_are = a.entries_are })

pub verified-parts : (j : Share) (m : ℕ) (i o l : List ℕ) → Checks (Verified m) i o l → (k : ℕ) × ChecksShared j (Verified k) i o l
verified-parts j m i o l v = (
  count j 0 (steps_of v.holds.0),
  record {
    from = v.from;
    to = v.to;
    is_input = v.is_input;
    is_output = v.is_output;
    holds = (v.holds.0, share-log j l v.from v.to v.holds.0 v.holds.1, refl);
  },
)
