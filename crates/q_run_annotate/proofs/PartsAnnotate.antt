-- All parts of `annotate` are written where the whole is.
use Rattle.std.proofs.Common.{◌≡◌, ◌≤◌, ◌↔◌, ◌∙◌, sym, subst, arith, ℕ, List}
use Rattle.std.proofs.lemmas.Option.{same_Some}
use Rattle.q_logic.specs.Prelude.{IsIn}
use Rattle.q_shares.specs.Shares.{Share, AreDealt, ShareRun, shares_of}
use Rattle.q_shares.proofs.SharedRuns.{finds, run-share, shares-run}
use Rattle.q_command.specs.Logs.{Entry, steps_of}
use Rattle.q_command.proofs.CheckStatus.{carried}
use Rattle.q_run_annotate.specs.Annotates.{IsPlainVerified}
use Rattle.q_run_annotate.specs.AnnotatedParts.{IsShareVerified}

abbrev All : List Share → List ℕ → List ℕ → List ℕ → Type 0
All js i o l = (j : Share) → IsIn j js → IsShareVerified j i o l

module _ (js : List Share) (d : AreDealt js) (i o l : List ℕ) where
  all-verified : All js i o l → IsPlainVerified i o l
  all-verified a =
      let some : 1 ≤ shares_of js 0 = (let e : shares_of js 0 ≡ 1 = d 0 in omega (arith, e)) in
      let first = finds js 0 some in
      let v = a first.0 first.1 in
      let es : List Entry = v.holds.0 in
      let run : (j : Share) → IsIn j js → ShareRun j v.from (steps_of es) v.to = λ j n.
      let x = carried i o _ _ v (a j n) in
      let same : x.0 ≡ es = same_Some x.0 es (sym x.1.is_log ∙ v.holds.1.is_log) in
      subst (λ (xs : List Entry). ShareRun j v.from (steps_of xs) v.to) same x.1.run in
      record {
        from = v.from;
        to = v.to;
        is_input = v.is_input;
        is_output = v.is_output;
        holds = (es, record { is_log = v.holds.1.is_log; run = shares-run js v.from v.to (steps_of es) d run });
      }

  each-verified : IsPlainVerified i o l → All js i o l
  each-verified v j n = record {
    from = v.from;
    to = v.to;
    is_input = v.is_input;
    is_output = v.is_output;
    holds = (v.holds.0, record { is_log = v.holds.1.is_log; run = run-share j v.from v.to (steps_of v.holds.0) v.holds.1.run });
  }

  pub parts-annotate : All js i o l ↔ IsPlainVerified i o l
  parts-annotate = (all-verified, each-verified)
