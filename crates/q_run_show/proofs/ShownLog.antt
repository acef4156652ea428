-- What `annotate` of a refutation wrote as a whole is read back as the same steps with the same proof parts, and refutes by these.
use Rattle.std.proofs.Common.{◌≡◌, ◌≢◌, ◌≤◌, ◌↔◌, ◌+◌, ◌==◌, ◌∙◌, refl, sym, ap, subst, arith, ℕ, Bool, true, false, if◌then◌else◌, List, [], ◌∷◌, ◌++◌, append-nil, length, Option, Some, None, unwrap_or}
use Rattle.std.proofs.lemmas.Option.{same_Some}
use Rattle.q_logic.specs.Prelude.{PrenexFormula, NumberedFormula, Hinted, ProofStep, begun, hinted_after, strip, standard}
use Rattle.q_io.specs.Files.{Disk, HoldsBytes, bytes_at}
use Rattle.q_log.specs.declared.error.LogError.{LogError}
use Rattle.q_log.specs.Logs.{Parsed}
use Rattle.q_hinted.specs.Logs.{Profile, all_or_none, hinted_in, read_entries}
use Rattle.q_hinted.specs.Texts.{header_text, log_text, on_lines}
use Rattle.q_hinted.proofs.HintedRoundTrip.{hinted-reread}
use Rattle.q_shares.specs.Shares.{Share, judged}
use Rattle.q_refutation.proofs.Refusing.{number-refutes}
use Rattle.q_refutation.proofs.SharedRefuting.{refutes-shared, shared-number, whole-in}
use Rattle.q_shown.specs.HintedRefutations.{AreHintedMadeUnlost, HintedRefutedIn}
use Rattle.q_shown.proofs.HintedFront.{hinted-refuted_behind}
use Rattle.q_shown.proofs.HintedRefuting.{number-hinted}
use Rattle.q_command.specs.Checks.{IsFileOf}
use Rattle.q_command.specs.Logs.{HintedEntry, hinted_of, steps_of}
use Rattle.q_command.specs.Parts.{IsWhole}
use Rattle.q_command.proofs.SharedSteps.{whole-count}
use Rattle.q_run_annotate.specs.AnnotatedShares.{lines_in}
use Rattle.q_run_disprove.specs.Disproofs.{DisproveFiles, IsRefutation, OfFiles, SaysOf, proof_of}
use Rattle.q_run_disprove.specs.HintedDisproofs.{HintedSays, Tells, TellsFiles, hinted_proof, is_hinted, offence_in}
use Rattle.q_run_disprove.specs.SharedDisproofs.{IsShareDisproof}
use Rattle.q_run_disprove.specs.declared.disproved.Disproved.TheVariants as disproved
use Rattle.q_run_show.specs.ShownShares.{AreHintedTaken, HintedMayBeTaken, IsShareShown, IsShownText}
use Rattle.q_run_show.specs.Shows.{HoldsShown, ShowFiles}
use Rattle.q_run_show.proofs.LentLemmas.{hinted-on_lines, length-strip, whole-header, whole-lines, whole-writable, written}

module _ (j : Share) (w : IsWhole j) where
  -- a part that is the whole is due where `disprove` says false
  pub whole-due : (n : DisproveFiles) (binary : Bool) (disk : Disk) → IsShareDisproof j n binary disk ↔ OfFiles n binary disk IsRefutation
  whole-due n binary disk = (
    (λ p.
        let ss : List ProofStep = steps_of (proof_of binary (bytes_at disk n.proof)).steps in
        let k = shared-number j standard 0 p.formula ss p.holds in
        record { formula = p.formula; is_input = p.is_input; holds = number-refutes false standard p.formula ss k.0 (whole-in j w standard 0 p.formula ss k.0 k.1) }),
    (λ p. record {
      formula = p.formula;
      is_input = p.is_input;
      holds = refutes-shared j standard 0 p.formula (steps_of (proof_of binary (bytes_at disk n.proof)).steps) p.holds;
    }),
  )

  whole-taken : (k : ℕ) (N E : NumberedFormula) (hs : List Hinted) → AreHintedTaken j k N hs E → AreHintedMadeUnlost standard N hs E
  whole-taken k N E [] e = e
  whole-taken k N E (h ∷ hs) (u, v, r) =
      (u, subst (λ (b : Bool). HintedMayBeTaken b N h.step h.proof) (w k) v, whole-taken (k + 1) (hinted_after N h.step h.proof) E hs r)

  pub whole-text : (steps : ℕ) (text : List ℕ) (F : PrenexFormula) (p : Parsed) → IsShareShown j steps text F p → IsShownText F (steps_of p.steps) steps text
  whole-text steps text F p h =
      let t = h.hinted in
      let hs : List Hinted = t.hinted in
      let made : AreHintedMadeUnlost standard (begun F) hs t.last = whole-taken 0 (begun F) t.last hs t.taken in
      let many : length hs + 0 ≡ steps = omega (arith, length-strip hs, whole-count j 0 (strip hs) w, h.counted) in
      let behind : HintedRefutedIn standard (begun F) (hs ++ []) (length hs + 0) = hinted-refuted_behind standard (begun F) t.last hs [] 0 made (t.lost, refl) in
      let number : HintedRefutedIn standard (begun F) hs steps =
      subst (λ (k : ℕ). HintedRefutedIn standard (begun F) hs k) many
      (subst (λ (xs : List Hinted). HintedRefutedIn standard (begun F) xs (length hs + 0)) (append-nil hs) behind) in
      record {
        hinted = hs;
        refutes = number-hinted standard (begun F) hs steps number;
        number = number;
        rest = t.rest;
        front = t.front;
        logged = t.logged;
        parts = whole-writable j w 0 hs t.parts;
        text_is = t.text_is ∙ (ap (λ (front : List ℕ). front ++ lines_in j 0 hs) (whole-header j w) ∙ ap (λ (lines : List ℕ). header_text ++ lines) (whole-lines j w 0 hs));
      }

-- what a log with hints says
record IsRead (b : Bool) (r : Option LogError) (xs hs : List HintedEntry) : Type 0 where
  by_hints : b ≡ true
  quiet : r ≡ None
  steps : xs ≡ hs

all-read : (b : Bool) (r : Option LogError) (xs hs : List HintedEntry) → (if b then all_or_none r xs else None) ≡ Some hs → IsRead b r xs hs
all-read true None xs hs e = record { by_hints = refl; quiet = refl; steps = same_Some xs hs e }
all-read true (Some x) xs hs e = cc
all-read false r xs hs e = cc

module _ (F : PrenexFormula) (ss : List ProofStep) (steps : ℕ) (text : List ℕ) (t : IsShownText F ss steps text) (short : length text ≤ 1099511627776) where
  is-read : IsRead (Profile standard.bytes (log_text t.hinted) == 2) (read_entries standard.bytes (log_text t.hinted)).refused (hinted_in (read_entries standard.bytes (log_text t.hinted)).entries) (on_lines 2 t.hinted)
  is-read =
      let small : length (log_text t.hinted) ≤ 1099511627776 = subst (λ (xs : List ℕ). length xs ≤ 1099511627776) t.text_is short in
      all-read (Profile standard.bytes (log_text t.hinted) == 2) (read_entries standard.bytes (log_text t.hinted)).refused (hinted_in (read_entries standard.bytes (log_text t.hinted)).entries) (on_lines 2 t.hinted)
      (hinted-reread 1099511627776 t.hinted (written t.hinted t.logged t.parts) small)

  by-hints : is_hinted false (log_text t.hinted) ≡ true
  by-hints = let r = is-read in r.by_hints

  pub text-hinted : is_hinted false text ≡ true
  text-hinted = subst (λ (xs : List ℕ). is_hinted false xs ≡ true) (sym t.text_is) by-hints

  tells : Tells (disproved.False steps) false (log_text t.hinted) F
  tells =
      let r = is-read in
      let bytes : List ℕ = log_text t.hinted in
      let number : HintedRefutedIn standard (begun F) (hinted_of (on_lines 2 t.hinted)) steps =
      subst (λ (hs : List Hinted). HintedRefutedIn standard (begun F) hs steps) (sym (hinted-on_lines 2 t.hinted)) t.number in
      let says : HintedSays (disproved.False steps) F (hinted_proof false bytes) (offence_in false bytes) =
      subst (λ (xs : List HintedEntry). HintedRefutedIn standard (begun F) (hinted_of xs) steps) (sym r.steps) number in
      subst (λ (b : Bool). judged b (HintedSays (disproved.False steps) F (hinted_proof false bytes) (offence_in false bytes)) (SaysOf (disproved.False steps) F (proof_of false bytes))) (sym by-hints) says

  pub text-tells : Tells (disproved.False steps) false text F
  text-tells = subst (λ (xs : List ℕ). Tells (disproved.False steps) false xs F) (sym t.text_is) tells

-- HINTED holds the text
holds-text : (name text : List ℕ) (before after : Disk) (put : HoldsBytes name text before (Some after)) → bytes_at after name ≡ text
holds-text name text before after put =
    let d : put.disk ≡ after = cc in
    ap (λ (x : Disk). bytes_at x name) (sym d) ∙ ap (λ b. unwrap_or b []) put.bytes

same-file : (name other text : List ℕ) (before after : Disk) (put : HoldsBytes name text before (Some after)) → name ≢ other → bytes_at after other ≡ bytes_at before other
same-file name other text before after put a =
    let d : put.disk ≡ after = cc in
    ap (λ (x : Disk). bytes_at x other) (sym d) ∙ ap (λ b. unwrap_or b []) (put.others other (λ e. a (sym e)))

module _ (j : Share) (w : IsWhole j) (n : ShowFiles) (steps : ℕ) (binary : Bool) (before after : Disk) (h : HoldsShown j steps n binary before (Some after)) (short : length (bytes_at after n.hinted) ≤ 1099511627776) where
  text-is : bytes_at after n.hinted ≡ h.text
  text-is = holds-text n.hinted h.text before after h.holds

  small : length h.text ≤ 1099511627776
  small = subst (λ (xs : List ℕ). length xs ≤ 1099511627776) text-is short

  pub left-hinted : is_hinted false (bytes_at after n.hinted) ≡ true
  left-hinted =
      let s = h.shown in
      subst (λ (xs : List ℕ). is_hinted false xs ≡ true) (sym text-is)
      (text-hinted s.formula (steps_of (proof_of binary (bytes_at before n.proof)).steps) steps h.text (whole-text j w steps h.text s.formula (proof_of binary (bytes_at before n.proof)) s.holds) small)

  pub left-accepted : n.hinted ≢ n.input → TellsFiles (disproved.False steps) (record { input = n.input; proof = n.hinted }) false after
  left-accepted a =
      let s = h.shown in
      record {
        formula = s.formula;
        is_input = subst (λ (xs : List ℕ). IsFileOf xs s.formula) (sym (same-file n.hinted n.input h.text before after h.holds a)) s.is_input;
        holds = subst (λ (xs : List ℕ). Tells (disproved.False steps) false xs s.formula) (sym text-is)
            (text-tells s.formula (steps_of (proof_of binary (bytes_at before n.proof)).steps) steps h.text (whole-text j w steps h.text s.formula (proof_of binary (bytes_at before n.proof)) s.holds) small);
      }
