-- A whole log of either profile: its first token tells how it is read.
use Rattle.std.proofs.Common.{◌≡◌, ◌⊎◌, inl, inr, ◌==◌, ◌+◌, ◌∙◌, refl, sym, ap, subst, arith, ℕ, suc, Bool, true, false, List, [], ◌∷◌, ◌++◌, map, length, if◌then◌else◌, Option, Some, None}
use Rattle.std.proofs.lemmas.Bool.Decides.{nat_tests}
use Rattle.q_logic.specs.Prelude.{PrenexFormula, NumberedFormula, ProofPart, begun, plain, strip, hinted_after, standard, ValidSteps, SameFormula, Run, ProofStep, Cause, after, UndoEntry}
use Rattle.q_logic.proofs.HintedRuns.{hinted-run}
use Rattle.q_same_steps.specs.Making.{Unfit, made}
use Rattle.q_same_steps.specs.HintedMaking.{hinted_made}
use Rattle.q_shares.specs.Shares.{Share, AreMade, ShareRun, count, judged}
use Rattle.q_shares.specs.HintedShares.{AreHintedMade}
use Rattle.q_text.specs.declared.tokens.Token.{Token}
use Rattle.q_text.specs.declared.tokens.TokenKind.{TokenKind}
use Rattle.q_text.specs.declared.tokens.TokenKind.TheVariants.{Number, P, Cnf, Qrat, E, A, D, U, R, Other}
use Rattle.q_log.specs.declared.error.LogError.{LogError}
use Rattle.q_log.specs.Logs as logs
use Rattle.q_hinted.specs.Grammar.{first_profile}
use Rattle.q_hinted.specs.Logs.{Entry as BothEntry, Entries, Profile, HintedSteps, all_or_none, profile_of, tokens_within, read_entries, plain_entries, plain_entry, hinted_entry, hinted_in}
use Rattle.q_hinted.proofs.Profiles.{plain-read, no-steps, parts-read}
use Rattle.q_command.specs.Logs.{Entry, HintedEntry, steps_of, hinted_of, stripped, IsOffence, IsFirstBad}
use Rattle.q_command.specs.Checks.{IsRunLog}
use Rattle.q_command.specs.Parts.{IsFirstBadShared, IsFirstBadHintedShared, IsRefusedShared, IsShareLog, IsPlainShareWay, IsHintedShareWay, EndsElsewhereShared, LogPassesShared}
use Rattle.q_command.specs.Judging.{ArePure, Leaves, HavePassed, HaveEnded, plain_in, bare}
use Rattle.q_command.specs.Trials.{AreLike, IsWrong}
use Rattle.q_command.proofs.LogEntries.{plain_in-append, hinted_in-append, plain_in-plain, hinted_in-plain, plain_in-hinted, bare-plain, bare-hinted, stripped-steps, first-empty, not-empty}
use Rattle.q_command.proofs.BothCheckers.{plain-begun}
use Rattle.q_command.proofs.SharedHints.{Fails}

pub profile-told : (limit : ℕ) (bytes : List ℕ) → (Profile limit bytes ≡ 1) ⊎ (Profile limit bytes ≡ 2)
profile-told limit bytes = of-tokens (tokens_within limit bytes)
  where
    of-kind : (k : TokenKind) → (first_profile k ≡ 1) ⊎ (first_profile k ≡ 2)
    of-kind P = inr refl
    of-kind (Number z) = inl refl
    of-kind Cnf = inl refl
    of-kind Qrat = inl refl
    of-kind E = inl refl
    of-kind A = inl refl
    of-kind D = inl refl
    of-kind U = inl refl
    of-kind R = inl refl
    of-kind Other = inl refl

    of-tokens : (ts : List Token) → (profile_of ts ≡ 1) ⊎ (profile_of ts ≡ 2)
    of-tokens [] = inl refl
    of-tokens (t ∷ ts) = of-kind t.kind

abbrev Says : List ℕ → List BothEntry → Option LogError → Type 0
Says log es r = read_entries standard.bytes log ≡ record { entries = es; refused = r }

-- what a plain log says
record SaysPlain (log : List ℕ) (es : List BothEntry) (r : Option LogError) : Type 0 where
  all : es ≡ map plain_entry (plain_in es)
  steps : (logs.read standard.bytes log).steps ≡ plain_in es
  refused : (logs.read standard.bytes log).refused ≡ r

says-plain : (log : List ℕ) (es : List BothEntry) (r : Option LogError) → Says log es r → Profile standard.bytes log ≡ 1 → SaysPlain log es r
says-plain log es r h p =
    let e : plain_entries (logs.read standard.bytes log) ≡ record { entries = es; refused = r } = sym (plain-read standard.bytes log p) ∙ h in
    let all : map plain_entry (logs.read standard.bytes log).steps ≡ es = ap (λ (o : Entries). o.entries) e in
    let steps : (logs.read standard.bytes log).steps ≡ plain_in es = sym (plain_in-plain (logs.read standard.bytes log).steps) ∙ ap plain_in all in
    record {
      all = sym all ∙ ap (λ (ps : List Entry). map plain_entry ps) steps;
      steps = steps;
      refused = ap (λ (o : Entries). o.refused) e;
    }

says-hinted : (log : List ℕ) (es : List BothEntry) (r : Option LogError) → Says log es r → Profile standard.bytes log ≡ 2 → es ≡ map hinted_entry (hinted_in es)
says-hinted log es r h p = subst (λ (o : Entries). o.entries ≡ map hinted_entry (hinted_in o.entries)) h (parts-read standard.bytes log p)

-- all steps of a log are of one profile
pub says-pure : (log : List ℕ) (es : List BothEntry) (r : Option LogError) → Says log es r → ArePure es
says-pure log es r h = go (profile-told standard.bytes log)
  where
    go : (Profile standard.bytes log ≡ 1) ⊎ (Profile standard.bytes log ≡ 2) → ArePure es
    go (inl p) = inl (says-plain log es r h p).all
    go (inr p) = inr (says-hinted log es r h p)

-- the steps before another are of its profile
pub says-like : (log : List ℕ) (es : List BothEntry) (n : ℕ) (s : ProofStep) (x : Option ProofPart) (more : List BothEntry) (r : Option LogError) → Says log (es ++ (n, s, x) ∷ more) r → AreLike x es
says-like log es n s x more r h = go x (says-pure log (es ++ (n, s, x) ∷ more) r h)
  where
    go : (x : Option ProofPart) → ArePure (es ++ (n, s, x) ∷ more) → AreLike x es
    go None (inl q) =
        first-empty (hinted_in es) (hinted_in more) (sym (hinted_in-append es ((n, s, None) ∷ more)) ∙ (ap hinted_in q ∙ hinted_in-plain (plain_in (es ++ (n, s, None) ∷ more))))
    go None (inr q) =
        absurd (not-empty (plain_in es) (plain_in more) (n, s) (sym (plain_in-append es ((n, s, None) ∷ more)) ∙ (ap plain_in q ∙ plain_in-hinted (hinted_in (es ++ (n, s, None) ∷ more)))))
    go (Some t) (inl q) =
        absurd (not-empty (hinted_in es) (hinted_in more) (n, record { step = s; proof = t }) (sym (hinted_in-append es ((n, s, Some t) ∷ more)) ∙ (ap hinted_in q ∙ hinted_in-plain (plain_in (es ++ (n, s, Some t) ∷ more)))))
    go (Some t) (inr q) =
        first-empty (plain_in es) (plain_in more) (sym (plain_in-append es ((n, s, Some t) ∷ more)) ∙ (ap plain_in q ∙ plain_in-hinted (hinted_in (es ++ (n, s, Some t) ∷ more))))

-- a step that is not valid behind valid ones
pub bad-plain : (F : PrenexFormula) (ps : List Entry) (n : ℕ) (s : ProofStep) (more : List Entry) (r : Option LogError) (c : ℕ) (L : PrenexFormula) → ValidSteps standard F (steps_of ps) L → Cause standard L s c → IsFirstBad F (ps ++ (n, s) ∷ more) r n c
bad-plain F [] n s more r c L v w = inl (refl, subst (λ (G : PrenexFormula). Cause standard G s c) (sym v) w)
bad-plain F (p ∷ ps) n s more r c L v w = inr (v.0, bad-plain (after F p.1) ps n s more r c L v.1 w)

bad-shared : (j : Share) (k : ℕ) (F : PrenexFormula) (ps : List Entry) (n : ℕ) (s : ProofStep) (more : List Entry) (r : Option LogError) (c : ℕ) → AreMade j standard k F (steps_of ps) → judged (j (k + length ps)) (Cause standard (made F (steps_of ps)) s c) (Unfit standard (made F (steps_of ps)) s c) → IsFirstBadShared j k F (ps ++ (n, s) ∷ more) r n c
bad-shared j k F [] n s more r c v w =
    let z : k + 0 ≡ k = omega arith in
    inl (refl, subst (λ (i : ℕ). judged (j i) (Cause standard F s c) (Unfit standard F s c)) z w)
bad-shared j k F (p ∷ ps) n s more r c v w =
    let z : k + suc (length ps) ≡ (k + 1) + length ps = omega arith in
    let E : PrenexFormula = made (after F p.1) (steps_of ps) in
    inr (v.0, bad-shared j (k + 1) (after F p.1) ps n s more r c v.1 (subst (λ (i : ℕ). judged (j i) (Cause standard E s c) (Unfit standard E s c)) z w))

bad-hinted : (j : Share) (k : ℕ) (N : NumberedFormula) (hs : List HintedEntry) (n : ℕ) (s : ProofStep) (t : ProofPart) (more : List HintedEntry) (r : Option LogError) (c : ℕ) → AreHintedMade j standard k N (hinted_of hs) → Fails (j (k + length hs)) standard (hinted_made N (hinted_of hs)) s t c → IsFirstBadHintedShared j k N (hs ++ (n, record { step = s; proof = t }) ∷ more) r n c
bad-hinted j k N [] n s t more r c v w =
    let z : k + 0 ≡ k = omega arith in
    inl (refl, subst (λ (i : ℕ). Fails (j i) standard N s t c) z w)
bad-hinted j k N (h ∷ hs) n s t more r c v w =
    let z : k + suc (length hs) ≡ (k + 1) + length hs = omega arith in
    let M : NumberedFormula = hinted_made (hinted_after N h.1.step h.1.proof) (hinted_of hs) in
    inr (v.0, bad-hinted j (k + 1) (hinted_after N h.1.step h.1.proof) hs n s t more r c v.1 (subst (λ (i : ℕ). Fails (j i) standard M s t c) z w))

-- an offence behind valid steps
pub offence-plain : (F : PrenexFormula) (ps : List Entry) (r : Option LogError) (n c : ℕ) (L : PrenexFormula) → ValidSteps standard F (steps_of ps) L → IsOffence r n c → IsFirstBad F ps r n c
offence-plain F [] r n c L v o = o
offence-plain F (p ∷ ps) r n c L v o = inr (v.0, offence-plain (after F p.1) ps r n c L v.1 o)

offence-shared : (j : Share) (k : ℕ) (F : PrenexFormula) (ps : List Entry) (r : Option LogError) (n c : ℕ) → AreMade j standard k F (steps_of ps) → IsOffence r n c → IsFirstBadShared j k F ps r n c
offence-shared j k F [] r n c v o = o
offence-shared j k F (p ∷ ps) r n c v o = inr (v.0, offence-shared j (k + 1) (after F p.1) ps r n c v.1 o)

offence-hinted : (j : Share) (k : ℕ) (N : NumberedFormula) (hs : List HintedEntry) (r : Option LogError) (n c : ℕ) → AreHintedMade j standard k N (hinted_of hs) → IsOffence r n c → IsFirstBadHintedShared j k N hs r n c
offence-hinted j k N [] r n c v o = o
offence-hinted j k N (h ∷ hs) r n c v o = inr (v.0, offence-hinted j (k + 1) (hinted_after N h.1.step h.1.proof) hs r n c v.1 o)

-- the log is refused at the step
pub refused-at : (j : Share) (F : PrenexFormula) (log : List ℕ) (es : List BothEntry) (n : ℕ) (s : ProofStep) (x : Option ProofPart) (more : List BothEntry) (r : Option LogError) (c : ℕ) → Says log (es ++ (n, s, x) ∷ more) r → IsWrong j F es s x c → IsRefusedShared j F log n c
refused-at j F log es n s x more r c h w = go (profile-told standard.bytes log) x h w
  where
    go : (Profile standard.bytes log ≡ 1) ⊎ (Profile standard.bytes log ≡ 2) → (x : Option ProofPart) → Says log (es ++ (n, s, x) ∷ more) r → IsWrong j F es s x c → IsRefusedShared j F log n c
    go (inl p) None h w =
        let a = says-plain log (es ++ (n, s, None) ∷ more) r h p in
        let e : (logs.read standard.bytes log).steps ≡ plain_in es ++ (n, s) ∷ plain_in more = a.steps ∙ plain_in-append es ((n, s, None) ∷ more) in
        let t : length (plain_in es) ≡ 0 + length (plain_in es) = omega arith in
        let E : PrenexFormula = made F (steps_of (plain_in es)) in
        inl (
          p,
          subst (λ (ps : List Entry). IsFirstBadShared j 0 F ps (logs.read standard.bytes log).refused n c) (sym e)
              (bad-shared j 0 F (plain_in es) n s (plain_in more) (logs.read standard.bytes log).refused c w.steps (subst (λ (i : ℕ). judged (j i) (Cause standard E s c) (Unfit standard E s c)) t w.cause)),
        )
    go (inl p) (Some t) h w =
        let a = says-plain log (es ++ (n, s, Some t) ∷ more) r h p in
        let e : hinted_in es ++ (n, record { step = s; proof = t }) ∷ hinted_in more ≡ [] = sym (hinted_in-append es ((n, s, Some t) ∷ more)) ∙ (ap hinted_in a.all ∙ hinted_in-plain (plain_in (es ++ (n, s, Some t) ∷ more))) in
        absurd (not-empty (hinted_in es) (hinted_in more) (n, record { step = s; proof = t }) e)
    go (inr p) None h w =
        let a = says-hinted log (es ++ (n, s, None) ∷ more) r h p in
        let e : plain_in es ++ (n, s) ∷ plain_in more ≡ [] = sym (plain_in-append es ((n, s, None) ∷ more)) ∙ (ap plain_in a ∙ plain_in-hinted (hinted_in (es ++ (n, s, None) ∷ more))) in
        absurd (not-empty (plain_in es) (plain_in more) (n, s) e)
    go (inr p) (Some t) h w =
        let e : hinted_in (read_entries standard.bytes log).entries ≡ hinted_in es ++ (n, record { step = s; proof = t }) ∷ hinted_in more = ap (λ (o : Entries). hinted_in o.entries) h ∙ hinted_in-append es ((n, s, Some t) ∷ more) in
        let z : length (hinted_in es) ≡ 0 + length (hinted_in es) = omega arith in
        let M : NumberedFormula = hinted_made (begun F) (hinted_of (hinted_in es)) in
        inr (
          p,
          subst (λ (hs : List HintedEntry). IsFirstBadHintedShared j 0 (begun F) hs (read_entries standard.bytes log).refused n c) (sym e)
              (bad-hinted j 0 (begun F) (hinted_in es) n s t (hinted_in more) (read_entries standard.bytes log).refused c w.steps (subst (λ (i : ℕ). Fails (j i) standard M s t c) z w.cause)),
        )

-- the log is refused behind its steps
pub offends-at : (j : Share) (F : PrenexFormula) (log : List ℕ) (es : List BothEntry) (r : Option LogError) (n c : ℕ) → Says log es r → AreMade j standard 0 F (steps_of (plain_in es)) → AreHintedMade j standard 0 (begun F) (hinted_of (hinted_in es)) → IsOffence r n c → IsRefusedShared j F log n c
offends-at j F log es r n c h v w o = go (profile-told standard.bytes log)
  where
    go : (Profile standard.bytes log ≡ 1) ⊎ (Profile standard.bytes log ≡ 2) → IsRefusedShared j F log n c
    go (inl p) =
        let a = says-plain log es r h p in
        inl (p, subst (λ (x : Option LogError). IsFirstBadShared j 0 F (logs.read standard.bytes log).steps x n c) (sym a.refused) (subst (λ (ps : List Entry). IsFirstBadShared j 0 F ps r n c) (sym a.steps) (offence-shared j 0 F (plain_in es) r n c v o)))
    go (inr p) = inr (p, subst (λ (x : Entries). IsFirstBadHintedShared j 0 (begun F) (hinted_in x.entries) x.refused n c) (sym h) (offence-hinted j 0 (begun F) (hinted_in es) r n c w o))

-- the steps of a whole log
is-plain-log : (log : List ℕ) (es : List BothEntry) → Says log es None → Profile standard.bytes log ≡ 1 → logs.Steps standard.bytes log ≡ Some (plain_in es)
is-plain-log log es h p =
    let a = says-plain log es None h p in
    ap (λ (x : Option LogError). logs.all_or_none x (logs.read standard.bytes log).steps) a.refused ∙ ap (λ (ps : List Entry). Some ps) a.steps

is-hinted-log : (log : List ℕ) (es : List BothEntry) → Says log es None → Profile standard.bytes log ≡ 2 → HintedSteps standard.bytes log ≡ Some (hinted_in es)
is-hinted-log log es h p =
    ap (λ (k : ℕ). if k == 2 then all_or_none (read_entries standard.bytes log).refused (hinted_in (read_entries standard.bytes log).entries) else None) p
    ∙ ap (λ (o : Entries). all_or_none o.refused (hinted_in o.entries)) h

bare-plain-all : (es : List BothEntry) → es ≡ map plain_entry (plain_in es) → bare es ≡ plain_in es
bare-plain-all es q = ap bare q ∙ bare-plain (plain_in es)

bare-hinted-all : (es : List BothEntry) → es ≡ map hinted_entry (hinted_in es) → bare es ≡ stripped (hinted_in es)
bare-hinted-all es q = ap bare q ∙ bare-hinted (hinted_in es)

-- where there are neither plain steps nor others, no step was taken
record LeavesMade (j : Share) (F : PrenexFormula) (es : List BothEntry) (L : PrenexFormula) : Type 0 where
  steps : AreMade j standard 0 F (steps_of (plain_in es))
  last_is : L ≡ made F (steps_of (plain_in es))

leaves-plain : (j : Share) (F : PrenexFormula) (es : List BothEntry) (L : PrenexFormula) → es ≡ map plain_entry (plain_in es) → Leaves j F es L → LeavesMade j F es L
leaves-plain j F es L q (inl a) = record { steps = a.steps; last_is = a.last_is }
leaves-plain j F es L q (inr a) =
    let none : hinted_in es ≡ [] = ap hinted_in q ∙ hinted_in-plain (plain_in es) in
    let zero : plain_in es ≡ [] = ap plain_in a.all ∙ plain_in-hinted (hinted_in es) in
    let same : L ≡ plain (begun F) = subst (λ (hs : List HintedEntry). L ≡ plain (hinted_made (begun F) (hinted_of hs))) none a.last_is in
    let e : L ≡ F = same ∙ plain-begun F in
    record {
      steps = subst (λ (ps : List Entry). AreMade j standard 0 F (steps_of ps)) (sym zero) tt;
      last_is = subst (λ (ps : List Entry). L ≡ made F (steps_of ps)) (sym zero) e;
    }

record LeavesNumbered (j : Share) (F : PrenexFormula) (es : List BothEntry) (L : PrenexFormula) : Type 0 where
  steps : AreHintedMade j standard 0 (begun F) (hinted_of (hinted_in es))
  last_is : L ≡ plain (hinted_made (begun F) (hinted_of (hinted_in es)))

leaves-hinted : (j : Share) (F : PrenexFormula) (es : List BothEntry) (L : PrenexFormula) → es ≡ map hinted_entry (hinted_in es) → Leaves j F es L → LeavesNumbered j F es L
leaves-hinted j F es L q (inr a) = record { steps = a.steps; last_is = a.last_is }
leaves-hinted j F es L q (inl a) =
    let zero : plain_in es ≡ [] = ap plain_in q ∙ plain_in-hinted (hinted_in es) in
    let none : hinted_in es ≡ [] = ap hinted_in a.all ∙ hinted_in-plain (plain_in es) in
    let same : L ≡ F = subst (λ (ps : List Entry). L ≡ made F (steps_of ps)) zero a.last_is in
    record {
      steps = subst (λ (hs : List HintedEntry). AreHintedMade j standard 0 (begun F) (hinted_of hs)) (sym none) tt;
      last_is = subst (λ (hs : List HintedEntry). L ≡ plain (hinted_made (begun F) (hinted_of hs))) (sym none) (same ∙ sym (plain-begun F));
    }

-- the log leads to the output
pub passes-whole : (keep : Bool) (j : Share) (F G : PrenexFormula) (log : List ℕ) (es : List BothEntry) (us : List UndoEntry) → Says log es None → HavePassed keep j F es G us → (n : ℕ) → n ≡ count j 0 (steps_of (bare es)) → (p : LogPassesShared j keep log F G n us) × (p.entries ≡ bare es)
passes-whole keep j F G log es us h w n k = (record { entries = bare es; leads = go (profile-told standard.bytes log); counted = k; undone = w.undone }, refl)
  where
    go : (Profile standard.bytes log ≡ 1) ⊎ (Profile standard.bytes log ≡ 2) → IsShareLog j log F G (bare es)
    go (inl p) =
        let q = (says-plain log es None h p).all in
        let b = bare-plain-all es q in
        let l = leaves-plain j F es w.last q w.leaves in
        inl (record {
          is_log = is-plain-log log es h p ∙ ap (λ (ps : List Entry). Some ps) (sym b);
          run = subst (λ (ps : List Entry). ShareRun j F (steps_of ps) G) (sym b) (record {
            steps = l.steps;
            same = subst (λ (L : PrenexFormula). SameFormula L G) l.last_is w.same;
          });
        })
    go (inr p) =
        let q = says-hinted log es None h p in
        let l = leaves-hinted j F es w.last q w.leaves in
        inr (record {
          hinted = hinted_in es;
          is_log = is-hinted-log log es h p;
          run = record {
            steps = l.steps;
            same = subst (λ (L : PrenexFormula). SameFormula L G) l.last_is w.same;
          };
          entries_are = bare-hinted-all es q;
        })

-- the log leads elsewhere
pub ends-whole : (j : Share) (F G : PrenexFormula) (log : List ℕ) (es : List BothEntry) (c : ℕ) → Says log es None → HaveEnded j F es G c → EndsElsewhereShared j log F G c
ends-whole j F G log es c h w = record { last = w.last; way = go (profile-told standard.bytes log); apart = w.apart }
  where
    go : (Profile standard.bytes log ≡ 1) ⊎ (Profile standard.bytes log ≡ 2) → IsPlainShareWay j log F w.last ⊎ IsHintedShareWay j log F w.last
    go (inl p) =
        let q = (says-plain log es None h p).all in
        let l = leaves-plain j F es w.last q w.leaves in
        inl (record { entries = plain_in es; is_log = is-plain-log log es h p; steps = l.steps; last_is = l.last_is })
    go (inr p) =
        let q = says-hinted log es None h p in
        let l = leaves-hinted j F es w.last q w.leaves in
        inr (record { hinted = hinted_in es; is_log = is-hinted-log log es h p; steps = l.steps; last_is = l.last_is })

-- a log of hints has the second profile
pub record IsSecond (log : List ℕ) (hs : List HintedEntry) : Type 0 where
  pub profile : Profile standard.bytes log ≡ 2
  pub refused : (read_entries standard.bytes log).refused ≡ None
  pub hinted : hinted_in (read_entries standard.bytes log).entries ≡ hs

pub second : (log : List ℕ) (hs : List HintedEntry) → HintedSteps standard.bytes log ≡ Some hs → IsSecond log hs
second log hs e = go (Profile standard.bytes log == 2) refl e
  where
    whole : (r : Option LogError) (xs : List HintedEntry) → all_or_none r xs ≡ Some hs → (r ≡ None) × (xs ≡ hs)
    whole None xs h = (refl, cc)
    whole (Some x) xs h = absurd (cc)

    go : (b : Bool) → (Profile standard.bytes log == 2) ≡ b → (if b then all_or_none (read_entries standard.bytes log).refused (hinted_in (read_entries standard.bytes log).entries) else None) ≡ Some hs → IsSecond log hs
    go true f g =
        let w = whole (read_entries standard.bytes log).refused (hinted_in (read_entries standard.bytes log).entries) g in
        record { profile = grind (arith, nat_tests, f); refused = w.0; hinted = w.1 }
    go false f g = absurd (cc)

-- no log has both profiles
pub not-both-profiles : (log : List ℕ) (es : List Entry) (hs : List HintedEntry) → logs.Steps standard.bytes log ≡ Some es → HintedSteps standard.bytes log ≡ Some hs → ⊥
not-both-profiles log es hs e h =
    let n : logs.Steps standard.bytes log ≡ None = no-steps standard.bytes log (second log hs h).profile in
    let w : Some es ≡ None = sym e ∙ n in
    cc

-- a log of either profile has one list of steps
pub one_log : (log : List ℕ) (F G H K : PrenexFormula) (es fs : List Entry) → IsRunLog log F G es → IsRunLog log H K fs → es ≡ fs
one_log log F G H K es fs (inl a) (inl b) = let e : Some es ≡ Some fs = sym a.is_log ∙ b.is_log in cc
one_log log F G H K es fs (inl a) (inr b) = absurd (not-both-profiles log es b.hinted a.is_log b.is_log)
one_log log F G H K es fs (inr a) (inl b) = absurd (not-both-profiles log fs a.hinted b.is_log a.is_log)
one_log log F G H K es fs (inr a) (inr b) =
    let e : Some a.hinted ≡ Some b.hinted = sym a.is_log ∙ b.is_log in
    let h : a.hinted ≡ b.hinted = cc in
    a.entries_are ∙ (ap stripped h ∙ sym b.entries_are)

-- a run with hints is one without them
pub run_of : (log : List ℕ) (F G : PrenexFormula) (es : List Entry) → IsRunLog log F G es → Run F (steps_of es) G
run_of log F G es (inl a) = a.run
run_of log F G es (inr a) =
    let e : steps_of es ≡ strip (hinted_of a.hinted) = ap steps_of a.entries_are ∙ stripped-steps a.hinted in
    subst (λ (ss : List ProofStep). Run F ss G) (sym e) (hinted-run F G (hinted_of a.hinted) a.run)
