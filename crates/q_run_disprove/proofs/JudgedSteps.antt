-- A proof whose first step tells who judges it, and what is told of it then.
use Rattle.std.proofs.Common.{◌≡◌, ◌⊎◌, ◌∙◌, ◌+◌, ◌==◌, ◌&&◌, not, refl, sym, ap, subst, arith, ℕ, Bool, true, false, List, [], ◌∷◌, ◌++◌, map, if◌then◌else◌, is_some, append_assoc, Option, Some, None, inl, inr}
use Rattle.std.proofs.lemmas.Bool.Decides.{nat_tests}
use Rattle.q_logic.specs.Prelude.{PrenexFormula, ProofPart, begun, plain, standard}
use Rattle.q_text.specs.declared.tokens.Token.{Token}
use Rattle.q_text.specs.declared.tokens.TokenKind.{TokenKind}
use Rattle.q_text.specs.declared.tokens.TokenKind.TheVariants.{Number, P, Cnf, Qrat, E, A, D, U, R, Other}
use Rattle.q_log.specs.declared.error.LogError.{LogError}
use Rattle.q_log.specs.declared.error.LogError.TheVariants as log
use Rattle.q_log.specs.Logs.{Parsed}
use Rattle.q_log.specs.Logs as logs
use Rattle.q_hinted.specs.Grammar.{first_profile}
use Rattle.q_hinted.specs.Logs.{Entry as BothEntry, Entries, Profile, behind, finished, hinted_entry, hinted_in, if_hinted, onto, plain_entries, plain_entry, profile_of, read_entries, stopped, tokens_within}
use Rattle.q_hinted.proofs.Profiles.{parts-read, plain-read}
use Rattle.q_binary.specs.BinaryProofs as binary
use Rattle.q_binary.specs.Forms.{is_binary}
use Rattle.q_shares.specs.Shares.{Share, judged}
use Rattle.q_refutation.specs.Refutations.{IsLost}
use Rattle.q_shown.specs.HintedRefutations.{HintedRefutedIn}
use Rattle.q_refutation.proofs.FirstEmpty.{alike_lost}
use Rattle.q_shown.proofs.HintedFront.{hinted-refuted_now}
use Rattle.q_command.specs.Judging.{bare}
use Rattle.q_command.specs.Logs.{Entry, HintedEntry, IsOffence, hinted_of}
use Rattle.q_command.specs.Parts.{share_of}
use Rattle.q_command.specs.declared.part.Part.{Part}
use Rattle.q_command.proofs.LogEntries.{bare-append, hinted_in-append, hinted_in-hinted}
use Rattle.q_run_disprove.specs.Disproofs.{bare_of, entries_in, proof_of}
use Rattle.q_run_disprove.specs.SharedDisproofs.{SaysShared}
use Rattle.q_run_disprove.specs.HintedDisproofs.{HintedSays, hinted_proof, is_hinted, offence_in}
use Rattle.q_run_disprove.specs.HintedReadings.{HintConvicts, IsHintBegun, IsHintSoFar, IsHintUnderWay}
use Rattle.q_run_disprove.specs.Judges.{EndsBy, Fails, FailsAt, FailsHinted, GoesOn, HasHinted, IsJudging, Opened, Takes, steps_in}
use Rattle.q_run_disprove.specs.JudgedReadings.{AreJudged, SaysOfBytes, StartsPlain, by_hints}
use Rattle.q_run_disprove.specs.Notes.{AreLast, IfFalse}
use Rattle.q_run_disprove.specs.Readings.{Convicts, IsBegun, IsSoFar, IsUnderWay, SaysAtOnce, SaysWith, TellsAtOnce, log_refused}
use Rattle.q_run_disprove.specs.declared.disproved.Disproved.{Disproved}
use Rattle.q_run_disprove.specs.declared.disproved.Disproved.TheVariants as outcome
use Rattle.q_run_disprove.specs.declared.form.Form.{Form}
use Rattle.q_run_disprove.specs.declared.hint_refuter.HintRefuter.{HintRefuter}
use Rattle.q_run_disprove.specs.declared.judge.Judge.{Judge}
use Rattle.q_run_disprove.specs.declared.judge.Judge.TheVariants as judge
use Rattle.q_run_disprove.specs.declared.refuter.Refuter.{Refuter}
use Rattle.q_run_disprove.specs.declared.verdict.Verdict.{Verdict}
use Rattle.q_run_disprove.proofs.DisproofSteps.{at-once, begins, end-says, goes-on, offence-says, step-says}
use Rattle.q_run_disprove.proofs.HintedSteps.{hint-begins, hint-goes_on, hint-none, hint-nowhere, hint-says, lost-begun}

-- a judge that is told goes on as it was
pub opened-judging : (h : Bool) (old k : Judge) → Opened h old k → IsJudging old → IsJudging k
opened-judging h (judge.Open a F p) (judge.Open b G q) o u = absurd o
opened-judging h (judge.Open a F p) (judge.Plain t) o u = o.1.under_way
opened-judging h (judge.Open a F p) (judge.Hinted t) o u = o.1.under_way
opened-judging h (judge.Plain t) k o u = subst IsJudging (sym o) u
opened-judging h (judge.Hinted t) k o u = subst IsJudging (sym o) u

pub opened-steps : (h : Bool) (old k : Judge) → Opened h old k → steps_in k ≡ steps_in old
opened-steps h (judge.Open a F p) (judge.Open b G q) o = absurd o
opened-steps h (judge.Open a F p) (judge.Plain t) o = o.1.none
opened-steps h (judge.Open a F p) (judge.Hinted t) o = o.1.none
opened-steps h (judge.Plain t) k o = ap steps_in o
opened-steps h (judge.Hinted t) k o = ap steps_in o

takes-judging : (e : BothEntry) (old new : Judge) → Takes e old new → IsJudging new
takes-judging e (judge.Open a F p) k g = absurd g
takes-judging e (judge.Plain t) (judge.Open a F p) g = absurd g
takes-judging e (judge.Plain t) (judge.Plain u) g = g.under_way
takes-judging e (judge.Plain t) (judge.Hinted u) g = absurd g
takes-judging e (judge.Hinted t) (judge.Open a F p) g = absurd g
takes-judging e (judge.Hinted t) (judge.Plain u) g = absurd g
takes-judging e (judge.Hinted t) (judge.Hinted u) (x, q, g) = g.under_way

takes-steps : (e : BothEntry) (old new : Judge) → Takes e old new → steps_in new ≡ steps_in old + 1
takes-steps e (judge.Open a F p) k g = absurd g
takes-steps e (judge.Plain t) (judge.Open a F p) g = absurd g
takes-steps e (judge.Plain t) (judge.Plain u) g = g.steps
takes-steps e (judge.Plain t) (judge.Hinted u) g = absurd g
takes-steps e (judge.Hinted t) (judge.Open a F p) g = absurd g
takes-steps e (judge.Hinted t) (judge.Plain u) g = absurd g
takes-steps e (judge.Hinted t) (judge.Hinted u) (x, q, g) = g.steps

pub goes-judging : (e : BothEntry) (old new : Judge) → GoesOn e old new → IsJudging new
goes-judging e old new (k, o, g) = takes-judging e k new g

pub goes-steps : (e : BothEntry) (old new : Judge) → GoesOn e old new → steps_in new ≡ steps_in old + 1
goes-steps e old new (k, o, g) = takes-steps e k new g ∙ ap (λ (n : ℕ). n + 1) (opened-steps (is_some e.2) old k o)

-- whether a proof has hints

both-true : (a b : Bool) → (a && b) ≡ true → (a ≡ true) × (b ≡ true)
both-true true b h = (refl, h)
both-true false b h = cc

not-true : (a : Bool) → not a ≡ true → a ≡ false
not-true true h = cc
not-true false h = refl

pub either-profile : (ts : List Token) → (profile_of ts ≡ 1) ⊎ (profile_of ts ≡ 2)
either-profile [] = inl refl
either-profile (t ∷ ts) = go t.kind
  where
    go : (k : TokenKind) → (first_profile k ≡ 1) ⊎ (first_profile k ≡ 2)
    go P = inr refl
    go (Number z) = inl refl
    go Cnf = inl refl
    go Qrat = inl refl
    go E = inl refl
    go A = inl refl
    go D = inl refl
    go U = inl refl
    go R = inl refl
    go Other = inl refl

-- all steps have proof parts, or none has one
pub hinted-entries : (b : Bool) (bytes : List ℕ) → is_hinted b bytes ≡ true → (entries_in b bytes).entries ≡ map hinted_entry (hinted_proof b bytes)
hinted-entries b bytes h =
    let x = both-true (not (is_binary b bytes)) (Profile standard.bytes bytes == 2) h in
    let p : Profile standard.bytes bytes ≡ 2 = (let q = x.1 in grind (arith, nat_tests)) in
    go (is_binary b bytes) (not-true (is_binary b bytes) x.0) (parts-read standard.bytes bytes p)
  where
    go : (y : Bool) → y ≡ false → (read_entries standard.bytes bytes).entries ≡ map hinted_entry (hinted_in (read_entries standard.bytes bytes).entries) →
        (if y then plain_entries (binary.read standard.bytes bytes) else read_entries standard.bytes bytes).entries ≡
        map hinted_entry (hinted_in (if y then plain_entries (binary.read standard.bytes bytes) else read_entries standard.bytes bytes).entries)
    go true e r = cc
    go false e r = r

abbrev ArePlain : List BothEntry → Type 0
ArePlain es = (ps : List Entry) × (es ≡ map plain_entry ps)

plain-all : (b : Bool) (bytes : List ℕ) → is_hinted b bytes ≡ false → ArePlain (entries_in b bytes).entries
plain-all b bytes h = go (is_binary b bytes) h
  where
    text : (Profile standard.bytes bytes == 2) ≡ false → ArePlain (read_entries standard.bytes bytes).entries
    text q = elim (either-profile (tokens_within standard.bytes bytes)) [
      | inl p ↦ ((logs.read standard.bytes bytes).steps, ap (λ (o : Entries). o.entries) (plain-read standard.bytes bytes p))
      | inr p ↦ absurd (grind (arith, nat_tests))
    ]

    go : (y : Bool) → (not y && (Profile standard.bytes bytes == 2)) ≡ false →
        ArePlain (if y then plain_entries (binary.read standard.bytes bytes) else read_entries standard.bytes bytes).entries
    go true e = ((binary.read standard.bytes bytes).steps, refl)
    go false e = text e

heads : (a b : BothEntry) (xs ys : List BothEntry) → a ∷ xs ≡ b ∷ ys → a ≡ b
heads a b xs ys k = cc

tails : (a b : BothEntry) (xs ys : List BothEntry) → a ∷ xs ≡ b ∷ ys → xs ≡ ys
tails a b xs ys k = cc

some-not_plain : (es us : List BothEntry) (e : BothEntry) (x : ProofPart) (ps : List Entry) → e.2 ≡ Some x → es ++ e ∷ us ≡ map plain_entry ps → ⊥
some-not_plain [] us e x [] k r = cc
some-not_plain [] us e x (p ∷ ps) k r =
    let y : e.2 ≡ None = ap (λ (i : BothEntry). i.2) (heads e (plain_entry p) us (map plain_entry ps) r) in
    let z : Some x ≡ None = sym k ∙ y in cc
some-not_plain (i ∷ es) us e x [] k r = cc
some-not_plain (i ∷ es) us e x (p ∷ ps) k r = some-not_plain es us e x ps k (tails i (plain_entry p) (es ++ e ∷ us) (map plain_entry ps) r)

starts-plain : (es us : List BothEntry) (hs : List HintedEntry) → StartsPlain es → es ++ us ≡ map hinted_entry hs → ⊥
starts-plain [] us hs s r = absurd s
starts-plain (e ∷ es) us [] s r = cc
starts-plain (e ∷ es) us (h ∷ hs) s r =
    let y : e.2 ≡ Some h.1.proof = ap (λ (i : BothEntry). i.2) (heads e (hinted_entry h) (es ++ us) (map hinted_entry hs) r) in
    let z : Some h.1.proof ≡ None = sym y ∙ s in cc

-- by hints, or not
pick : (b : Bool) (X Y : Type 0) → (b ≡ true → X) → (b ≡ false → Y) → judged b X Y
pick true X Y f g = f refl
pick false X Y f g = g refl

bare-behind : (es : List BothEntry) (o : Entries) → bare_of (behind es o) ≡ logs.behind (bare es) (bare_of o)
bare-behind es o = ap (λ (ps : List Entry). let y : Parsed = record { steps = ps; refused = o.refused } in y) (bare-append es o.entries)

-- what is told without a False
with-notes : (keeps : Bool) (j : Share) (F : PrenexFormula) (p : Parsed) (w : Verdict) (o : Disproved) → w.outcome ≡ o → ((X : Type 0) → IfFalse o X) →
    SaysShared j o F p → SaysWith keeps j w F p
with-notes keeps j F p w o e f h = record {
  says = subst (λ (x : Disproved). SaysShared j x F p) (sym e) h;
  notes = subst (λ (x : Disproved). IfFalse x (AreLast keeps j F p w.notes)) (sym e) (f (AreLast keeps j F p w.notes));
}

-- an outcome that goes with the offence behind all steps
abbrev GoesWith : Disproved → Option LogError → Type 0
GoesWith (outcome.False n) r = ⊥
GoesWith (outcome.RefusedLine n c) r = IsOffence r n c
GoesWith outcome.RefusedEnd r = r ≡ None
GoesWith (outcome.RefusedInput n c) r = ⊥
GoesWith outcome.ReadFault r = ⊥
GoesWith outcome.NoMemory r = Unit {0}

never-false : (o : Disproved) (r : Option LogError) → GoesWith o r → (X : Type 0) → IfFalse o X
never-false (outcome.False n) r g X = absurd g
never-false (outcome.RefusedLine n c) r g X = tt
never-false outcome.RefusedEnd r g X = tt
never-false (outcome.RefusedInput n c) r g X = tt
never-false outcome.ReadFault r g X = tt
never-false outcome.NoMemory r g X = tt

abbrev ending : Option LogError → Entries
ending r = record { entries = []; refused = r }

module _ (form : Form) (j : Share) (F : PrenexFormula) (bytes : List ℕ) where
  abbrev Said : Verdict → Type 0
  Said w = SaysOfBytes form j w F bytes

  abbrev Hints : Verdict → Type 0
  Hints w = HintedSays w.outcome F (hinted_proof form.binary bytes) (offence_in form.binary bytes)

  abbrev Bare : Verdict → Type 0
  Bare w = SaysWith form.keeps j w F (proof_of form.binary bytes)

  choose : (w : Verdict) → (form.hints ≡ true → is_hinted form.binary bytes ≡ true → Hints w) →
      (by_hints form bytes ≡ false → Bare w) → Said w
  choose w f g = pick (by_hints form bytes) (Hints w) (Bare w) (λ h. let x = both-true form.hints (is_hinted form.binary bytes) h in f x.0 x.1) g

  -- where the judge looks at hints, hints are there
  unhinted : form.hints ≡ true → by_hints form bytes ≡ false → is_hinted form.binary bytes ≡ false
  unhinted h e = subst (λ (b : Bool). (b && is_hinted form.binary bytes) ≡ false) h e

  -- the empty clause is in F
  pub says-lost : (w : Verdict) → TellsAtOnce form.keeps F w → Said w
  says-lost w h = choose w (λ a b. once w.outcome h.says) (λ e. at-once form.keeps j w F (proof_of form.binary bytes) h)
    where
      once : (o : Disproved) → SaysAtOnce F o → HintedSays o F (hinted_proof form.binary bytes) (offence_in form.binary bytes)
      once (outcome.False n) (l, z) =
          subst (HintedRefutedIn standard (begun F) (hinted_of (hinted_proof form.binary bytes))) (sym z)
          (hinted-refuted_now standard (begun F) (hinted_of (hinted_proof form.binary bytes)) (lost-begun F l))
      once (outcome.RefusedLine n c) k = absurd k
      once outcome.RefusedEnd k = absurd k
      once (outcome.RefusedInput n c) k = k
      once outcome.ReadFault k = tt
      once outcome.NoMemory k = tt

  pub says-no_memory : (w : Verdict) → w.outcome ≡ outcome.NoMemory → Said w
  says-no_memory w q =
      choose w
      (λ a b. subst (λ (o : Disproved). HintedSays o F (hinted_proof form.binary bytes) (offence_in form.binary bytes)) (sym q) tt)
      (λ e. with-notes form.keeps j F (proof_of form.binary bytes) w outcome.NoMemory q (λ X. tt) tt)

  module _ (es : List BothEntry) where
    starts-not : (us : List BothEntry) → (form.hints ≡ true → StartsPlain es) → (entries_in form.binary bytes).entries ≡ es ++ us →
        form.hints ≡ true → is_hinted form.binary bytes ≡ true → ⊥
    starts-not us s e a b = starts-plain es us (hinted_proof form.binary bytes) (s a) (sym e ∙ hinted-entries form.binary bytes b)

    module _ (t : Refuter) (f : IsSoFar form.keeps j F (bare es) t) (u : IsLost t.checker.formula → ⊥) where
      -- a step that is judged as if it had no proof part
      says-plain : (w : Verdict) (e : BothEntry) (o : Entries) → Convicts w t (e.0, e.1) → (form.hints ≡ true → StartsPlain (es ++ e ∷ [])) →
          entries_in form.binary bytes ≡ behind es (onto e o) → Said w
      says-plain w e o c s q =
          choose w
          (λ a b. absurd (starts-plain (es ++ e ∷ []) o.entries (hinted_proof form.binary bytes) (s a)
          (append_assoc es (e ∷ []) o.entries ∙ (sym (ap (λ (x : Entries). x.entries) q) ∙ hinted-entries form.binary bytes b))))
          (λ n. subst (SaysWith form.keeps j w F) (sym (ap bare_of q ∙ bare-behind es (onto e o)))
          (step-says form.keeps j F (bare es) t f u w (e.0, e.1) (bare_of o) c))

      -- no step follows
      stops : (o : Disproved) (r : Option LogError) → GoesWith o r → SaysShared j o F (logs.behind (bare es) (bare_of (ending r)))
      stops (outcome.False n) r g = absurd g
      stops (outcome.RefusedLine n c) None g = absurd g
      stops (outcome.RefusedLine n c) (Some x) g = offence-says form.keeps j F (bare es) t f u x n c g
      stops outcome.RefusedEnd r g =
          subst (λ (x : Option LogError). SaysShared j outcome.RefusedEnd F (logs.behind (bare es) (bare_of (ending x)))) (sym g) (end-says form.keeps j F (bare es) t f u)
      stops (outcome.RefusedInput n c) r g = g
      stops outcome.ReadFault r g = tt
      stops outcome.NoMemory r g = tt

      plain-ends : (w : Verdict) (o : Disproved) (r : Option LogError) → w.outcome ≡ o → GoesWith o r → entries_in form.binary bytes ≡ behind es (ending r) →
          by_hints form bytes ≡ false → Bare w
      plain-ends w o r k g q n =
          subst (SaysWith form.keeps j w F) (sym (ap bare_of q ∙ bare-behind es (ending r)))
          (with-notes form.keeps j F (logs.behind (bare es) (bare_of (ending r))) w o k (never-false o r g) (stops o r g))

      says-plain_end : (w : Verdict) (o : Disproved) (r : Option LogError) → w.outcome ≡ o → GoesWith o r → (form.hints ≡ true → StartsPlain es) →
          entries_in form.binary bytes ≡ behind es (ending r) → Said w
      says-plain_end w o r k g s q =
          choose w (λ a b. absurd (starts-not [] s (ap (λ (x : Entries). x.entries) q) a b)) (plain-ends w o r k g q)

  -- nor a first one
  none-says : (o : Disproved) (r : Option LogError) → GoesWith o r → (IsLost F → ⊥) → HintedSays o F [] r
  none-says (outcome.False n) r g u = absurd g
  none-says (outcome.RefusedLine n c) r g u = inr (hint-none F u, g)
  none-says outcome.RefusedEnd r g u = (hint-none F u, g)
  none-says (outcome.RefusedInput n c) r g u = g
  none-says outcome.ReadFault r g u = tt
  none-says outcome.NoMemory r g u = tt

  says-none : (t : Refuter) → IsSoFar form.keeps j F [] t → (IsLost t.checker.formula → ⊥) → (w : Verdict) (o : Disproved) (r : Option LogError) → w.outcome ≡ o →
      GoesWith o r → entries_in form.binary bytes ≡ ending r → Said w
  says-none t f u w o r k g q =
      choose w
      (λ a b. subst (λ (x : Disproved). HintedSays x F (hinted_proof form.binary bytes) (offence_in form.binary bytes)) (sym k)
      (subst (λ (x : Entries). HintedSays o F (hinted_in x.entries) x.refused) (sym q)
      (none-says o r g (λ l. u (alike_lost f.last t.checker.formula f.alike (subst IsLost f.made l))))))
      (plain-ends [] t f u w o r k g q)

  -- steps that are judged by their proof parts
  module _ (es : List BothEntry) (hs : List HintedEntry) (all : es ≡ map hinted_entry hs) (a : form.hints ≡ true) where
    hinted-of : (us : List BothEntry) → hinted_in (es ++ us) ≡ hs ++ hinted_in us
    hinted-of us = hinted_in-append es us ∙ ap (λ (xs : List HintedEntry). xs ++ hinted_in us) (ap hinted_in all ∙ hinted_in-hinted hs)

    -- a step with a proof part tells
    some-tells : (front us : List BothEntry) (e : BothEntry) (x : ProofPart) → e.2 ≡ Some x → (entries_in form.binary bytes).entries ≡ front ++ e ∷ us →
        by_hints form bytes ≡ false → ⊥
    some-tells front us e x k q n =
        let p = plain-all form.binary bytes (unhinted a n) in some-not_plain front us e x p.0 k (sym q ∙ p.1)

    module _ (t : HintRefuter) (f : IsHintSoFar F hs t) (u : IsLost (plain t.checker.formula) → ⊥) where
      says-hinted : (w : Verdict) (e : BothEntry) (x : ProofPart) (o : Entries) → e.2 ≡ Some x → HintConvicts w.outcome t (e.0, e.1) x →
          entries_in form.binary bytes ≡ behind es (onto e o) → Said w
      says-hinted w e x o k c q =
          let h : HintedEntry = (e.0, record { step = e.1; proof = x }) in
          let one : hinted_in (e ∷ o.entries) ≡ h ∷ hinted_in o.entries = ap (λ (y : Option ProofPart). if_hinted e.0 e.1 y (hinted_in o.entries)) k in
          let both : hinted_in (es ++ e ∷ o.entries) ≡ hs ++ h ∷ hinted_in o.entries = hinted-of (e ∷ o.entries) ∙ ap (λ (gs : List HintedEntry). hs ++ gs) one in
          choose w
          (λ b d. subst (λ (y : Entries). HintedSays w.outcome F (hinted_in y.entries) y.refused) (sym q)
          (subst (λ (gs : List HintedEntry). HintedSays w.outcome F gs o.refused) (sym both) (hint-says F hs t f u h (hinted_in o.entries) o.refused w.outcome c)))
          (λ n. absurd (some-tells es o.entries e x k (ap (λ (y : Entries). y.entries) q) n))

      stops-hinted : (o : Disproved) (r : Option LogError) → GoesWith o r → HintedSays o F (hs ++ []) r
      stops-hinted (outcome.False n) r g = absurd g
      stops-hinted (outcome.RefusedLine n c) r g = inr (hint-nowhere F hs t f u, g)
      stops-hinted outcome.RefusedEnd r g = (hint-nowhere F hs t f u, g)
      stops-hinted (outcome.RefusedInput n c) r g = g
      stops-hinted outcome.ReadFault r g = tt
      stops-hinted outcome.NoMemory r g = tt

      says-hinted_end : (w : Verdict) (o : Disproved) (r : Option LogError) (h : HintedEntry) (gs : List HintedEntry) → hs ≡ h ∷ gs → w.outcome ≡ o → GoesWith o r →
          entries_in form.binary bytes ≡ behind es (ending r) → Said w
      says-hinted_end w o r h gs first k g q =
          let front : es ++ [] ≡ hinted_entry h ∷ (map hinted_entry gs ++ []) = ap (λ (xs : List BothEntry). xs ++ []) (all ∙ ap (map hinted_entry) first) in
          choose w
          (λ b d. subst (λ (x : Disproved). HintedSays x F (hinted_proof form.binary bytes) (offence_in form.binary bytes)) (sym k)
          (subst (λ (y : Entries). HintedSays o F (hinted_in y.entries) y.refused) (sym q)
          (subst (λ (ks : List HintedEntry). HintedSays o F ks r) (sym (hinted-of [])) (stops-hinted o r g))))
          (λ n. absurd (some-tells [] (map hinted_entry gs ++ []) (hinted_entry h) h.1.proof refl (ap (λ (y : Entries). y.entries) q ∙ front) n))

-- the first step tells
module _ (form : Form) (j : Share) (F G : PrenexFormula) (p : Part) (e : G ≡ F) (i : j ≡ share_of p) (k : form.keeps ≡ false) where
  begun-plain : (t : Refuter) → IsBegun false p G t → IsSoFar form.keeps j F [] t
  begun-plain t b =
      subst (λ (x : Bool). IsSoFar x j F [] t) (sym k)
      (subst (λ (x : Share). IsSoFar false x F [] t) (sym i)
      (subst (λ (x : PrenexFormula). IsSoFar false (share_of p) x [] t) e (begins false p G t b)))

  begun-hinted : (t : HintRefuter) → IsHintBegun G t → IsHintSoFar F [] t
  begun-hinted t b = subst (λ (x : PrenexFormula). IsHintSoFar x [] t) e (hint-begins G t b)

  lost-then : (w : Verdict) → TellsAtOnce false G w → TellsAtOnce form.keeps F w
  lost-then w l = subst (λ (x : Bool). TellsAtOnce x F w) (sym k) (subst (λ (x : PrenexFormula). TellsAtOnce false x w) e l)

is-none : (o : Option ProofPart) → is_some o ≡ false → o ≡ None
is-none None h = refl
is-none (Some x) h = cc

starts-more : (es : List BothEntry) (e : BothEntry) → StartsPlain es → StartsPlain (es ++ e ∷ [])
starts-more [] e s = absurd s
starts-more (x ∷ es) e s = s

entry-some : (e : BothEntry) (x : ProofPart) → e.2 ≡ Some x → e ≡ hinted_entry (e.0, record { step = e.1; proof = x })
entry-some e x q = ap (λ (y : Option ProofPart). let z : BothEntry = (e.0, e.1, y) in z) q

map-more : (hs : List HintedEntry) (h : HintedEntry) → map hinted_entry hs ++ hinted_entry h ∷ [] ≡ map hinted_entry (hs ++ h ∷ [])
map-more [] h = refl
map-more (g ∷ hs) h = ap (λ (xs : List BothEntry). hinted_entry g ∷ xs) (map-more hs h)

module _ (form : Form) (j : Share) (F : PrenexFormula) (e : BothEntry) where
  -- a step behind others, judged as if it had no proof part
  plain-more : (es : List BothEntry) (t u : Refuter) → IsSoFar form.keeps j F (bare es) t → IsUnderWay t → (form.hints ≡ true → StartsPlain (es ++ e ∷ [])) →
      Takes e (judge.Plain t) (judge.Plain u) → AreJudged form j F (es ++ e ∷ []) (judge.Plain u)
  plain-more es t u f w s g =
      (subst (λ (ps : List Entry). IsSoFar form.keeps j F ps u) (sym (bare-append es (e ∷ []))) (goes-on form.keeps j F (bare es) t f w.unlost e.0 e.1 u g), s)

  hinted-more : (es : List BothEntry) (hs : List HintedEntry) (t u : HintRefuter) → es ≡ map hinted_entry hs → form.hints ≡ true → IsHintSoFar F hs t →
      IsHintUnderWay t → HasHinted e t u → AreJudged form j F (es ++ e ∷ []) (judge.Hinted u)
  hinted-more es hs t u all a f w (x, q, g) =
      let h : HintedEntry = (e.0, record { step = e.1; proof = x }) in
      let so-far : IsHintSoFar F (hs ++ h ∷ []) u = hint-goes_on F hs t f w.unlost e.0 e.1 x u g in
      let is : es ++ e ∷ [] ≡ map hinted_entry (hs ++ h ∷ []) =
      ap (λ (xs : List BothEntry). xs ++ e ∷ []) all ∙ (ap (λ (y : BothEntry). map hinted_entry hs ++ y ∷ []) (entry-some e x q) ∙ map-more hs h) in
      (a, nonempty hs h is so-far)
    where
      nonempty : (hs : List HintedEntry) (h : HintedEntry) → es ++ e ∷ [] ≡ map hinted_entry (hs ++ h ∷ []) → IsHintSoFar F (hs ++ h ∷ []) u →
          (g : HintedEntry) × (gs : List HintedEntry) × (es ++ e ∷ [] ≡ map hinted_entry (g ∷ gs)) × IsHintSoFar F (g ∷ gs) u
      nonempty [] h r f = (h, [], r, f)
      nonempty (g ∷ gs) h r f = (g, gs ++ h ∷ [], r, f)

  go-plain : (es : List BothEntry) (t : Refuter) (k new : Judge) → k ≡ judge.Plain t → IsSoFar form.keeps j F (bare es) t → IsUnderWay t →
      (form.hints ≡ true → StartsPlain (es ++ e ∷ [])) → Takes e k new → AreJudged form j F (es ++ e ∷ []) new
  go-plain es t k new r f w s g = go new (subst (λ (x : Judge). Takes e x new) r g)
    where
      go : (new : Judge) → Takes e (judge.Plain t) new → AreJudged form j F (es ++ e ∷ []) new
      go (judge.Open b H q) g = absurd g
      go (judge.Plain u) g = plain-more es t u f w s g
      go (judge.Hinted u) g = absurd g

  go-hinted : (es : List BothEntry) (hs : List HintedEntry) (t : HintRefuter) (k new : Judge) → k ≡ judge.Hinted t → es ≡ map hinted_entry hs → form.hints ≡ true →
      IsHintSoFar F hs t → IsHintUnderWay t → Takes e k new → AreJudged form j F (es ++ e ∷ []) new
  go-hinted es hs t k new r all a f w g = go new (subst (λ (x : Judge). Takes e x new) r g)
    where
      go : (new : Judge) → Takes e (judge.Hinted t) new → AreJudged form j F (es ++ e ∷ []) new
      go (judge.Open b H q) g = absurd g
      go (judge.Plain u) g = absurd g
      go (judge.Hinted u) g = hinted-more es hs t u all a f w g

  -- so it goes on
  pub goes-judged : (es : List BothEntry) (old new : Judge) → AreJudged form j F es old → IsJudging old → GoesOn e old new → AreJudged form j F (es ++ e ∷ []) new
  goes-judged es (judge.Open a G p) new (z, q, i, n, h) u (judge.Open b H c, o, g) = absurd o
  goes-judged es (judge.Open a G p) new (z, q, i, n, h) u (judge.Plain t, o, g) =
      subst (λ (xs : List BothEntry). AreJudged form j F (xs ++ e ∷ []) new) (sym z)
      (go-plain [] t (judge.Plain t) new refl (begun-plain form j F G p q i n t o.1) o.1.under_way (λ y. is-none e.2 o.0) g)
  goes-judged es (judge.Open a G p) new (z, q, i, n, h) u (judge.Hinted t, o, g) =
      subst (λ (xs : List BothEntry). AreJudged form j F (xs ++ e ∷ []) new) (sym z)
      (go-hinted [] [] t (judge.Hinted t) new refl refl h (begun-hinted form j F G p q i n t o.1) o.1.under_way g)
  goes-judged es (judge.Plain t) new (f, s) u (k, o, g) = go-plain es t k new o f u (λ y. starts-more es e (s y)) g
  goes-judged es (judge.Hinted t) new (a, (h, hs, all, f)) u (k, o, g) = go-hinted es (h ∷ hs) t k new o all a f u g

module _ (form : Form) (j : Share) (F : PrenexFormula) (bytes : List ℕ) (w : Verdict) where
  fail-hinted : (es : List BothEntry) (hs : List HintedEntry) (t : HintRefuter) (e : BothEntry) (o : Entries) → es ≡ map hinted_entry hs → form.hints ≡ true →
      IsHintSoFar F hs t → IsHintUnderWay t → FailsHinted w e t → entries_in form.binary bytes ≡ behind es (onto e o) → SaysOfBytes form j w F bytes
  fail-hinted es hs t e o all a f u (inl m) q = says-no_memory form j F bytes w m
  fail-hinted es hs t e o all a f u (inr (x, k, c)) q = says-hinted form j F bytes es hs all a t f u.unlost w e x o k c q

  fail-plain : (es : List BothEntry) (t : Refuter) (k : Judge) (e : BothEntry) (o : Entries) → k ≡ judge.Plain t → IsSoFar form.keeps j F (bare es) t → IsUnderWay t →
      (form.hints ≡ true → StartsPlain (es ++ e ∷ [])) → Fails w e k → entries_in form.binary bytes ≡ behind es (onto e o) → SaysOfBytes form j w F bytes
  fail-plain es t k e o r f u s c q = says-plain form j F bytes es t f u.unlost w e o (subst (λ (x : Judge). Fails w e x) r c) s q

  -- what is said of a step that is not made, or brings the empty clause
  pub fails-judged : (es : List BothEntry) (old : Judge) (e : BothEntry) (o : Entries) → AreJudged form j F es old → IsJudging old → FailsAt w e old →
      entries_in form.binary bytes ≡ behind es (onto e o) → SaysOfBytes form j w F bytes
  fails-judged es (judge.Open a G p) e o (z, q, i, n, h) u (inl l) r = says-lost form j F bytes w (lost-then form j F G p q i n w l)
  fails-judged es (judge.Open a G p) e o (z, q, i, n, h) u (inr (judge.Open b H d, x, c)) r = absurd x
  fails-judged es (judge.Open a G p) e o (z, q, i, n, h) u (inr (judge.Plain t, x, c)) r =
      fail-plain [] t (judge.Plain t) e o refl (begun-plain form j F G p q i n t x.1) x.1.under_way (λ y. is-none e.2 x.0) c
      (subst (λ (xs : List BothEntry). entries_in form.binary bytes ≡ behind xs (onto e o)) z r)
  fails-judged es (judge.Open a G p) e o (z, q, i, n, h) u (inr (judge.Hinted t, x, c)) r =
      fail-hinted [] [] t e o refl h (begun-hinted form j F G p q i n t x.1) x.1.under_way c
      (subst (λ (xs : List BothEntry). entries_in form.binary bytes ≡ behind xs (onto e o)) z r)
  fails-judged es (judge.Plain t) e o s u (inl l) r = absurd l
  fails-judged es (judge.Plain t) e o (f, s) u (inr (k, x, c)) r = fail-plain es t k e o x f u (λ y. starts-more es e (s y)) c r
  fails-judged es (judge.Hinted t) e o s u (inl l) r = absurd l
  fails-judged es (judge.Hinted t) e o (a, (h, hs, all, f)) u (inr (k, x, c)) r =
      fail-hinted es (h ∷ hs) t e o all a f u (subst (λ (y : Judge). Fails w e y) x c) r

  -- what is said where no step follows
  ends-judged : (es : List BothEntry) (old : Judge) (o : Disproved) (r : Option LogError) → GoesWith o r → AreJudged form j F es old → IsJudging old → EndsBy o w old →
      entries_in form.binary bytes ≡ behind es (ending r) → SaysOfBytes form j w F bytes
  ends-judged es (judge.Open a G p) o r g (z, q, i, n, h) u (inl l) s = says-lost form j F bytes w (lost-then form j F G p q i n w l)
  ends-judged es (judge.Open a G p) o r g (z, q, i, n, h) u (inr (judge.Open b H d, x, c)) s = absurd x
  ends-judged es (judge.Open a G p) o r g (z, q, i, n, h) u (inr (judge.Plain t, x, c)) s =
      says-none form j F bytes t (begun-plain form j F G p q i n t x.1) x.1.under_way.unlost w o r c g
      (subst (λ (xs : List BothEntry). entries_in form.binary bytes ≡ behind xs (ending r)) z s)
  ends-judged es (judge.Open a G p) o r g (z, q, i, n, h) u (inr (judge.Hinted t, x, c)) s = absurd (let y = x.0 in cc)
  ends-judged es (judge.Plain t) o r g s u (inl l) q = absurd l
  ends-judged es (judge.Plain t) o r g (f, s) u (inr (k, x, c)) q = says-plain_end form j F bytes es t f u.unlost w o r c g s q
  ends-judged es (judge.Hinted t) o r g s u (inl l) q = absurd l
  ends-judged es (judge.Hinted t) o r g (a, (h, hs, all, f)) u (inr (k, x, c)) q =
      says-hinted_end form j F bytes es (h ∷ hs) all a t f u.unlost w o r h hs refl c g q

  pub end-judged : (es : List BothEntry) (old : Judge) → AreJudged form j F es old → IsJudging old → EndsBy outcome.RefusedEnd w old →
      entries_in form.binary bytes ≡ behind es finished → SaysOfBytes form j w F bytes
  end-judged es old s u h q = ends-judged es old outcome.RefusedEnd None refl s u h q

  pub offence-judged : (es : List BothEntry) (old : Judge) (x : LogError) → AreJudged form j F es old → IsJudging old → EndsBy (log_refused x) w old →
      entries_in form.binary bytes ≡ behind es (stopped x) → SaysOfBytes form j w F bytes
  offence-judged es old (log.BadLine n) s u h q = ends-judged es old (outcome.RefusedLine n 1) (Some (log.BadLine n)) (refl, refl) s u h q
  offence-judged es old (log.Limit n) s u h q = ends-judged es old (outcome.RefusedLine n 8) (Some (log.Limit n)) (refl, refl) s u h q
  offence-judged es old log.NoMemory s u h q = ends-judged es old outcome.NoMemory (Some log.NoMemory) tt s u h q

  -- memory is missing
  pub memory-judged : (es : List BothEntry) (old : Judge) → AreJudged form j F es old → EndsBy outcome.NoMemory w old → SaysOfBytes form j w F bytes
  memory-judged es (judge.Open a G p) (z, q, i, n, h) (inl l) = says-lost form j F bytes w (lost-then form j F G p q i n w l)
  memory-judged es (judge.Open a G p) s (inr (k, x, c)) = says-no_memory form j F bytes w c
  memory-judged es (judge.Plain t) s (inl l) = absurd l
  memory-judged es (judge.Plain t) s (inr (k, x, c)) = says-no_memory form j F bytes w c
  memory-judged es (judge.Hinted t) s (inl l) = absurd l
  memory-judged es (judge.Hinted t) s (inr (k, x, c)) = says-no_memory form j F bytes w c

-- behind a step it is told who judges
abbrev pub IsTold : Judge → Type 0
IsTold (judge.Open a F p) = ⊥
IsTold (judge.Plain t) = Unit {0}
IsTold (judge.Hinted t) = Unit {0}

pub goes-told : (e : BothEntry) (old new : Judge) → GoesOn e old new → IsTold new
goes-told e old new (k, o, g) = go k new g
  where
    go : (k new : Judge) → Takes e k new → IsTold new
    go (judge.Open a F p) new g = absurd g
    go (judge.Plain t) (judge.Open a F p) g = absurd g
    go (judge.Plain t) (judge.Plain u) g = tt
    go (judge.Plain t) (judge.Hinted u) g = absurd g
    go (judge.Hinted t) (judge.Open a F p) g = absurd g
    go (judge.Hinted t) (judge.Plain u) g = absurd g
    go (judge.Hinted t) (judge.Hinted u) g = tt

pub still-ends : (form : Form) (j : Share) (F : PrenexFormula) (bytes : List ℕ) (w : Verdict) (es : List BothEntry) (k : Judge) → AreJudged form j F es k → IsJudging k →
    w.outcome ≡ outcome.RefusedEnd → entries_in form.binary bytes ≡ behind es finished → IsTold k → SaysOfBytes form j w F bytes
still-ends form j F bytes w es (judge.Open a G p) s u q r d = absurd d
still-ends form j F bytes w es (judge.Plain t) s u q r d = end-judged form j F bytes w es (judge.Plain t) s u (inr (judge.Plain t, refl, q)) r
still-ends form j F bytes w es (judge.Hinted t) s u q r d = end-judged form j F bytes w es (judge.Hinted t) s u (inr (judge.Hinted t, refl, q)) r
