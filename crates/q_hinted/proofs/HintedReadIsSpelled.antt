-- What is read as a log of the second profile is a spelled one.
use Rattle.std.proofs.Common.{◌≡◌, ◌≤◌, ◌<◌, ◌+◌, ◌==◌, ◌^◌, ◌⊎◌, inl, inr, ℕ, zero, suc, nat_lt, Bool, true, false, List, [], ◌∷◌, ◌++◌, map, length, length-append, Option, Some, None, refl, sym, ap, subst, ◌∙◌, arith, ℤ, pos, negsuc, append-nil, if◌then◌else◌}
use Rattle.std.proofs.lemmas.Bool.Decides.{nat_tests}
use Rattle.std.specs.List.{AllByRecursion}
use Rattle.q_logic.specs.declared.proof_part.ProofKind.TheVariants.{Nothing}
use Rattle.q_logic.specs.declared.steps.Kind.{Kind}
use Rattle.q_logic.specs.declared.steps.Kind.TheVariants.{Add, Delete, Drop, Fresh, Remove}
use Rattle.q_logic.specs.Prelude.{ProofPart, ProofStep, kind_of}
use Rattle.q_logic.specs.ProofParts.{begun_part}
use Rattle.q_text.specs.declared.tokens.Token.{Token}
use Rattle.q_text.specs.declared.tokens.TokenKind.{TokenKind}
use Rattle.q_text.specs.declared.tokens.TokenKind.TheVariants.{Number, P, Cnf, Qrat, E, A, D, U, R, Other}
use Rattle.q_log.specs.declared.error.LogError.{LogError}
use Rattle.q_log.specs.declared.error.LogError.TheVariants.{BadLine}
use Rattle.q_log.specs.Grammar.{OpenStep, Move, ends_step, goes_on, unfit, move}
use Rattle.q_log.specs.Logs as plain_logs
use Rattle.q_log.specs.Spelled.{StepText, IsSpelled, first_line, step_in}
use Rattle.q_log.specs.Spelled as plain_texts
use Rattle.q_log.proofs.LogReadIsSpelled.{FromStart, all-from}
use Rattle.q_hinted.specs.declared.builder.Stage.{Stage}
use Rattle.q_hinted.specs.declared.builder.Stage.TheVariants as stage
use Rattle.q_hinted.specs.Grammar.{Place, format, version, steps, proving, EntryMove, hands, leads, misfit, part_move, number_in, behind_step, in_steps, profile_move, format_move, version_move}
use Rattle.q_hinted.specs.Logs.{Entry, Entries, hinted_entry, onto, follow, parsed, at_end}
use Rattle.q_hinted.specs.Parts.{no_part, IsPartOf, IsNumber, part_numbers}
use Rattle.q_hinted.specs.Spelled.{HintedText, kinds_of, numbers_kinds, IsHintedSpelled, hinted_of, tokens_in}
use Rattle.q_hinted.proofs.ProofNumbers.{Fits, Back, part-back}
use Rattle.q_hinted.proofs.HintedSpelledIsRead.{one_step, any-line, kind-kept}

abbrev pub all_read : List Entry → Entries
all_read es = record { entries = es; refused = None }

-- tokens lead from a place to these entries, and to the end
abbrev pub Gets : ℕ → Place → List Token → List Entry → Type 0
Gets n p ts es = parsed (at_end n) p ts ≡ all_read es

never-refused : {X : Type 0} (e : LogError) (es : List Entry) → record { entries = []; refused = Some e } ≡ all_read es → X
never-refused e es h = absurd (let r : Some e ≡ None = ap (λ (o : Entries). o.refused) h in cc)

-- one entry in front
onto-read : (e : Entry) (o : Entries) (es : List Entry) → onto e o ≡ all_read es → (rest : List Entry) × (es ≡ e ∷ rest) × (o ≡ all_read rest)
onto-read e o es h =
    let a : e ∷ o.entries ≡ es = ap (λ (x : Entries). x.entries) h in
    let b : o.refused ≡ None = ap (λ (x : Entries). x.refused) h in
    (o.entries, sym a, ap (λ (x : Option LogError). let y : Entries = record { entries = o.entries; refused = x } in y) b)

number-is : (k : TokenKind) (v : ℕ) → number_in k ≡ Some v → (k ≡ Number (pos v)) × (v < 2 ^ 62)
number-is (Number (pos w)) v e = go (nat_lt w 4611686018427387904) refl e
  where
    go : (b : Bool) → nat_lt w 4611686018427387904 ≡ b → (if b then Some w else None) ≡ Some v → (Number (pos w) ≡ Number (pos v)) × (v < 2 ^ 62)
    go true h f =
        let i : w ≡ v = cc in
        let l : w < 4611686018427387904 = grind (arith, nat_tests) in
        (ap (λ x. Number (pos x)) i, subst (λ x. x < 2 ^ 62) i l)
    go false h f = absurd (cc)
number-is (Number (negsuc w)) v e = absurd (cc)
number-is P v e = absurd (cc)
number-is Cnf v e = absurd (cc)
number-is Qrat v e = absurd (cc)
number-is E v e = absurd (cc)
number-is A v e = absurd (cc)
number-is D v e = absurd (cc)
number-is U v e = absurd (cc)
number-is R v e = absurd (cc)
number-is Other v e = absurd (cc)

-- from a stage of a proof part on: the numbers that make the proof part, and then steps
pub record Ended (n l : ℕ) (s : ProofStep) (g : Stage) (p : ProofPart) (ts : List Token) (es : List Entry) : Type 0 where
  pub numbers : List ℕ
  pub proof : ProofPart
  pub behind : List Token
  pub rest : List Token
  pub later : List Entry
  pub split : ts ≡ behind ++ rest
  pub kinds : kinds_of behind ≡ numbers_kinds numbers
  pub fits : Fits g p numbers proof
  pub entries : es ≡ (l, s, Some proof) ∷ later
  pub gets : Gets n (steps None) rest later

pub part-parsed : (n l : ℕ) (s : ProofStep) (ts : List Token) (g : Stage) (p : ProofPart) (es : List Entry) → Gets n (proving l s g p) ts es → Ended n l s g p ts es
part-parsed n l s [] g p es e = never-refused (BadLine n) es e
part-parsed n l s (t ∷ ts) g p es e = go (number_in t.kind) refl e (λ h x es d. part-parsed n l s ts h x es d)
  where
    led : (v : ℕ) → t.kind ≡ Number (pos v) → (m : EntryMove) → Back l s p g v m → follow m t.line (λ q. parsed (at_end n) q ts) ≡ all_read es →
        ((h : Stage) (f : ProofPart) (es : List Entry) → Gets n (proving l s h f) ts es → Ended n l s h f ts es) → Ended n l s g p (t ∷ ts) es
    led v k (hands a r o q) (b, fits) f ih =
        let moved : Entries = onto (l, s, Some p) (parsed (at_end n) (steps None) ts) in
        let same : onto (a, r, o) (parsed (at_end n) q ts) ≡ moved = rw (b.0, b.1, b.2, b.3) refl in
        let h = onto-read (l, s, Some p) (parsed (at_end n) (steps None) ts) es (sym same ∙ f) in
        record {
          numbers = v ∷ [];
          proof = p;
          behind = t ∷ [];
          rest = ts;
          later = h.0;
          split = refl;
          kinds = ap (λ (x : TokenKind). x ∷ []) k;
          fits = fits;
          entries = h.1;
          gets = h.2;
        }
    led v k (leads q) (h, x, i, fits) f ih =
        let r : Ended n l s h x ts es = ih h x es (ap (λ q. parsed (at_end n) q ts) (sym i) ∙ f) in
        record {
          numbers = v ∷ r.numbers;
          proof = r.proof;
          behind = t ∷ r.behind;
          rest = r.rest;
          later = r.later;
          split = ap (λ (xs : List Token). t ∷ xs) r.split;
          kinds = rw (k, r.kinds) refl;
          fits = fits r.numbers r.proof r.fits;
          entries = r.entries;
          gets = r.gets;
        }
    led v k misfit b f ih = never-refused (BadLine t.line) es f

    go : (o : Option ℕ) → number_in t.kind ≡ o → follow (part_move l s p g o) t.line (λ q. parsed (at_end n) q ts) ≡ all_read es →
        ((h : Stage) (f : ProofPart) (es : List Entry) → Gets n (proving l s h f) ts es → Ended n l s h f ts es) → Ended n l s g p (t ∷ ts) es
    go None i f ih = never-refused (BadLine t.line) es f
    go (Some v) i f ih =
        let k = number-is t.kind v i in
        led v k.0 (part_move l s p g (Some v)) (part-back l s p g v k.1) f ih

-- a whole step: its tokens are those of a plain log, and then comes what is behind a step
pub record Stepped (n : ℕ) (o : Option OpenStep) (ts : List Token) (es : List Entry) : Type 0 where
  pub tokens : List Token
  pub rest : List Token
  pub line : ℕ
  pub step : ProofStep
  pub split : ts ≡ tokens ++ rest
  pub some : 1 ≤ length tokens
  pub alone : plain_logs.parsed (plain_logs.at_end n) o tokens ≡ one_step line step
  pub later : follow (behind_step (kind_of step) line step) 0 (λ q. parsed (at_end n) q rest) ≡ all_read es

pub record Nothing_left (o : Option OpenStep) (ts : List Token) (es : List Entry) : Type 0 where
  pub idle : o ≡ None
  pub tokens : ts ≡ []
  pub entries : es ≡ []

pub step-parsed : (n : ℕ) (ts : List Token) (o : Option OpenStep) (es : List Entry) → Gets n (steps o) ts es → Nothing_left o ts es ⊎ Stepped n o ts es
step-parsed n [] None es e = inl (record { idle = refl; tokens = refl; entries = sym (ap (λ (o : Entries). o.entries) e) })
step-parsed n [] (Some o) es e = never-refused (BadLine n) es e
step-parsed n (t ∷ ts) o es e = inr (go (move o t) refl e (λ o es d. step-parsed n ts o es d))
  where
    go : (m : Move) → move o t ≡ m → follow (in_steps m) t.line (λ q. parsed (at_end n) q ts) ≡ all_read es →
        ((o : Option OpenStep) (es : List Entry) → Gets n (steps o) ts es → Nothing_left o ts es ⊎ Stepped n o ts es) → Stepped n o (t ∷ ts) es
    go (ends_step l s) i f ih = record {
      tokens = t ∷ [];
      rest = ts;
      line = l;
      step = s;
      split = refl;
      some = omega arith;
      alone = rw i refl;
      later = any-line (kind_of s) l s 0 t.line (λ q. parsed (at_end n) q ts) ∙ f;
    }
    go (goes_on x) i f ih =
        elim (ih (Some x) es f) [
          | inl h ↦ absurd (let c : Some x ≡ None = h.idle in cc)
          | inr h ↦ record {
            tokens = t ∷ h.tokens;
            rest = h.rest;
            line = h.line;
            step = h.step;
            split = ap (λ (xs : List Token). t ∷ xs) h.split;
            some = omega arith;
            alone = ap (λ m. plain_logs.follow m t.line (λ o. plain_logs.parsed (plain_logs.at_end n) o h.tokens)) i ∙ h.alone;
            later = h.later;
          }
        ]
    go unfit i f ih = never-refused (BadLine t.line) es f

-- one step of a plain log is one that is spelled
record Single (l : ℕ) (s : ProofStep) (xs : List Token) : Type 0 where
  text : StepText
  spelled : IsSpelled text
  tokens : xs ≡ text.tokens
  is : (l, s) ≡ step_in text

single : (n l : ℕ) (s : ProofStep) (xs : List Token) → plain_logs.parsed (plain_logs.at_end n) None xs ≡ one_step l s → Single l s xs
single n l s xs e =
    let r : FromStart xs ((l, s) ∷ []) = all-from n xs None ((l, s) ∷ []) e in
    go r.texts r.tokens_are r.spelled r.steps_are
  where
    go : (texts : List StepText) → xs ≡ plain_texts.tokens_in texts → AllByRecursion IsSpelled texts → (l, s) ∷ [] ≡ map step_in texts → Single l s xs
    go [] a b c = absurd (cc)
    go (t ∷ []) a (b, bs) c =
        let i : (l, s) ≡ step_in t = cc in
        record { text = t; spelled = b; tokens = a ∙ append-nil t.tokens; is = i }
    go (t ∷ u ∷ us) a b c = absurd (cc)

-- between steps, steps with proof parts are spelled
pub record FromSteps (ts : List Token) (es : List Entry) : Type 0 where
  pub texts : List HintedText
  pub tokens_are : ts ≡ tokens_in texts
  pub spelled : AllByRecursion IsHintedSpelled texts
  pub entries_are : es ≡ map hinted_entry (map hinted_of texts)

-- what is behind the 0 of a step of each kind
record Behind (n l : ℕ) (s : ProofStep) (k : Kind) (ts : List Token) (es : List Entry) : Type 0 where
  proof : ProofPart
  behind : List Token
  rest : List Token
  later : List Entry
  split : ts ≡ behind ++ rest
  kinds : kinds_of behind ≡ numbers_kinds (part_numbers k proof)
  part : IsPartOf k proof
  entries : es ≡ (l, s, Some proof) ∷ later
  gets : Gets n (steps None) rest later

behind-parsed : (n l : ℕ) (s : ProofStep) (k : Kind) (ts : List Token) (es : List Entry) →
    follow (behind_step k l s) 0 (λ q. parsed (at_end n) q ts) ≡ all_read es → Behind n l s k ts es
behind-parsed n l s Add ts es e =
    let r = part-parsed n l s ts stage.Kind (begun_part Nothing 0) es e in
    record {
      proof = r.proof;
      behind = r.behind;
      rest = r.rest;
      later = r.later;
      split = r.split;
      kinds = r.kinds ∙ ap numbers_kinds r.fits.numbers;
      part = (r.fits.number, r.fits.groups);
      entries = r.entries;
      gets = r.gets;
    }
behind-parsed n l s Delete ts es e =
    let r = part-parsed n l s ts stage.Number (begun_part Nothing 0) es e in
    record {
      proof = r.proof;
      behind = r.behind;
      rest = r.rest;
      later = r.later;
      split = r.split;
      kinds = r.kinds ∙ (ap numbers_kinds r.fits.numbers ∙ rw (r.fits.proof.numbers, r.fits.proof.number) refl);
      part = (subst IsNumber (sym r.fits.proof.number) r.fits.small, r.fits.proof.groups);
      entries = r.entries;
      gets = r.gets;
    }
behind-parsed n l s Drop ts es e =
    let r = part-parsed n l s ts stage.Number (begun_part Nothing 0) es e in
    record {
      proof = r.proof;
      behind = r.behind;
      rest = r.rest;
      later = r.later;
      split = r.split;
      kinds = r.kinds ∙ (ap numbers_kinds r.fits.numbers ∙ rw (r.fits.proof.numbers, r.fits.proof.number) refl);
      part = (subst IsNumber (sym r.fits.proof.number) r.fits.small, r.fits.proof.groups);
      entries = r.entries;
      gets = r.gets;
    }
behind-parsed n l s Fresh ts es e =
    let h = onto-read (l, s, Some no_part) (parsed (at_end n) (steps None) ts) es e in
    record { proof = no_part; behind = []; rest = ts; later = h.0; split = refl; kinds = refl; part = refl; entries = h.1; gets = h.2 }
behind-parsed n l s Remove ts es e =
    let h = onto-read (l, s, Some no_part) (parsed (at_end n) (steps None) ts) es e in
    record { proof = no_part; behind = []; rest = ts; later = h.0; split = refl; kinds = refl; part = refl; entries = h.1; gets = h.2 }

-- a step at the front, where what is behind it is spelled
texts-step : (n : ℕ) (ts : List Token) (es : List Entry) → Gets n (steps None) ts es →
    ((rest : List Token) (later : List Entry) → length rest + 1 ≤ length ts → Gets n (steps None) rest later → FromSteps rest later) → FromSteps ts es
texts-step n ts es e ih = elim (step-parsed n ts None es e) [
  | inl h ↦ record { texts = []; tokens_are = h.tokens; spelled = tt; entries_are = h.entries }
  | inr h ↦ together h (ih (back h).rest (back h).later (shorter h) (back h).gets)
]
  where
    front : (h : Stepped n None ts es) → Single h.line h.step h.tokens
    front h = single n h.line h.step h.tokens h.alone

    kind : (h : Stepped n None ts es) → kind_of h.step ≡ (front h).text.kind
    kind h = ap (λ (x : ℕ × ProofStep). kind_of x.1) (front h).is ∙ kind-kept (front h).text.kind (front h).text.lits

    back : (h : Stepped n None ts es) → Behind n h.line h.step (front h).text.kind h.rest es
    back h = behind-parsed n h.line h.step (front h).text.kind h.rest es (ap (λ k. follow (behind_step k h.line h.step) 0 (λ q. parsed (at_end n) q h.rest)) (sym (kind h)) ∙ h.later)

    shorter : (h : Stepped n None ts es) → length (back h).rest + 1 ≤ length ts
    shorter h =
        let a = ap length h.split in
        let b = ap length (back h).split in
        omega (arith, length-append h.tokens h.rest, length-append (back h).behind (back h).rest, h.some)

    together : (h : Stepped n None ts es) → FromSteps (back h).rest (back h).later → FromSteps ts es
    together h r =
        let f = front h in
        let b = back h in
        let t : HintedText = record { step = f.text; behind = b.behind; proof = b.proof } in
        record {
          texts = t ∷ r.texts;
          tokens_are = h.split ∙ (ap (λ (xs : List Token). xs ++ h.rest) f.tokens ∙ (ap (λ (xs : List Token). f.text.tokens ++ xs) b.split ∙ ap (λ (xs : List Token). f.text.tokens ++ (b.behind ++ xs)) r.tokens_are));
          spelled = (record { step = f.spelled; kinds = b.kinds; part = b.part }, r.spelled);
          entries_are = b.entries ∙ (ap (λ (x : ℕ × ProofStep). (x.0, x.1, Some b.proof) ∷ b.later) f.is ∙ ap (λ (xs : List Entry). hinted_entry (hinted_of t) ∷ xs) r.entries_are);
        }

-- of at most so many tokens
texts-within : (m n : ℕ) (ts : List Token) (es : List Entry) → length ts ≤ m → Gets n (steps None) ts es → FromSteps ts es
texts-within zero n ts es h e = texts-step n ts es e (λ rest later l g. absurd (omega arith))
texts-within (suc m) n ts es h e = texts-step n ts es e (λ rest later l g. texts-within m n rest later (omega arith) g)

pub texts-parsed : (n : ℕ) (ts : List Token) (es : List Entry) → Gets n (steps None) ts es → FromSteps ts es
texts-parsed n ts es e = texts-within (length ts) n ts es (omega arith) e

-- the header, and then steps
pub record FromFront (ts : List Token) (es : List Entry) : Type 0 where
  pub header : List Token
  pub rest : List Token
  pub split : ts ≡ header ++ rest
  pub opens : kinds_of header ≡ P ∷ Qrat ∷ Number (pos 2) ∷ []
  pub steps : FromSteps rest es

behind-version : (n : ℕ) (ts : List Token) (es : List Entry) → Gets n version ts es →
    (t : Token) × (rest : List Token) × (ts ≡ t ∷ rest) × (t.kind ≡ Number (pos 2)) × Gets n (steps None) rest es
behind-version n [] es e = never-refused (BadLine n) es e
behind-version n (t ∷ ts) es e = go t.kind refl e
  where
    Found : Type 0
    Found = (x : Token) × (rest : List Token) × (t ∷ ts ≡ x ∷ rest) × (x.kind ≡ Number (pos 2)) × Gets n (steps None) rest es

    two : (v : ℕ) (b : Bool) → (v == 2) ≡ b → t.kind ≡ Number (pos v) → follow (if b then leads (steps None) else misfit) t.line (λ q. parsed (at_end n) q ts) ≡ all_read es → Found
    two v true h i f =
        let w : v ≡ 2 = grind (arith, nat_tests) in
        (t, ts, refl, i ∙ ap (λ x. Number (pos x)) w, f)
    two v false h i f = never-refused (BadLine t.line) es f

    signed : (z : ℤ) → t.kind ≡ Number z → follow (profile_move z) t.line (λ q. parsed (at_end n) q ts) ≡ all_read es → Found
    signed (pos v) i f = two v (v == 2) refl i f
    signed (negsuc v) i f = never-refused (BadLine t.line) es f

    go : (k : TokenKind) → t.kind ≡ k → follow (version_move k) t.line (λ q. parsed (at_end n) q ts) ≡ all_read es → Found
    go (Number z) i f = signed z i f
    go P i f = never-refused (BadLine t.line) es f
    go Cnf i f = never-refused (BadLine t.line) es f
    go Qrat i f = never-refused (BadLine t.line) es f
    go E i f = never-refused (BadLine t.line) es f
    go A i f = never-refused (BadLine t.line) es f
    go D i f = never-refused (BadLine t.line) es f
    go U i f = never-refused (BadLine t.line) es f
    go R i f = never-refused (BadLine t.line) es f
    go Other i f = never-refused (BadLine t.line) es f

behind-format : (n : ℕ) (ts : List Token) (es : List Entry) → Gets n format ts es →
    (t : Token) × (rest : List Token) × (ts ≡ t ∷ rest) × (t.kind ≡ Qrat) × Gets n version rest es
behind-format n [] es e = never-refused (BadLine n) es e
behind-format n (t ∷ ts) es e = go t.kind refl e
  where
    Found : Type 0
    Found = (x : Token) × (rest : List Token) × (t ∷ ts ≡ x ∷ rest) × (x.kind ≡ Qrat) × Gets n version rest es

    go : (k : TokenKind) → t.kind ≡ k → follow (format_move k) t.line (λ q. parsed (at_end n) q ts) ≡ all_read es → Found
    go Qrat i f = (t, ts, refl, i, f)
    go (Number z) i f = never-refused (BadLine t.line) es f
    go P i f = never-refused (BadLine t.line) es f
    go Cnf i f = never-refused (BadLine t.line) es f
    go E i f = never-refused (BadLine t.line) es f
    go A i f = never-refused (BadLine t.line) es f
    go D i f = never-refused (BadLine t.line) es f
    go U i f = never-refused (BadLine t.line) es f
    go R i f = never-refused (BadLine t.line) es f
    go Other i f = never-refused (BadLine t.line) es f

-- a log whose first token is p
pub front-parsed : (n : ℕ) (t : Token) (ts : List Token) (es : List Entry) → t.kind ≡ P → Gets n format ts es → FromFront (t ∷ ts) es
front-parsed n t ts es k e =
    let a = behind-format n ts es e in
    let b = behind-version n a.1 es a.4 in
    record {
      header = t ∷ a.0 ∷ b.0 ∷ [];
      rest = b.1;
      split = ap (λ (xs : List Token). t ∷ xs) (a.2 ∙ ap (λ (xs : List Token). a.0 ∷ xs) b.2);
      opens = rw (k, a.3, b.3) refl;
      steps = texts-parsed n b.1 es b.4;
    }
