-- The first token tells the profile: the steps of the first are those of a plain log, and in the second each step has a
-- proof part.
use Rattle.std.proofs.Common.{◌≡◌, ◌≤◌, ◌==◌, ℕ, nat_le, Bool, true, false, List, [], ◌∷◌, ◌++◌, map, length, take, Option, Some, None, refl, sym, ap, ◌∙◌, arith, ℤ, pos, negsuc, if◌then◌else◌}
use Rattle.std.proofs.lemmas.Bool.Decides.{nat_tests}
use Rattle.q_logic.specs.declared.proof_part.ProofKind.TheVariants.{Implied, Pivot, Reach}
use Rattle.q_logic.specs.declared.steps.Kind.{Kind}
use Rattle.q_logic.specs.declared.steps.Kind.TheVariants.{Add, Delete, Drop, Fresh, Remove}
use Rattle.q_logic.specs.Prelude.{Hinted, ProofPart, ProofStep, kind_of}
use Rattle.q_logic.specs.ProofParts.{begun_part}
use Rattle.q_text.specs.declared.tokens.Token.{Token}
use Rattle.q_text.specs.declared.tokens.TokenKind.{TokenKind}
use Rattle.q_text.specs.declared.tokens.TokenKind.TheVariants.{Number, P, Cnf, Qrat, E, A, D, U, R, Other}
use Rattle.q_text.specs.Texts.{tokens_of, tokens_ended, line_after}
use Rattle.q_log.specs.declared.error.LogError.{LogError}
use Rattle.q_log.specs.declared.error.LogError.TheVariants.{BadLine, Limit}
use Rattle.q_log.specs.Grammar.{OpenStep, Move, ends_step, goes_on, unfit, move}
use Rattle.q_log.specs.Logs as plain_logs
use Rattle.q_hinted.specs.declared.builder.Stage.{Stage}
use Rattle.q_hinted.specs.declared.builder.Stage.TheVariants as stage
use Rattle.q_hinted.specs.Grammar.{Place, nowhere, format, version, plain, steps, proving, EntryMove, hands, leads, misfit, place_move, part_move, number_in, behind_step, in_plain, in_steps, with_zero, with_number, kind_move, front_move, format_move, version_move, profile_move, first_profile, profile_at}
use Rattle.q_hinted.specs.Logs.{Entry, Entries, hinted_entry, plain_entries, onto, follow, parsed, at_end, past_limit, read_entries, profile_of, Profile, hinted_in, all_or_none, HintedSteps}
use Rattle.q_hinted.specs.Spelled.{kinds_of, hinted_of, tokens_in, HintedLog}
use Rattle.q_hinted.proofs.HintedSpelledIsRead.{header-read, texts-read, all-hinted}
use Rattle.q_hinted.proofs.HintedReadIsSpelled.{all_read, Gets, FromFront, front-parsed}

-- among the steps of the first profile
steps-plain : (last : Option OpenStep → Option LogError) (end : Place → Option LogError) → ((o : Option OpenStep) → end (plain o) ≡ last o) →
    (o : Option OpenStep) (ts : List Token) → parsed end (plain o) ts ≡ plain_entries (plain_logs.parsed last o ts)
steps-plain last end h o [] = ap (λ (x : Option LogError). let y : Entries = record { entries = []; refused = x } in y) (h o)
steps-plain last end h o (t ∷ ts) = go (move o t) (λ o. steps-plain last end h o ts)
  where
    go : (m : Move) → ((o : Option OpenStep) → parsed end (plain o) ts ≡ plain_entries (plain_logs.parsed last o ts)) →
        follow (in_plain m) t.line (λ q. parsed end q ts) ≡ plain_entries (plain_logs.follow m t.line (λ o. plain_logs.parsed last o ts))
    go (ends_step n s) ih = ap (onto (n, s, None)) (ih None)
    go (goes_on o) ih = ih (Some o)
    go unfit ih = refl

front-plain : (t : Token) (k : TokenKind) → first_profile k ≡ 1 → front_move t k ≡ in_plain (move None t)
front-plain t P e = absurd (omega arith)
front-plain t (Number z) e = refl
front-plain t Cnf e = refl
front-plain t Qrat e = refl
front-plain t E e = refl
front-plain t A e = refl
front-plain t D e = refl
front-plain t U e = refl
front-plain t R e = refl
front-plain t Other e = refl

tokens-plain : (last : Option OpenStep → Option LogError) (end : Place → Option LogError) → ((o : Option OpenStep) → end (plain o) ≡ last o) → end nowhere ≡ last None →
    (ts : List Token) → profile_of ts ≡ 1 → parsed end nowhere ts ≡ plain_entries (plain_logs.parsed last None ts)
tokens-plain last end h f [] e = ap (λ (x : Option LogError). let y : Entries = record { entries = []; refused = x } in y) f
tokens-plain last end h f (t ∷ ts) e =
    ap (λ m. follow m t.line (λ q. parsed end q ts)) (front-plain t t.kind e) ∙ steps-plain last end h None (t ∷ ts)

end-plain : (n : ℕ) (o : Option OpenStep) → at_end n (plain o) ≡ plain_logs.at_end n o
end-plain n None = refl
end-plain n (Some o) = refl

pub plain-read : (limit : ℕ) (bytes : List ℕ) → Profile limit bytes ≡ 1 → read_entries limit bytes ≡ plain_entries (plain_logs.read limit bytes)
plain-read limit bytes e = go (nat_le (length bytes) limit) e
  where
    go : (u : Bool) → profile_of (if u then tokens_of bytes else tokens_ended (take limit bytes)) ≡ 1 →
        (if u then parsed (at_end (line_after bytes)) nowhere (tokens_of bytes) else parsed (past_limit (line_after (take limit bytes))) nowhere (tokens_ended (take limit bytes))) ≡
        plain_entries (if u then plain_logs.parsed (plain_logs.at_end (line_after bytes)) None (tokens_of bytes)
        else plain_logs.parsed (plain_logs.past_limit (line_after (take limit bytes))) None (tokens_ended (take limit bytes)))
    go true f = tokens-plain (plain_logs.at_end (line_after bytes)) (at_end (line_after bytes)) (end-plain (line_after bytes)) refl (tokens_of bytes) f
    go false f =
        tokens-plain (plain_logs.past_limit (line_after (take limit bytes))) (past_limit (line_after (take limit bytes))) (λ o. refl) refl (tokens_ended (take limit bytes)) f

-- in the second profile the first token is no step
is-p : (k : TokenKind) → first_profile k ≡ 2 → k ≡ P
is-p P e = refl
is-p (Number z) e = absurd (omega arith)
is-p Cnf e = absurd (omega arith)
is-p Qrat e = absurd (omega arith)
is-p E e = absurd (omega arith)
is-p A e = absurd (omega arith)
is-p D e = absurd (omega arith)
is-p U e = absurd (omega arith)
is-p R e = absurd (omega arith)
is-p Other e = absurd (omega arith)

first-unfit : (last : Option OpenStep → Option LogError) (ts : List Token) → profile_of ts ≡ 2 →
    plain_logs.all_or_none (plain_logs.parsed last None ts).refused (plain_logs.parsed last None ts).steps ≡ None
first-unfit last [] e = absurd (omega arith)
first-unfit last (t ∷ ts) e =
    let k : t.kind ≡ P = is-p t.kind e in
    rw k refl

pub no-steps : (limit : ℕ) (bytes : List ℕ) → Profile limit bytes ≡ 2 → plain_logs.Steps limit bytes ≡ None
no-steps limit bytes e = go (nat_le (length bytes) limit) e
  where
    go : (u : Bool) → profile_of (if u then tokens_of bytes else tokens_ended (take limit bytes)) ≡ 2 →
        let o : plain_logs.Parsed = if u then plain_logs.parsed (plain_logs.at_end (line_after bytes)) None (tokens_of bytes)
        else plain_logs.parsed (plain_logs.past_limit (line_after (take limit bytes))) None (tokens_ended (take limit bytes)) in
        plain_logs.all_or_none o.refused o.steps ≡ None
    go true f = first-unfit (plain_logs.at_end (line_after bytes)) (tokens_of bytes) f
    go false f = first-unfit (plain_logs.past_limit (line_after (take limit bytes))) (tokens_ended (take limit bytes)) f

-- a step that is handed out in the second profile has a proof part
abbrev StaysHinted : EntryMove → Type 0
StaysHinted (hands n s None q) = ⊥
StaysHinted (hands n s (Some t) q) = profile_at q ≡ 2
StaysHinted (leads q) = profile_at q ≡ 2
StaysHinted misfit = Unit {0}

stays-if : (b : Bool) (x y : EntryMove) → StaysHinted x → StaysHinted y → StaysHinted (if b then x else y)
stays-if true x y h k = h
stays-if false x y h k = k

kind-stays : (k : Kind) (n : ℕ) (s : ProofStep) → StaysHinted (behind_step k n s)
kind-stays Add n s = refl
kind-stays Delete n s = refl
kind-stays Drop n s = refl
kind-stays Fresh n s = refl
kind-stays Remove n s = refl

steps-stay : (m : Move) → StaysHinted (in_steps m)
steps-stay (ends_step n s) = kind-stays (kind_of s) n s
steps-stay (goes_on o) = refl
steps-stay unfit = tt

zero-stays : (n : ℕ) (s : ProofStep) (t : ProofPart) (g : Stage) → StaysHinted (with_zero n s t g)
zero-stays n s t stage.Number = tt
zero-stays n s t stage.Kind = tt
zero-stays n s t stage.Hints = refl
zero-stays n s t stage.Targets = refl
zero-stays n s t stage.GroupHints = refl
zero-stays n s t stage.Zero = refl

kinds-stay : (n : ℕ) (s : ProofStep) (t : ProofPart) (v : ℕ) → StaysHinted (kind_move n s t v)
kinds-stay n s t v =
    let reach : EntryMove = leads (proving n s stage.Zero (begun_part Reach t.number)) in
    let pivot : EntryMove = leads (proving n s stage.Targets (begun_part Pivot t.number)) in
    let implied : EntryMove = leads (proving n s stage.Hints (begun_part Implied t.number)) in
    let third : EntryMove = if v == 3 then reach else misfit in
    let second : EntryMove = if v == 2 then pivot else third in
    stays-if (v == 1) implied second refl (stays-if (v == 2) pivot third refl (stays-if (v == 3) reach misfit refl tt))

number-stays : (n : ℕ) (s : ProofStep) (t : ProofPart) (v : ℕ) (g : Stage) → StaysHinted (with_number n s t v g)
number-stays n s t v stage.Number = refl
number-stays n s t v stage.Kind = kinds-stay n s t v
number-stays n s t v stage.Hints = refl
number-stays n s t v stage.Targets = refl
number-stays n s t v stage.GroupHints = refl
number-stays n s t v stage.Zero = tt

part-stays : (n : ℕ) (s : ProofStep) (t : ProofPart) (g : Stage) (o : Option ℕ) → StaysHinted (part_move n s t g o)
part-stays n s t g None = tt
part-stays n s t g (Some v) = stays-if (v == 0) (with_zero n s t g) (with_number n s t v g) (zero-stays n s t g) (number-stays n s t v g)

format-stays : (k : TokenKind) → StaysHinted (format_move k)
format-stays Qrat = refl
format-stays P = tt
format-stays (Number z) = tt
format-stays Cnf = tt
format-stays E = tt
format-stays A = tt
format-stays D = tt
format-stays U = tt
format-stays R = tt
format-stays Other = tt

profile-stays : (z : ℤ) → StaysHinted (profile_move z)
profile-stays (pos v) = stays-if (v == 2) (leads (steps None)) misfit refl tt
profile-stays (negsuc v) = tt

version-stays : (k : TokenKind) → StaysHinted (version_move k)
version-stays (Number z) = profile-stays z
version-stays P = tt
version-stays Cnf = tt
version-stays Qrat = tt
version-stays E = tt
version-stays A = tt
version-stays D = tt
version-stays U = tt
version-stays R = tt
version-stays Other = tt

move-stays : (p : Place) (t : Token) → profile_at p ≡ 2 → StaysHinted (place_move p t)
move-stays nowhere t e = absurd (omega arith)
move-stays format t e = format-stays t.kind
move-stays version t e = version-stays t.kind
move-stays (plain o) t e = absurd (omega arith)
move-stays (steps o) t e = steps-stay (move o t)
move-stays (proving n s g p) t e = part-stays n s p g (number_in t.kind)

-- all entries have proof parts
abbrev AreHinted : List Entry → Type 0
AreHinted es = es ≡ map hinted_entry (hinted_in es)

entries-hinted : (last : Place → Option LogError) (p : Place) (ts : List Token) → profile_at p ≡ 2 → AreHinted (parsed last p ts).entries
entries-hinted last p [] e = refl
entries-hinted last p (t ∷ ts) e = go (place_move p t) (move-stays p t e) (λ q. entries-hinted last q ts)
  where
    go : (m : EntryMove) → StaysHinted m → ((q : Place) → profile_at q ≡ 2 → AreHinted (parsed last q ts).entries) → AreHinted (follow m t.line (λ q. parsed last q ts)).entries
    go (hands n s None q) h ih = absurd h
    go (hands n s (Some x) q) h ih = ap (λ (es : List Entry). (n, s, Some x) ∷ es) (ih q h)
    go (leads q) h ih = ih q h
    go misfit h ih = refl

front-hinted : (last : Place → Option LogError) (ts : List Token) → profile_of ts ≡ 2 → AreHinted (parsed last nowhere ts).entries
front-hinted last [] e = absurd (omega arith)
front-hinted last (t ∷ ts) e =
    let k : t.kind ≡ P = is-p t.kind e in
    rw k (entries-hinted last format ts refl)

pub parts-read : (limit : ℕ) (bytes : List ℕ) → Profile limit bytes ≡ 2 → AreHinted (read_entries limit bytes).entries
parts-read limit bytes e = go (nat_le (length bytes) limit) e
  where
    go : (u : Bool) → profile_of (if u then tokens_of bytes else tokens_ended (take limit bytes)) ≡ 2 →
        AreHinted (if u then parsed (at_end (line_after bytes)) nowhere (tokens_of bytes) else parsed (past_limit (line_after (take limit bytes))) nowhere (tokens_ended (take limit bytes))).entries
    go true f = front-hinted (at_end (line_after bytes)) (tokens_of bytes) f
    go false f = front-hinted (past_limit (line_after (take limit bytes))) (tokens_ended (take limit bytes)) f

-- a spelled log is read
pub hinted-read : (limit : ℕ) (bytes : List ℕ) (hs : List (ℕ × Hinted)) → HintedLog limit bytes hs → HintedSteps limit bytes ≡ Some hs
hinted-read limit bytes hs h =
    let short : length bytes ≤ limit = h.short in
    let within : nat_le (length bytes) limit ≡ true = grind (arith, nat_tests) in
    let profile : profile_of (h.header ++ tokens_in h.texts) ≡ 2 = opened h.header (tokens_in h.texts) h.opens in
    let reads : parsed (at_end (line_after bytes)) nowhere (h.header ++ tokens_in h.texts) ≡ all_read (map hinted_entry (map hinted_of h.texts)) =
    header-read (at_end (line_after bytes)) h.header (tokens_in h.texts) h.opens ∙ texts-read (at_end (line_after bytes)) h.texts h.spelled in
    rw (within, h.tokens, profile, reads, all-hinted (map hinted_of h.texts)) (ap Some (sym h.hinted_are))
  where
    opened : (header rest : List Token) → kinds_of header ≡ P ∷ Qrat ∷ Number (pos 2) ∷ [] → profile_of (header ++ rest) ≡ 2
    opened [] rest e = absurd (cc)
    opened (t ∷ ts) rest e = let k : t.kind ≡ P = cc in rw k refl

never-past : (n : ℕ) (ts : List Token) (p : Place) (es : List Entry) → parsed (past_limit n) p ts ≡ all_read es → ⊥
never-past n [] p es e = let r : Some (Limit n) ≡ None = ap (λ (o : Entries). o.refused) e in cc
never-past n (t ∷ ts) p es e = go (place_move p t) (never-past n ts) e
  where
    go : (m : EntryMove) → ((p : Place) (es : List Entry) → parsed (past_limit n) p ts ≡ all_read es → ⊥) → follow m t.line (λ q. parsed (past_limit n) q ts) ≡ all_read es → ⊥
    go (hands l s x q) ih f =
        let later : Entries = parsed (past_limit n) q ts in
        let done : later.refused ≡ None = ap (λ (o : Entries). o.refused) f in
        ih q later.entries (ap (λ (r : Option LogError). let y : Entries = record { entries = later.entries; refused = r } in y) done)
    go (leads q) ih f = ih q es f
    go misfit ih f = let r : Some (BadLine t.line) ≡ None = ap (λ (o : Entries). o.refused) f in cc

-- what is read whole was not refused
none-refused : (o : Entries) (hs : List (ℕ × Hinted)) → all_or_none o.refused (hinted_in o.entries) ≡ Some hs → (o ≡ all_read o.entries) × (hinted_in o.entries ≡ hs)
none-refused o hs e = go o.refused refl e
  where
    go : (r : Option LogError) → o.refused ≡ r → all_or_none r (hinted_in o.entries) ≡ Some hs → (o ≡ all_read o.entries) × (hinted_in o.entries ≡ hs)
    go None f g = (ap (λ (r : Option LogError). let y : Entries = record { entries = o.entries; refused = r } in y) f, cc)
    go (Some x) f g = absurd (cc)

second : (limit : ℕ) (bytes : List ℕ) (hs : List (ℕ × Hinted)) → HintedSteps limit bytes ≡ Some hs →
    (Profile limit bytes ≡ 2) × (all_or_none (read_entries limit bytes).refused (hinted_in (read_entries limit bytes).entries) ≡ Some hs)
second limit bytes hs e = go (Profile limit bytes == 2) refl e
  where
    go : (b : Bool) → (Profile limit bytes == 2) ≡ b → (if b then all_or_none (read_entries limit bytes).refused (hinted_in (read_entries limit bytes).entries) else None) ≡ Some hs →
        (Profile limit bytes ≡ 2) × (all_or_none (read_entries limit bytes).refused (hinted_in (read_entries limit bytes).entries) ≡ Some hs)
    go true f g = (grind (arith, nat_tests), g)
    go false f g = absurd (cc)

-- what is read is spelled
pub hinted-spelled : (limit : ℕ) (bytes : List ℕ) (hs : List (ℕ × Hinted)) → HintedSteps limit bytes ≡ Some hs → HintedLog limit bytes hs
hinted-spelled limit bytes hs e =
    let p = second limit bytes hs e in
    let r = none-refused (read_entries limit bytes) hs p.1 in
    go (nat_le (length bytes) limit) refl p.0 (read_entries limit bytes).entries r.0 r.1
  where
    spelled : length bytes ≤ limit → (ts : List Token) → tokens_of bytes ≡ ts → profile_of ts ≡ 2 → (es : List Entry) → Gets (line_after bytes) nowhere ts es → hinted_in es ≡ hs → HintedLog limit bytes hs
    spelled short [] t p es g i = absurd (omega arith)
    spelled short (x ∷ ts) t p es g i =
        let k : x.kind ≡ P = is-p x.kind p in
        let f : FromFront (x ∷ ts) es = front-parsed (line_after bytes) x ts es k (rw k at g) in
        record {
          header = f.header;
          texts = f.steps.texts;
          short = short;
          opens = f.opens;
          tokens = t ∙ (f.split ∙ ap (λ (xs : List Token). f.header ++ xs) f.steps.tokens_are);
          spelled = f.steps.spelled;
          hinted_are = sym i ∙ (ap hinted_in f.steps.entries_are ∙ all-hinted (map hinted_of f.steps.texts));
        }

    go : (u : Bool) → nat_le (length bytes) limit ≡ u → profile_of (if u then tokens_of bytes else tokens_ended (take limit bytes)) ≡ 2 → (es : List Entry) →
        (if u then parsed (at_end (line_after bytes)) nowhere (tokens_of bytes) else parsed (past_limit (line_after (take limit bytes))) nowhere (tokens_ended (take limit bytes))) ≡ all_read es →
        hinted_in es ≡ hs → HintedLog limit bytes hs
    go true u p es g i = let l : length bytes ≤ limit = grind (arith, nat_tests) in spelled l (tokens_of bytes) refl p es g i
    go false u p es g i = absurd (never-past (line_after (take limit bytes)) (tokens_ended (take limit bytes)) nowhere es g)
