-- Lines rise in a log of either profile.
use Rattle.std.proofs.Common.{◌≡◌, ◌≤◌, ◌==◌, ℕ, nat_le, Bool, true, false, List, [], ◌∷◌, length, take, if◌then◌else◌, Option, Some, None, refl, sym, subst, ℤ, pos, negsuc}
use Rattle.q_logic.specs.declared.steps.Kind.{Kind}
use Rattle.q_logic.specs.declared.steps.Kind.TheVariants.{Add, Delete, Drop, Fresh, Remove}
use Rattle.q_logic.specs.declared.proof_part.ProofKind.TheVariants.{Implied, Pivot, Reach}
use Rattle.q_logic.specs.ProofParts.{begun_part}
use Rattle.q_logic.specs.Prelude.{ProofPart, ProofStep, kind_of}
use Rattle.q_text.specs.declared.tokens.Token.{Token}
use Rattle.q_text.specs.declared.tokens.TokenKind.{TokenKind}
use Rattle.q_text.specs.declared.tokens.TokenKind.TheVariants.{Number, P, Cnf, Qrat, E, A, D, U, R, Other}
use Rattle.q_text.specs.Texts.{tokens_of, tokens_ended, line_after}
use Rattle.q_log.specs.declared.error.LogError.{LogError}
use Rattle.q_log.specs.Grammar.{Move, ends_step, goes_on, unfit, move}
use Rattle.q_hinted.specs.declared.builder.Stage.{Stage}
use Rattle.q_hinted.specs.declared.builder.Stage.TheVariants as stage
use Rattle.q_hinted.specs.Grammar.{Place, nowhere, format, version, plain, steps, proving, EntryMove, hands, leads, misfit, place_move, in_plain, in_steps, behind_step, with_zero, with_number, kind_move, part_move, number_in, front_move, format_move, version_move, profile_move}
use Rattle.q_hinted.specs.Logs.{Entry as BothEntry, follow, parsed, at_end, past_limit, open_end, read_entries, hinted_in, if_hinted}
use Rattle.q_command.specs.Logs.{HintedEntry}
use Rattle.q_parts.proofs.RisingLines.{at-most, itself, AreRising, IsFrom, IsOfLine, from-earlier, origin, move-line, tokens-rising, ended-rising}

-- the lines of entries, and of the offence behind them
abbrev pub RiseBoth : ℕ → List BothEntry → Option LogError → Type 0
RiseBoth n [] r = IsFrom n r
RiseBoth n (e ∷ es) r = (n ≤ e.0) × RiseBoth e.0 es r

both-earlier : (n l : ℕ) (es : List BothEntry) (r : Option LogError) → n ≤ l → RiseBoth l es r → RiseBoth n es r
both-earlier n l [] r h f = from-earlier n l r h f
both-earlier n l (e ∷ es) r h f = (at-most n l e.0 h f.0, f.1)

-- the line of the step at a place, which a token on line n belongs to
abbrev origin_at : Place → ℕ → ℕ
origin_at nowhere n = n
origin_at format n = n
origin_at version n = n
origin_at (plain b) n = origin b n
origin_at (steps b) n = origin b n
origin_at (proving k s g p) n = k

-- a step is of no earlier line than a, and of none behind l
abbrev IsWithin : ℕ → ℕ → EntryMove → Type 0
IsWithin a l (hands k s t q) = (a ≤ k) × (k ≤ l) × (origin_at q l ≡ l)
IsWithin a l (leads q) = (a ≤ origin_at q l) × (origin_at q l ≤ l)
IsWithin a l misfit = Unit {0}

same-from : (a k : ℕ) → k ≡ a → a ≤ k
same-from a k q = subst (λ (x : ℕ). a ≤ x) (sym q) (itself a)

same-to : (a k l : ℕ) → k ≡ a → a ≤ l → k ≤ l
same-to a k l q h = subst (λ (x : ℕ). x ≤ l) (sym q) h

plain-within : (a l : ℕ) (x : Move) → a ≤ l → IsOfLine a x → IsWithin a l (in_plain x)
plain-within a l (ends_step k s) h q = (same-from a k q, same-to a k l q h, refl)
plain-within a l (goes_on o) h q = (same-from a o.line q, same-to a o.line l q h)
plain-within a l unfit h q = tt

steps-within : (a l : ℕ) (x : Move) → a ≤ l → IsOfLine a x → IsWithin a l (in_steps x)
steps-within a l (ends_step n s) h q = go (kind_of s)
  where
    go : (k : Kind) → IsWithin a l (behind_step k n s)
    go Add = (same-from a n q, same-to a n l q h)
    go Delete = (same-from a n q, same-to a n l q h)
    go Drop = (same-from a n q, same-to a n l q h)
    go Fresh = (same-from a n q, same-to a n l q h, refl)
    go Remove = (same-from a n q, same-to a n l q h, refl)
steps-within a l (goes_on o) h q = (same-from a o.line q, same-to a o.line l q h)
steps-within a l unfit h q = tt

zero-within : (n l : ℕ) (s : ProofStep) (p : ProofPart) (g : Stage) → n ≤ l → IsWithin n l (with_zero n s p g)
zero-within n l s p stage.Number h = tt
zero-within n l s p stage.Kind h = tt
zero-within n l s p stage.Hints h = (itself n, h, refl)
zero-within n l s p stage.Targets h = (itself n, h, refl)
zero-within n l s p stage.GroupHints h = (itself n, h)
zero-within n l s p stage.Zero h = (itself n, h, refl)

kind-within : (n l : ℕ) (s : ProofStep) (p : ProofPart) (v : ℕ) → n ≤ l → IsWithin n l (kind_move n s p v)
kind-within n l s p v h = go (v == 1) (v == 2) (v == 3)
  where
    go : (x y z : Bool) →
        IsWithin n l
        (if x then leads (proving n s stage.Hints (begun_part Implied p.number))
        else (if y then leads (proving n s stage.Targets (begun_part Pivot p.number))
        else (if z then leads (proving n s stage.Zero (begun_part Reach p.number))
        else misfit)))
    go true y z = (itself n, h)
    go false true z = (itself n, h)
    go false false true = (itself n, h)
    go false false false = tt

number-within : (n l : ℕ) (s : ProofStep) (p : ProofPart) (v : ℕ) (g : Stage) → n ≤ l → IsWithin n l (with_number n s p v g)
number-within n l s p v stage.Number h = (itself n, h)
number-within n l s p v stage.Kind h = kind-within n l s p v h
number-within n l s p v stage.Hints h = (itself n, h)
number-within n l s p v stage.Targets h = (itself n, h)
number-within n l s p v stage.GroupHints h = (itself n, h)
number-within n l s p v stage.Zero h = tt

part-within : (n l : ℕ) (s : ProofStep) (p : ProofPart) (g : Stage) (o : Option ℕ) → n ≤ l → IsWithin n l (part_move n s p g o)
part-within n l s p g None h = tt
part-within n l s p g (Some v) h = go (v == 0)
  where
    go : (x : Bool) → IsWithin n l (if x then with_zero n s p g else with_number n s p v g)
    go true = zero-within n l s p g h
    go false = number-within n l s p v g h

front-within : (t : Token) (k : TokenKind) → IsOfLine t.line (move None t) → IsWithin t.line t.line (front_move t k)
front-within t P q = (itself t.line, itself t.line)
front-within t (Number z) q = plain-within t.line t.line (move None t) (itself t.line) q
front-within t Cnf q = plain-within t.line t.line (move None t) (itself t.line) q
front-within t Qrat q = plain-within t.line t.line (move None t) (itself t.line) q
front-within t E q = plain-within t.line t.line (move None t) (itself t.line) q
front-within t A q = plain-within t.line t.line (move None t) (itself t.line) q
front-within t D q = plain-within t.line t.line (move None t) (itself t.line) q
front-within t U q = plain-within t.line t.line (move None t) (itself t.line) q
front-within t R q = plain-within t.line t.line (move None t) (itself t.line) q
front-within t Other q = plain-within t.line t.line (move None t) (itself t.line) q

format-within : (l : ℕ) (k : TokenKind) → IsWithin l l (format_move k)
format-within l Qrat = (itself l, itself l)
format-within l (Number z) = tt
format-within l P = tt
format-within l Cnf = tt
format-within l E = tt
format-within l A = tt
format-within l D = tt
format-within l U = tt
format-within l R = tt
format-within l Other = tt

profile-within : (l : ℕ) (z : ℤ) → IsWithin l l (profile_move z)
profile-within l (pos v) = go (v == 2)
  where
    go : (x : Bool) → IsWithin l l (if x then leads (steps None) else misfit)
    go true = (itself l, itself l)
    go false = tt
profile-within l (negsuc v) = tt

version-within : (l : ℕ) (k : TokenKind) → IsWithin l l (version_move k)
version-within l (Number z) = profile-within l z
version-within l P = tt
version-within l Cnf = tt
version-within l Qrat = tt
version-within l E = tt
version-within l A = tt
version-within l D = tt
version-within l U = tt
version-within l R = tt
version-within l Other = tt

place-within : (p : Place) (t : Token) → origin_at p t.line ≤ t.line → IsWithin (origin_at p t.line) t.line (place_move p t)
place-within nowhere t h = front-within t t.kind (move-line None t)
place-within format t h = format-within t.line t.kind
place-within version t h = version-within t.line t.kind
place-within (plain b) t h = plain-within (origin b t.line) t.line (move b t) h (move-line b t)
place-within (steps b) t h = steps-within (origin b t.line) t.line (move b t) h (move-line b t)
place-within (proving n s g p) t h = part-within n t.line s p g (number_in t.kind) h

place-later : (p : Place) (n l : ℕ) → origin_at p n ≤ n → n ≤ l → (origin_at p n ≤ origin_at p l) × (origin_at p l ≤ l)
place-later nowhere n l h k = (k, itself l)
place-later format n l h k = (k, itself l)
place-later version n l h k = (k, itself l)
place-later (plain None) n l h k = (k, itself l)
place-later (plain (Some o)) n l h k = (itself o.line, at-most o.line n l h k)
place-later (steps None) n l h k = (k, itself l)
place-later (steps (Some o)) n l h k = (itself o.line, at-most o.line n l h k)
place-later (proving j s g p) n l h k = (itself j, at-most j n l h k)

parsed-rises : (last : Place → Option LogError) (m : ℕ) → ((p : Place) → IsFrom m (last p)) → (n : ℕ) (p : Place) (ts : List Token) → origin_at p n ≤ n → AreRising n ts m →
    RiseBoth (origin_at p n) (parsed last p ts).entries (parsed last p ts).refused
parsed-rises last m f n p [] h r = from-earlier (origin_at p n) m (last p) (at-most (origin_at p n) n m h r) (f p)
parsed-rises last m f n p (t ∷ ts) h r = go (place_move p t) (place-within p t w.1) (λ q k. parsed-rises last m f t.line q ts k r.1)
  where
    w : (origin_at p n ≤ origin_at p t.line) × (origin_at p t.line ≤ t.line)
    w = place-later p n t.line h r.0

    go : (x : EntryMove) → IsWithin (origin_at p t.line) t.line x → ((q : Place) → origin_at q t.line ≤ t.line → RiseBoth (origin_at q t.line) (parsed last q ts).entries (parsed last q ts).refused) →
        RiseBoth (origin_at p n) (follow x t.line (λ q. parsed last q ts)).entries (follow x t.line (λ q. parsed last q ts)).refused
    go (hands k s o q) z ih =
        let c : origin_at q t.line ≡ t.line = z.2 in
        let b : k ≤ origin_at q t.line = subst (λ (x : ℕ). k ≤ x) (sym c) z.1 in
        (at-most (origin_at p n) (origin_at p t.line) k w.0 z.0, both-earlier k (origin_at q t.line) (parsed last q ts).entries (parsed last q ts).refused b (ih q (same-to t.line (origin_at q t.line) t.line c (itself t.line))))
    go (leads q) z ih =
        both-earlier (origin_at p n) (origin_at q t.line) (parsed last q ts).entries (parsed last q ts).refused (at-most (origin_at p n) (origin_at p t.line) (origin_at q t.line) w.0 z.0) (ih q z.1)
    go misfit z ih = at-most (origin_at p n) (origin_at p t.line) t.line w.0 w.1

both-rise : (limit : ℕ) (bytes : List ℕ) → RiseBoth 1 (read_entries limit bytes).entries (read_entries limit bytes).refused
both-rise limit bytes = go (nat_le (length bytes) limit)
  where
    open-from : {X : Type 0} (n : ℕ) (o : Option X) → IsFrom n (open_end n o)
    open-from n None = tt
    open-from n (Some x) = itself n

    ends : (n : ℕ) (p : Place) → IsFrom n (at_end n p)
    ends n nowhere = tt
    ends n format = itself n
    ends n version = itself n
    ends n (plain o) = open-from n o
    ends n (steps o) = open-from n o
    ends n (proving k s g p) = itself n

    go : (x : Bool) →
        RiseBoth 1
        (if x then parsed (at_end (line_after bytes)) nowhere (tokens_of bytes) else parsed (past_limit (line_after (take limit bytes))) nowhere (tokens_ended (take limit bytes))).entries
        (if x then parsed (at_end (line_after bytes)) nowhere (tokens_of bytes) else parsed (past_limit (line_after (take limit bytes))) nowhere (tokens_ended (take limit bytes))).refused
    go true = parsed-rises (at_end (line_after bytes)) (line_after bytes) (ends (line_after bytes)) 1 nowhere (tokens_of bytes) (itself 1) (tokens-rising bytes)
    go false =
        let c : List ℕ = take limit bytes in
        parsed-rises (past_limit (line_after c)) (line_after c) (λ p. itself (line_after c)) 1 nowhere (tokens_ended c) (itself 1) (ended-rising c)

-- the steps with proof parts
abbrev pub RiseHinted : ℕ → List HintedEntry → Option LogError → Type 0
RiseHinted n [] r = IsFrom n r
RiseHinted n (h ∷ hs) r = (n ≤ h.0) × RiseHinted h.0 hs r

hinted-earlier : (n l : ℕ) (hs : List HintedEntry) (r : Option LogError) → n ≤ l → RiseHinted l hs r → RiseHinted n hs r
hinted-earlier n l [] r h f = from-earlier n l r h f
hinted-earlier n l (e ∷ hs) r h f = (at-most n l e.0 h f.0, f.1)

those-hinted : (n : ℕ) (es : List BothEntry) (r : Option LogError) → RiseBoth n es r → RiseHinted n (hinted_in es) r
those-hinted n [] r f = f
those-hinted n (e ∷ es) r f = go e.2 (those-hinted e.0 es r f.1)
  where
    go : (t : Option ProofPart) → RiseHinted e.0 (hinted_in es) r → RiseHinted n (if_hinted e.0 e.1 t (hinted_in es)) r
    go None ih = hinted-earlier n e.0 (hinted_in es) r f.0 ih
    go (Some t) ih = (f.0, ih)

pub hinted-log-rises : (limit : ℕ) (bytes : List ℕ) → RiseHinted 1 (hinted_in (read_entries limit bytes).entries) (read_entries limit bytes).refused
hinted-log-rises limit bytes = those-hinted 1 (read_entries limit bytes).entries (read_entries limit bytes).refused (both-rise limit bytes)
