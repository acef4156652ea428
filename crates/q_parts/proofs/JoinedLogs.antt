-- The steps of two logs, one behind the other, where the first one ends a line.
use Rattle.std.proofs.Common.{◌≡◌, ◌≤◌, ◌==◌, ℕ, ◌+◌, nat_lt, nat_le, Bool, true, false, List, [], ◌∷◌, ◌++◌, length, if◌then◌else◌, Option, Some, None, inl, inr, refl, sym, ap, ap₂, ◌∙◌, arith, append_assoc, append-nil, length-append, ℤ, pos, negsuc}
use Rattle.std.proofs.lemmas.Bool.Decides.{nat_tests}
use Rattle.q_logic.specs.declared.steps.Kind.TheVariants.{Add}
use Rattle.q_logic.specs.Prelude.{ProofStep, step_of}
use Rattle.q_text.specs.declared.tokens.Token.{Token}
use Rattle.q_text.specs.declared.tokens.TokenKind.{TokenKind}
use Rattle.q_text.specs.declared.tokens.TokenKind.TheVariants.{Number, P, Cnf, Qrat, E, A, D, U, R, Other}
use Rattle.q_text.specs.declared.tokens.Tokens.{Tokens}
use Rattle.q_text.specs.declared.shape.Shape.{Shape}
use Rattle.q_text.specs.declared.shape.Shape.TheVariants.{Start}
use Rattle.q_text.specs.Words.{is_separator}
use Rattle.q_text.specs.Texts.{tokens_of, line_after}
use Rattle.q_text.specs.Tokens.{begun, after, after_blank, grown, handed, listed, token_in, kind_in, to_come, all_handed}
use Rattle.q_text.specs.Pieces.{after_all}
use Rattle.q_text.proofs.TokenLaw.{at, from_start}
use Rattle.q_text.proofs.BytePieces.{after_all-append}
use Rattle.q_log.specs.declared.error.LogError.{LogError}
use Rattle.q_log.specs.declared.error.LogError.TheVariants.{BadLine}
use Rattle.q_log.specs.Grammar.{OpenStep, Move, ends_step, goes_on, unfit, move, first_move, next_move, with_number, is_whole, has_room, empty_step}
use Rattle.q_log.specs.Logs.{Parsed, onto, follow, parsed, at_end, read, all_or_none, Steps}
use Rattle.q_command.specs.Logs.{steps_of}
use Rattle.q_parts.specs.LogParts.{EndsLine, IsJoined}

-- tokens

come-append : (t : Tokens) (xs ys : List ℕ) → to_come t (xs ++ ys) ≡ all_handed t xs ++ to_come (after_all t xs) ys
come-append t [] ys = refl
come-append t (x ∷ xs) ys =
    ap (λ (ts : List Token). listed (handed t x) ++ ts) (come-append (after t x) xs ys)
    ∙ sym (append_assoc (listed (handed t x)) (all_handed (after t x) xs) (to_come (after_all (after t x) xs) ys))

-- behind a line the next one begins, k lines further down
line-ended : (xs : List ℕ) → EndsLine xs → (k : ℕ) × (after_all begun xs ≡ at (1 + k) Start)
line-ended xs (inl e) = (0, rw e refl)
line-ended xs (inr (f, e)) =
    let l : ℕ = (after_all begun f).line in
    let z : l + 1 ≡ 1 + l = omega arith in
    (l, rw (e, after_all-append, z) refl)

handed-tokens : (xs : List ℕ) (k : ℕ) → after_all begun xs ≡ at (1 + k) Start → all_handed begun xs ≡ tokens_of xs
handed-tokens xs k e =
    let c : to_come begun (xs ++ []) ≡ all_handed begun xs ++ to_come (after_all begun xs) [] = come-append begun xs [] in
    let d : to_come (after_all begun xs) [] ≡ [] = rw e refl in
    let f : to_come begun (xs ++ []) ≡ all_handed begun xs ++ [] = c ∙ ap (λ (ts : List Token). all_handed begun xs ++ ts) d in
    let g : all_handed begun xs ++ [] ≡ all_handed begun xs = rw append-nil refl in
    let h : to_come begun (xs ++ []) ≡ tokens_of xs = rw append-nil (from_start xs) in
    sym g ∙ (sym f ∙ h)

-- lower lines

abbrev lower : ℕ → Token → Token
lower k t = record { kind = t.kind; line = t.line + k }

abbrev all_lower : ℕ → List Token → List Token
all_lower k [] = []
all_lower k (t ∷ ts) = lower k t ∷ all_lower k ts

lower-append : (k : ℕ) (ts us : List Token) → all_lower k (ts ++ us) ≡ all_lower k ts ++ all_lower k us
lower-append k [] us = refl
lower-append k (t ∷ ts) us = ap (λ (ws : List Token). lower k t ∷ ws) (lower-append k ts us)

lower-listed : (k n : ℕ) (o : Option TokenKind) → listed (token_in o (n + k)) ≡ all_lower k (listed (token_in o n))
lower-listed k n None = refl
lower-listed k n (Some x) = refl

lower-handed : (k n b : ℕ) (s : Shape) → listed (handed (at (n + k) s) b) ≡ all_lower k (listed (handed (at n s) b))
lower-handed k n b s = go (is_separator b)
  where
    go : (t : Bool) → listed (if t then token_in (kind_in s) (n + k) else None) ≡ all_lower k (listed (if t then token_in (kind_in s) n else None))
    go true = lower-listed k n (kind_in s)
    go false = refl

lower-after : (k n b : ℕ) (s : Shape) → (m : ℕ) × (r : Shape) × (after (at n s) b ≡ at m r) × (after (at (n + k) s) b ≡ at (m + k) r)
lower-after k n b s = go (b == 10) (is_separator b)
  where
    go : (t u : Bool) → (m : ℕ) × (r : Shape)
        × ((if t then at (n + 1) Start else (if u then at n (after_blank s) else at n (grown s b))) ≡ at m r)
        × ((if t then at (n + k + 1) Start else (if u then at (n + k) (after_blank s) else at (n + k) (grown s b))) ≡ at (m + k) r)
    go true u = (n + 1, Start, refl, let z : n + k + 1 ≡ n + 1 + k = omega arith in rw z refl)
    go false true = (n, after_blank s, refl, refl)
    go false false = (n, grown s b, refl, refl)

lower-come : (k n : ℕ) (s : Shape) (ys : List ℕ) → to_come (at (n + k) s) ys ≡ all_lower k (to_come (at n s) ys)
lower-come k n s [] = lower-listed k n (kind_in s)
lower-come k n s (y ∷ ys) =
    let a = lower-after k n y s in
    let i : to_come (at (a.0 + k) a.1) ys ≡ all_lower k (to_come (at a.0 a.1) ys) = lower-come k a.0 a.1 ys in
    ap₂ (λ (ts us : List Token). ts ++ us) (lower-handed k n y s)
    (ap (λ (t : Tokens). to_come t ys) a.3 ∙ (i ∙ ap (λ (t : Tokens). all_lower k (to_come t ys)) (sym a.2)))
    ∙ sym (lower-append k (listed (handed (at n s) y)) (to_come (after (at n s) y) ys))

-- steps of lower lines

abbrev lower_open : ℕ → OpenStep → OpenStep
lower_open k o = record { line = o.line + k; kind = o.kind; lits = o.lits }

abbrev lower_begun : ℕ → Option OpenStep → Option OpenStep
lower_begun k None = None
lower_begun k (Some o) = Some (lower_open k o)

abbrev lower_move : ℕ → Move → Move
lower_move k (ends_step n s) = ends_step (n + k) s
lower_move k (goes_on o) = goes_on (lower_open k o)
lower_move k unfit = unfit

abbrev lower_steps : ℕ → List (ℕ × ProofStep) → List (ℕ × ProofStep)
lower_steps k [] = []
lower_steps k (e ∷ es) = (e.0 + k, e.1) ∷ lower_steps k es

lower-number : (k : ℕ) (o : OpenStep) (z : ℤ) → with_number (lower_open k o) z ≡ lower_move k (with_number o z)
lower-number k o (pos v) = go (v == 0) (is_whole o.kind o.lits) (nat_lt 2147483647 v) (has_room o.kind o.lits false)
  where
    go : (a b c d : Bool) →
        (if a then (if b then ends_step (o.line + k) (step_of o.kind o.lits) else unfit)
        else (if c then unfit else (if d then goes_on (record { line = o.line + k; kind = o.kind; lits = o.lits ++ record { var = v; negative = false } ∷ [] }) else unfit)))
        ≡ lower_move k (if a then (if b then ends_step o.line (step_of o.kind o.lits) else unfit)
        else (if c then unfit else (if d then goes_on (record { line = o.line; kind = o.kind; lits = o.lits ++ record { var = v; negative = false } ∷ [] }) else unfit)))
    go true true c d = refl
    go true false c d = refl
    go false b true d = refl
    go false b false true = refl
    go false b false false = refl
lower-number k o (negsuc v) = go (nat_lt 2147483647 (v + 1)) (has_room o.kind o.lits true)
  where
    go : (c d : Bool) →
        (if c then unfit else (if d then goes_on (record { line = o.line + k; kind = o.kind; lits = o.lits ++ record { var = v + 1; negative = true } ∷ [] }) else unfit))
        ≡ lower_move k (if c then unfit else (if d then goes_on (record { line = o.line; kind = o.kind; lits = o.lits ++ record { var = v + 1; negative = true } ∷ [] }) else unfit))
    go true d = refl
    go false true = refl
    go false false = refl

lower-first : (k n : ℕ) (x : TokenKind) → first_move (n + k) x ≡ lower_move k (first_move n x)
lower-first k n (Number z) = lower-number k (empty_step n Add) z
lower-first k n P = refl
lower-first k n Cnf = refl
lower-first k n Qrat = refl
lower-first k n E = refl
lower-first k n A = refl
lower-first k n D = refl
lower-first k n U = refl
lower-first k n R = refl
lower-first k n Other = refl

lower-next : (k : ℕ) (o : OpenStep) (x : TokenKind) → next_move (lower_open k o) x ≡ lower_move k (next_move o x)
lower-next k o (Number z) = lower-number k o z
lower-next k o P = refl
lower-next k o Cnf = refl
lower-next k o Qrat = refl
lower-next k o E = refl
lower-next k o A = refl
lower-next k o D = refl
lower-next k o U = refl
lower-next k o R = refl
lower-next k o Other = refl

lower-moves : (k : ℕ) (b : Option OpenStep) (t : Token) → move (lower_begun k b) (lower k t) ≡ lower_move k (move b t)
lower-moves k None t = lower-first k t.line t.kind
lower-moves k (Some o) t = lower-next k o t.kind

abbrev whole : List (ℕ × ProofStep) → Parsed
whole es = record { steps = es; refused = None }

lower-parsed : (k m n : ℕ) (b : Option OpenStep) (ts : List Token) (es : List (ℕ × ProofStep)) → parsed (at_end m) b ts ≡ whole es →
    parsed (at_end n) (lower_begun k b) (all_lower k ts) ≡ whole (lower_steps k es)
lower-parsed k m n None [] es e = let z : [] ≡ es = ap (λ (o : Parsed). o.steps) e in rw (← z) refl
lower-parsed k m n (Some o) [] es e =
    let f : at_end m (Some o) ≡ None = ap (λ (o : Parsed). o.refused) e in absurd (cc)
lower-parsed k m n b (t ∷ ts) es e =
    ap (λ (x : Move). follow x (t.line + k) (λ c. parsed (at_end n) c (all_lower k ts))) (lower-moves k b t)
    ∙ go (move b t) es (λ c ds q. lower-parsed k m n c ts ds q) e
  where
    go : (x : Move) (es : List (ℕ × ProofStep)) →
        ((c : Option OpenStep) (ds : List (ℕ × ProofStep)) → parsed (at_end m) c ts ≡ whole ds → parsed (at_end n) (lower_begun k c) (all_lower k ts) ≡ whole (lower_steps k ds)) →
        follow x t.line (λ c. parsed (at_end m) c ts) ≡ whole es →
        follow (lower_move k x) (t.line + k) (λ c. parsed (at_end n) c (all_lower k ts)) ≡ whole (lower_steps k es)
    go (ends_step l s) es ih e = later (parsed (at_end m) None ts) refl es e
      where
        later : (o : Parsed) → parsed (at_end m) None ts ≡ o → (es : List (ℕ × ProofStep)) → onto (l, s) o ≡ whole es →
            onto (l + k, s) (parsed (at_end n) None (all_lower k ts)) ≡ whole (lower_steps k es)
        later o q es e =
            let r : (l, s) ∷ o.steps ≡ es = ap (λ (o : Parsed). o.steps) e in
            let f : o.refused ≡ None = ap (λ (o : Parsed). o.refused) e in
            let w : o ≡ whole o.steps = ap (λ (x : Option LogError). record { steps = o.steps; refused = x }) f in
            let i : parsed (at_end n) None (all_lower k ts) ≡ whole (lower_steps k o.steps) = ih None o.steps (q ∙ w) in
            ap (onto (l + k, s)) i ∙ ap (λ (es : List (ℕ × ProofStep)). whole (lower_steps k es)) r
    go (goes_on o) es ih e = ih (Some o) es e
    go unfit es ih e =
        let f : Some (BadLine t.line) ≡ None = ap (λ (o : Parsed). o.refused) e in absurd (cc)

-- steps of tokens behind others
joined-parsed : (m : ℕ) (last : Option OpenStep → Option LogError) (b : Option OpenStep) (ts us : List Token) (es : List (ℕ × ProofStep)) → parsed (at_end m) b ts ≡ whole es →
    parsed last b (ts ++ us) ≡ record { steps = es ++ (parsed last None us).steps; refused = (parsed last None us).refused }
joined-parsed m last None [] us es e = let z : [] ≡ es = ap (λ (o : Parsed). o.steps) e in rw (← z) refl
joined-parsed m last (Some o) [] us es e =
    let f : at_end m (Some o) ≡ None = ap (λ (o : Parsed). o.refused) e in absurd (cc)
joined-parsed m last b (t ∷ ts) us es e = go (move b t) es (λ c ds q. joined-parsed m last c ts us ds q) e
  where
    go : (x : Move) (es : List (ℕ × ProofStep)) → ((c : Option OpenStep) (ds : List (ℕ × ProofStep)) → parsed (at_end m) c ts ≡ whole ds → parsed last c (ts ++ us) ≡ record { steps = ds ++ (parsed last None us).steps; refused = (parsed last None us).refused }) →
        follow x t.line (λ c. parsed (at_end m) c ts) ≡ whole es →
        follow x t.line (λ c. parsed last c (ts ++ us)) ≡ record { steps = es ++ (parsed last None us).steps; refused = (parsed last None us).refused }
    go (ends_step l s) es ih e = later (parsed (at_end m) None ts) refl es e
      where
        later : (o : Parsed) → parsed (at_end m) None ts ≡ o → (es : List (ℕ × ProofStep)) → onto (l, s) o ≡ whole es →
            onto (l, s) (parsed last None (ts ++ us)) ≡ record { steps = es ++ (parsed last None us).steps; refused = (parsed last None us).refused }
        later o q es e =
            let r : (l, s) ∷ o.steps ≡ es = ap (λ (o : Parsed). o.steps) e in
            let f : o.refused ≡ None = ap (λ (o : Parsed). o.refused) e in
            let w : o ≡ whole o.steps = ap (λ (x : Option LogError). record { steps = o.steps; refused = x }) f in
            ap (onto (l, s)) (ih None o.steps (q ∙ w))
            ∙ ap (λ (es : List (ℕ × ProofStep)). record { steps = es ++ (parsed last None us).steps; refused = (parsed last None us).refused }) r
    go (goes_on o) es ih e = ih (Some o) es e
    go unfit es ih e =
        let f : Some (BadLine t.line) ≡ None = ap (λ (o : Parsed). o.refused) e in absurd (cc)

-- what the two logs say
reads : (limit : ℕ) (xs : List ℕ) (es : List (ℕ × ProofStep)) → Steps limit xs ≡ Some es → length xs ≤ limit → parsed (at_end (line_after xs)) None (tokens_of xs) ≡ whole es
reads limit xs es e h = go (parsed (at_end (line_after xs)) None (tokens_of xs)) refl said
  where
    within : nat_le (length xs) limit ≡ true
    within = grind (arith, nat_tests)

    said : all_or_none (parsed (at_end (line_after xs)) None (tokens_of xs)).refused (parsed (at_end (line_after xs)) None (tokens_of xs)).steps ≡ Some es
    said = rw within at e

    go : (o : Parsed) → parsed (at_end (line_after xs)) None (tokens_of xs) ≡ o → all_or_none o.refused o.steps ≡ Some es → o ≡ whole es
    go o q s = of o.refused o.steps s
      where
        of : (f : Option LogError) (ds : List (ℕ × ProofStep)) → all_or_none f ds ≡ Some es → record { steps = ds; refused = f } ≡ whole es
        of None ds s = let z : ds ≡ es = cc in ap whole z
        of (Some x) ds s = absurd (cc)

steps_of-lower : (k : ℕ) (es : List (ℕ × ProofStep)) → steps_of (lower_steps k es) ≡ steps_of es
steps_of-lower k [] = refl
steps_of-lower k (e ∷ es) = ap (λ (ss : List ProofStep). e.1 ∷ ss) (steps_of-lower k es)

pub joined-steps : (limit : ℕ) (xs ys : List ℕ) (es us : List (ℕ × ProofStep)) → EndsLine xs → length (xs ++ ys) ≤ limit →
    Steps limit xs ≡ Some es → Steps limit ys ≡ Some us → (both : List (ℕ × ProofStep)) × (Steps limit (xs ++ ys) ≡ Some both) × IsJoined es us both
joined-steps limit xs ys es us l h e f =
    let k = line-ended xs l in
    let n : ℕ = line_after (xs ++ ys) in
    let sizes : length (xs ++ ys) ≡ length xs + length ys = length-append xs ys in
    let first : parsed (at_end (line_after xs)) None (tokens_of xs) ≡ whole es = reads limit xs es e (omega arith) in
    let second : parsed (at_end (line_after ys)) None (tokens_of ys) ≡ whole us = reads limit ys us f (omega arith) in
    let ts : tokens_of (xs ++ ys) ≡ tokens_of xs ++ all_lower k.0 (tokens_of ys) =
    sym (from_start (xs ++ ys)) ∙ (come-append begun xs ys ∙ ap₂ (λ (ws vs : List Token). ws ++ vs) (handed-tokens xs k.0 k.1)
    (ap (λ (t : Tokens). to_come t ys) k.1 ∙ (lower-come k.0 1 Start ys ∙ ap (all_lower k.0) (from_start ys)))) in
    let low : parsed (at_end n) None (all_lower k.0 (tokens_of ys)) ≡ whole (lower_steps k.0 us) = lower-parsed k.0 (line_after ys) n None (tokens_of ys) us second in
    let all : parsed (at_end n) None (tokens_of (xs ++ ys)) ≡ whole (es ++ lower_steps k.0 us) =
    ap (parsed (at_end n) None) ts ∙ (joined-parsed (line_after xs) (at_end n) None (tokens_of xs) (all_lower k.0 (tokens_of ys)) es first
    ∙ ap (λ (o : Parsed). record { steps = es ++ o.steps; refused = o.refused }) low) in
    let within : nat_le (length (xs ++ ys)) limit ≡ true = grind (arith, nat_tests) in
    let said : read limit (xs ++ ys) ≡ whole (es ++ lower_steps k.0 us) = rw within all in (
      es ++ lower_steps k.0 us,
      ap (λ (o : Parsed). all_or_none o.refused o.steps) said,
      record { later = lower_steps k.0 us; are = refl; same = steps_of-lower k.0 us },
    )
