-- Plain logs with the same words, on whatever lines, have the same steps.
use Rattle.std.proofs.Common.{◌≡◌, ◌≤◌, ◌==◌, ◌+◌, ◌∙◌, ℕ, nat_lt, nat_le, true, Bool, false, List, [], ◌∷◌, ◌++◌, length, take, if◌then◌else◌, Option, Some, None, refl, sym, ap, arith, ℤ, pos, negsuc}
use Rattle.std.proofs.lemmas.Bool.Decides.{nat_tests}
use Rattle.q_logic.specs.declared.steps.Kind.TheVariants.{Add}
use Rattle.q_logic.specs.Prelude.{ProofStep, step_of}
use Rattle.q_text.specs.declared.tokens.Token.{Token}
use Rattle.q_text.specs.declared.tokens.TokenKind.{TokenKind}
use Rattle.q_text.specs.declared.tokens.TokenKind.TheVariants.{Number, P, Cnf, Qrat, E, A, D, U, R, Other}
use Rattle.q_text.specs.Texts.{tokens_of, tokens_ended, line_after}
use Rattle.q_log.specs.declared.error.LogError.{LogError}
use Rattle.q_log.specs.declared.error.LogError.TheVariants.{BadLine, Limit, NoMemory}
use Rattle.q_log.specs.Grammar.{OpenStep, Move, ends_step, goes_on, unfit, move, first_move, next_move, with_number, is_whole, has_room, empty_step}
use Rattle.q_log.specs.Logs.{Parsed, onto, follow, parsed, at_end, past_limit, all_or_none, Steps}
use Rattle.q_command.specs.Logs.{Entry, steps_of}
use Rattle.q_command.proofs.LogEntries.{steps_of-length}
use Rattle.q_parts.specs.LogParts.{AreSameWords, kinds_of}

-- everything on line 0

abbrev bare_open : Option OpenStep → Option OpenStep
bare_open None = None
bare_open (Some o) = Some (record { line = 0; kind = o.kind; lits = o.lits })

abbrev bare_move : Move → Move
bare_move (ends_step n s) = ends_step 0 s
bare_move (goes_on o) = goes_on (record { line = 0; kind = o.kind; lits = o.lits })
bare_move unfit = unfit

abbrev bare_tokens : List TokenKind → List Token
bare_tokens [] = []
bare_tokens (k ∷ ks) = record { kind = k; line = 0 } ∷ bare_tokens ks

abbrev bare_entries : List Entry → List Entry
bare_entries [] = []
bare_entries (e ∷ es) = (0, e.1) ∷ bare_entries es

abbrev bare_error : Option LogError → Option LogError
bare_error None = None
bare_error (Some (BadLine n)) = Some (BadLine 0)
bare_error (Some (Limit n)) = Some (Limit 0)
bare_error (Some NoMemory) = Some NoMemory

abbrev bare_parsed : Parsed → Parsed
bare_parsed o = record { steps = bare_entries o.steps; refused = bare_error o.refused }

bare-number : (o : OpenStep) (z : ℤ) → with_number (record { line = 0; kind = o.kind; lits = o.lits }) z ≡ bare_move (with_number o z)
bare-number o (pos v) = go (v == 0) (is_whole o.kind o.lits) (nat_lt 2147483647 v) (has_room o.kind o.lits false)
  where
    go : (a b c d : Bool) →
        (if a then (if b then ends_step 0 (step_of o.kind o.lits) else unfit)
        else (if c then unfit else (if d then goes_on (record { line = 0; kind = o.kind; lits = o.lits ++ record { var = v; negative = false } ∷ [] }) else unfit)))
        ≡ bare_move (if a then (if b then ends_step o.line (step_of o.kind o.lits) else unfit)
        else (if c then unfit else (if d then goes_on (record { line = o.line; kind = o.kind; lits = o.lits ++ record { var = v; negative = false } ∷ [] }) else unfit)))
    go true true c d = refl
    go true false c d = refl
    go false b true d = refl
    go false b false true = refl
    go false b false false = refl
bare-number o (negsuc v) = go (nat_lt 2147483647 (v + 1)) (has_room o.kind o.lits true)
  where
    go : (c d : Bool) →
        (if c then unfit else (if d then goes_on (record { line = 0; kind = o.kind; lits = o.lits ++ record { var = v + 1; negative = true } ∷ [] }) else unfit))
        ≡ bare_move (if c then unfit else (if d then goes_on (record { line = o.line; kind = o.kind; lits = o.lits ++ record { var = v + 1; negative = true } ∷ [] }) else unfit))
    go true d = refl
    go false true = refl
    go false false = refl

bare-first : (n : ℕ) (x : TokenKind) → first_move 0 x ≡ bare_move (first_move n x)
bare-first n (Number z) = bare-number (empty_step n Add) z
bare-first n P = refl
bare-first n Cnf = refl
bare-first n Qrat = refl
bare-first n E = refl
bare-first n A = refl
bare-first n D = refl
bare-first n U = refl
bare-first n R = refl
bare-first n Other = refl

bare-next : (o : OpenStep) (x : TokenKind) → next_move (record { line = 0; kind = o.kind; lits = o.lits }) x ≡ bare_move (next_move o x)
bare-next o (Number z) = bare-number o z
bare-next o P = refl
bare-next o Cnf = refl
bare-next o Qrat = refl
bare-next o E = refl
bare-next o A = refl
bare-next o D = refl
bare-next o U = refl
bare-next o R = refl
bare-next o Other = refl

bare-moves : (b : Option OpenStep) (t : Token) → move (bare_open b) (record { kind = t.kind; line = 0 }) ≡ bare_move (move b t)
bare-moves None t = bare-first t.line t.kind
bare-moves (Some o) t = bare-next o t.kind

bare-reads : (m : ℕ) (b : Option OpenStep) (ts : List Token) → parsed (at_end 0) (bare_open b) (bare_tokens (kinds_of ts)) ≡ bare_parsed (parsed (at_end m) b ts)
bare-reads m None [] = refl
bare-reads m (Some o) [] = refl
bare-reads m b (t ∷ ts) =
    ap (λ (x : Move). follow x 0 (λ c. parsed (at_end 0) c (bare_tokens (kinds_of ts)))) (bare-moves b t) ∙ go (move b t) (λ c. bare-reads m c ts)
  where
    go : (x : Move) → ((c : Option OpenStep) → parsed (at_end 0) (bare_open c) (bare_tokens (kinds_of ts)) ≡ bare_parsed (parsed (at_end m) c ts)) →
        follow (bare_move x) 0 (λ c. parsed (at_end 0) c (bare_tokens (kinds_of ts))) ≡ bare_parsed (follow x t.line (λ c. parsed (at_end m) c ts))
    go (ends_step n s) ih = ap (onto (0, s)) (ih None)
    go (goes_on o) ih = ih (Some o)
    go unfit ih = refl

no-error : (r : Option LogError) → bare_error r ≡ None → r ≡ None
no-error None e = refl
no-error (Some (BadLine n)) e = cc
no-error (Some (Limit n)) e = cc
no-error (Some NoMemory) e = cc

bare-steps : (es : List Entry) → steps_of (bare_entries es) ≡ steps_of es
bare-steps [] = refl
bare-steps (e ∷ es) = ap (λ (ss : List ProofStep). e.1 ∷ ss) (bare-steps es)

-- what a log says whose bytes are few enough
abbrev says : List ℕ → Parsed
says bytes = parsed (at_end (line_after bytes)) None (tokens_of bytes)

reads : (limit : ℕ) (bytes : List ℕ) → length bytes ≤ limit → Steps limit bytes ≡ all_or_none (says bytes).refused (says bytes).steps
reads limit bytes h =
    let within : nat_le (length bytes) limit ≡ true = grind (arith, nat_tests) in
    ap (λ (b : Bool). all_or_none
    (if b then says bytes else parsed (past_limit (line_after (take limit bytes))) None (tokens_ended (take limit bytes))).refused
    (if b then says bytes else parsed (past_limit (line_after (take limit bytes))) None (tokens_ended (take limit bytes))).steps) within

whole-said : (o : Parsed) (es : List Entry) → all_or_none o.refused o.steps ≡ Some es → (o.refused ≡ None) × (o.steps ≡ es)
whole-said o es e = go o.refused o.steps e
  where
    go : (r : Option LogError) (ds : List Entry) → all_or_none r ds ≡ Some es → (r ≡ None) × (ds ≡ es)
    go None ds s = (refl, cc)
    go (Some x) ds s = absurd (cc)

pub record SameSteps (limit : ℕ) (other : List ℕ) (es : List Entry) : Type 0 where
  pub entries : List Entry
  pub is_log : Steps limit other ≡ Some entries
  pub same : steps_of entries ≡ steps_of es

pub same-words : (limit : ℕ) (log other : List ℕ) (es : List Entry) → AreSameWords log other → length log ≤ limit → length other ≤ limit → Steps limit log ≡ Some es → SameSteps limit other es
same-words limit log other es w h k e =
    let a : ((says log).refused ≡ None) × ((says log).steps ≡ es) = whole-said (says log) es (sym (reads limit log h) ∙ e) in
    let b : bare_parsed (says log) ≡ bare_parsed (says other) =
    sym (bare-reads (line_after log) None (tokens_of log)) ∙ (ap (λ (ks : List TokenKind). parsed (at_end 0) None (bare_tokens ks)) w ∙ bare-reads (line_after other) None (tokens_of other)) in
    let r : (says other).refused ≡ None = no-error (says other).refused (sym (ap (λ (o : Parsed). o.refused) b) ∙ ap bare_error a.0) in
    let s : bare_entries (says log).steps ≡ bare_entries (says other).steps = ap (λ (o : Parsed). o.steps) b in
    record {
      entries = (says other).steps;
      is_log = reads limit other k ∙ ap (λ (x : Option LogError). all_or_none x (says other).steps) r;
      same = sym (bare-steps (says other).steps) ∙ (ap steps_of (sym s) ∙ (bare-steps (says log).steps ∙ ap steps_of a.1));
    }

pub same-length : (es us : List Entry) → steps_of us ≡ steps_of es → length us ≡ length es
same-length es us e = sym (steps_of-length us) ∙ (ap (λ (ss : List ProofStep). length ss) e ∙ steps_of-length es)
