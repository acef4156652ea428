-- What is read is a spelled log.
use Rattle.std.proofs.Common.{◌≡◌, ◌≤◌, ◌<◌, ◌+◌, ◌==◌, ◌^◌, ℕ, zero, suc, nat_le, nat_lt, Bool, true, false, List, [], ◌∷◌, ◌++◌, map, length, take, Option, Some, None, refl, sym, ap, ◌∙◌, arith, ℤ, pos, negsuc, append_assoc, append-nil, add-one, if◌then◌else◌}
use Rattle.std.proofs.lemmas.Bool.Decides.{nat_tests}
use Rattle.std.specs.List.{AllByRecursion}
use Rattle.q_logic.specs.declared.steps.Kind.{Kind}
use Rattle.q_logic.specs.declared.steps.Kind.TheVariants.{Add, Delete, Drop, Fresh, Remove}
use Rattle.q_logic.specs.Prelude.{Literal, number_of, ProofStep, IsStepForm, step_of}
use Rattle.q_text.specs.declared.tokens.Token.{Token}
use Rattle.q_text.specs.declared.tokens.TokenKind.{TokenKind}
use Rattle.q_text.specs.declared.tokens.TokenKind.TheVariants.{Number, P, Cnf, Qrat, E, A, D, U, R, Other}
use Rattle.q_text.specs.Texts.{tokens_of, tokens_ended, line_after}
use Rattle.q_log.specs.declared.error.LogError.{LogError}
use Rattle.q_log.specs.declared.error.LogError.TheVariants.{BadLine, Limit}
use Rattle.q_log.specs.Grammar.{OpenStep, Move, ends_step, goes_on, unfit, move, next_move, first_move, with_zero, with_number, with_literal, if_small, is_whole, has_room, empty_step}
use Rattle.q_log.specs.Logs.{Parsed, follow, parsed, at_end, past_limit, read, Steps, all_or_none}
use Rattle.q_log.specs.Spelled.{StepText, letter_kinds, IsSpelled, first_line, step_in, tokens_in, Log}
use Rattle.q_text.specs.Tokens.{literals_kinds}
use Rattle.q_log.proofs.LogSpelledIsRead.{IsSmall, kinds_of}

abbrev pub Stepped : Type 0
Stepped = List (ℕ × ProofStep)

abbrev pub all_read : Stepped → Parsed
all_read ss = record { steps = ss; refused = None }

-- the literals of a step that has begun are such as its kind takes
abbrev pub IsPart : Kind → List Literal → Type 0
IsPart Add ls = Unit {0}
IsPart Delete ls = Unit {0}
IsPart Drop ls = Unit {0}
IsPart Fresh ls = AllByRecursion (λ l. l.negative ≡ false) ls
IsPart Remove ls = AllByRecursion (λ l. l.negative ≡ false) ls

-- behind the beginning of a step its further literals are spelled, and then steps
pub record FromOpen (o : OpenStep) (ts : List Token) (ss : Stepped) : Type 0 where
  pub lits : List Literal
  pub front : List Token
  pub texts : List StepText
  pub tokens_are : ts ≡ front ++ tokens_in texts
  pub kinds : kinds_of front ≡ literals_kinds lits
  pub form : IsStepForm o.kind (o.lits ++ lits)
  pub numbers : AllByRecursion IsSmall lits
  pub spelled : AllByRecursion IsSpelled texts
  pub steps_are : ss ≡ (o.line, step_of o.kind (o.lits ++ lits)) ∷ map step_in texts

-- between steps, steps are spelled
pub record FromStart (ts : List Token) (ss : Stepped) : Type 0 where
  pub texts : List StepText
  pub tokens_are : ts ≡ tokens_in texts
  pub spelled : AllByRecursion IsSpelled texts
  pub steps_are : ss ≡ map step_in texts

abbrev pub From : Option OpenStep → List Token → Stepped → Type 0
From None ts ss = FromStart ts ss
From (Some o) ts ss = IsPart o.kind o.lits → FromOpen o ts ss

-- what the tokens say leads there
abbrev pub Reads : ℕ → List Token → Type 0
Reads n ts = (b : Option OpenStep) (ss : Stepped) → parsed (at_end n) b ts ≡ all_read ss → From b ts ss

-- a part that is whole is a step
whole-form : (k : Kind) (ls : List Literal) → IsPart k ls → is_whole k ls ≡ true → IsStepForm k ls
whole-form Add ls p e = tt
whole-form Delete ls p e = tt
whole-form Drop ls p e = grind (arith, nat_tests)
whole-form Fresh ls p e = (grind (arith, nat_tests), p)
whole-form Remove ls p e = (grind (arith, nat_tests), p)

one-more : (ls : List Literal) (l : Literal) → AllByRecursion (λ l. l.negative ≡ false) ls → l.negative ≡ false → AllByRecursion (λ l. l.negative ≡ false) (ls ++ l ∷ [])
one-more [] l a e = (e, tt)
one-more (k ∷ ls) l (h, hs) e = (h, one-more ls l hs e)

-- what has room is still a part
part-more : (k : Kind) (ls : List Literal) (l : Literal) → IsPart k ls → has_room k ls l.negative ≡ true → IsPart k (ls ++ l ∷ [])
part-more Add ls l p e = tt
part-more Delete ls l p e = tt
part-more Drop ls l p e = tt
part-more Fresh ls l p e = go l.negative refl e
  where
    go : (b : Bool) → l.negative ≡ b → has_room Fresh ls b ≡ true → AllByRecursion (λ l. l.negative ≡ false) (ls ++ l ∷ [])
    go true f r = absurd (cc)
    go false f r = one-more ls l p f
part-more Remove ls l p e = go l.negative refl e
  where
    go : (b : Bool) → l.negative ≡ b → has_room Remove ls b ≡ true → AllByRecursion (λ l. l.negative ≡ false) (ls ++ l ∷ [])
    go true f r = absurd (cc)
    go false f r = one-more ls l p f

-- a 0 that ends the step
zero-read : (n : ℕ) (o : OpenStep) (t : Token) (ts : List Token) (ss : Stepped) → t.kind ≡ Number (pos 0) → IsPart o.kind o.lits → Reads n ts →
    follow (with_zero o) t.line (λ b. parsed (at_end n) b ts) ≡ all_read ss → FromOpen o (t ∷ ts) ss
zero-read n o t ts ss k p ih e = go (is_whole o.kind o.lits) refl e
  where
    go : (w : Bool) → is_whole o.kind o.lits ≡ w →
        follow (if w then ends_step o.line (step_of o.kind o.lits) else unfit) t.line (λ b. parsed (at_end n) b ts) ≡ all_read ss → FromOpen o (t ∷ ts) ss
    go false w f = absurd (let r : Some (BadLine t.line) ≡ None = ap (λ (o : Parsed). o.refused) f in cc)
    go true w f =
        let later : Parsed = parsed (at_end n) None ts in
        let done : later.refused ≡ None = ap (λ (o : Parsed). o.refused) f in
        let same : later ≡ all_read later.steps = ap (λ (r : Option LogError). let x : Parsed = record { steps = later.steps; refused = r } in x) done in
        let r : FromStart ts later.steps = ih None later.steps same in
        let steps : (o.line, step_of o.kind o.lits) ∷ later.steps ≡ ss = ap (λ (o : Parsed). o.steps) f in
        record {
          lits = [];
          front = t ∷ [];
          texts = r.texts;
          tokens_are = ap (λ (xs : List Token). t ∷ xs) r.tokens_are;
          kinds = ap (λ (k : TokenKind). k ∷ []) k;
          form = rw append-nil (whole-form o.kind o.lits p w);
          numbers = tt;
          spelled = r.spelled;
          steps_are = rw append-nil (sym steps ∙ ap (λ (xs : Stepped). (o.line, step_of o.kind o.lits) ∷ xs) r.steps_are);
        }

-- one more literal
literal-read : (n : ℕ) (o : OpenStep) (l : Literal) (t : Token) (ts : List Token) (ss : Stepped) → 1 ≤ l.var → t.kind ≡ Number (number_of l) → IsPart o.kind o.lits → Reads n ts →
    follow (if_small l.var (with_literal o l)) t.line (λ b. parsed (at_end n) b ts) ≡ all_read ss → FromOpen o (t ∷ ts) ss
literal-read n o l t ts ss one k p ih e = go (nat_lt 2147483647 l.var) (has_room o.kind o.lits l.negative) refl refl e
  where
    q : OpenStep
    q = record { line = o.line; kind = o.kind; lits = o.lits ++ l ∷ [] }

    go : (s r : Bool) → nat_lt 2147483647 l.var ≡ s → has_room o.kind o.lits l.negative ≡ r →
        follow (if s then unfit else (if r then goes_on (record { line = o.line; kind = o.kind; lits = o.lits ++ l ∷ [] }) else unfit)) t.line (λ b. parsed (at_end n) b ts) ≡ all_read ss → FromOpen o (t ∷ ts) ss
    go true r s m f = absurd (let r : Some (BadLine t.line) ≡ None = ap (λ (o : Parsed). o.refused) f in cc)
    go false false s m f = absurd (let r : Some (BadLine t.line) ≡ None = ap (λ (o : Parsed). o.refused) f in cc)
    go false true s m f =
        let small : l.var < 2 ^ 31 = grind (arith, nat_tests) in
        let r : FromOpen q ts ss = ih (Some q) ss f (part-more o.kind o.lits l p m) in
        let a : (o.lits ++ l ∷ []) ++ r.lits ≡ o.lits ++ l ∷ r.lits = append_assoc o.lits (l ∷ []) r.lits in
        record {
          lits = l ∷ r.lits;
          front = t ∷ r.front;
          texts = r.texts;
          tokens_are = ap (λ (xs : List Token). t ∷ xs) r.tokens_are;
          kinds = rw (k, r.kinds) refl;
          form = rw (← a) r.form;
          numbers = ((one, small), r.numbers);
          spelled = r.spelled;
          steps_are = rw (← a) r.steps_are;
        }

-- any number
number-read : (n : ℕ) (o : OpenStep) (z : ℤ) (t : Token) (ts : List Token) (ss : Stepped) → t.kind ≡ Number z → IsPart o.kind o.lits → Reads n ts →
    follow (with_number o z) t.line (λ b. parsed (at_end n) b ts) ≡ all_read ss → FromOpen o (t ∷ ts) ss
number-read n o (pos zero) t ts ss k p ih e = zero-read n o t ts ss k p ih e
number-read n o (pos (suc v)) t ts ss k p ih e =
    let some : (suc v == 0) ≡ false = grind (arith, nat_tests) in
    literal-read n o (record { var = suc v; negative = false }) t ts ss (omega arith) k p ih (rw some at e)
number-read n o (negsuc v) t ts ss k p ih e =
    let a : v + 1 ≡ suc v = add-one v in
    literal-read n o (record { var = suc v; negative = true }) t ts ss (omega arith) k p ih (rw a at e)

-- a token behind the beginning of a step
later-read : (n : ℕ) (o : OpenStep) (k : TokenKind) (t : Token) (ts : List Token) (ss : Stepped) → t.kind ≡ k → IsPart o.kind o.lits → Reads n ts →
    follow (next_move o k) t.line (λ b. parsed (at_end n) b ts) ≡ all_read ss → FromOpen o (t ∷ ts) ss
later-read n o (Number z) t ts ss e p ih f = number-read n o z t ts ss e p ih f
later-read n o P t ts ss e p ih f = absurd (let r : Some (BadLine t.line) ≡ None = ap (λ (o : Parsed). o.refused) f in cc)
later-read n o Cnf t ts ss e p ih f = absurd (let r : Some (BadLine t.line) ≡ None = ap (λ (o : Parsed). o.refused) f in cc)
later-read n o Qrat t ts ss e p ih f = absurd (let r : Some (BadLine t.line) ≡ None = ap (λ (o : Parsed). o.refused) f in cc)
later-read n o E t ts ss e p ih f = absurd (let r : Some (BadLine t.line) ≡ None = ap (λ (o : Parsed). o.refused) f in cc)
later-read n o A t ts ss e p ih f = absurd (let r : Some (BadLine t.line) ≡ None = ap (λ (o : Parsed). o.refused) f in cc)
later-read n o D t ts ss e p ih f = absurd (let r : Some (BadLine t.line) ≡ None = ap (λ (o : Parsed). o.refused) f in cc)
later-read n o U t ts ss e p ih f = absurd (let r : Some (BadLine t.line) ≡ None = ap (λ (o : Parsed). o.refused) f in cc)
later-read n o R t ts ss e p ih f = absurd (let r : Some (BadLine t.line) ≡ None = ap (λ (o : Parsed). o.refused) f in cc)
later-read n o Other t ts ss e p ih f = absurd (let r : Some (BadLine t.line) ≡ None = ap (λ (o : Parsed). o.refused) f in cc)

-- a step with a letter
lettered : (k : Kind) (t : Token) (ts : List Token) (ss : Stepped) → kinds_of (t ∷ []) ≡ letter_kinds k → FromOpen (empty_step t.line k) ts ss → FromStart (t ∷ ts) ss
lettered k t ts ss e r =
    let whole : kinds_of (t ∷ r.front) ≡ letter_kinds k ++ literals_kinds r.lits = front-kinds (literals_kinds r.lits) (letter_kinds k) r.front r.kinds e in
    record {
      texts = record { tokens = t ∷ r.front; kind = k; lits = r.lits } ∷ r.texts;
      tokens_are = ap (λ (xs : List Token). t ∷ xs) r.tokens_are;
      spelled = (record { kinds = whole; form = r.form; numbers = r.numbers }, r.spelled);
      steps_are = r.steps_are;
    }
  where
    front-kinds : (ks js : List TokenKind) (xs : List Token) → kinds_of xs ≡ ks → kinds_of (t ∷ []) ≡ js → kinds_of (t ∷ xs) ≡ js ++ ks
    front-kinds ks js xs f g = rw (← g, ← f) refl

-- an addition
unlettered : (t : Token) (ts : List Token) (ss : Stepped) → FromOpen (empty_step t.line Add) (t ∷ ts) ss → FromStart (t ∷ ts) ss
unlettered t ts ss r =
    record {
      texts = record { tokens = r.front; kind = Add; lits = r.lits } ∷ r.texts;
      tokens_are = r.tokens_are;
      spelled = (record { kinds = r.kinds; form = r.form; numbers = r.numbers }, r.spelled);
      steps_are = r.steps_are ∙ ap (λ (n : ℕ). (n, step_of Add r.lits) ∷ map step_in r.texts) (line r.front r.lits r.kinds r.tokens_are);
    }
  where
    line : (xs : List Token) (ls : List Literal) → kinds_of xs ≡ literals_kinds ls → t ∷ ts ≡ xs ++ tokens_in r.texts → t.line ≡ first_line xs
    line [] [] e f = absurd (cc)
    line [] (l ∷ ls) e f = absurd (cc)
    line (x ∷ xs) ls e f = let h : t ≡ x = cc in ap (λ (x : Token). x.line) h

-- the first token of a step
first-read : (n : ℕ) (k : TokenKind) (t : Token) (ts : List Token) (ss : Stepped) → t.kind ≡ k → Reads n ts →
    follow (first_move t.line k) t.line (λ b. parsed (at_end n) b ts) ≡ all_read ss → FromStart (t ∷ ts) ss
first-read n (Number z) t ts ss e ih f = unlettered t ts ss (number-read n (empty_step t.line Add) z t ts ss e tt ih f)
first-read n D t ts ss e ih f = lettered Delete t ts ss (ap (λ (k : TokenKind). k ∷ []) e) (ih (Some (empty_step t.line Delete)) ss f tt)
first-read n U t ts ss e ih f = lettered Drop t ts ss (ap (λ (k : TokenKind). k ∷ []) e) (ih (Some (empty_step t.line Drop)) ss f tt)
first-read n E t ts ss e ih f = lettered Fresh t ts ss (ap (λ (k : TokenKind). k ∷ []) e) (ih (Some (empty_step t.line Fresh)) ss f tt)
first-read n R t ts ss e ih f = lettered Remove t ts ss (ap (λ (k : TokenKind). k ∷ []) e) (ih (Some (empty_step t.line Remove)) ss f tt)
first-read n P t ts ss e ih f = absurd (let r : Some (BadLine t.line) ≡ None = ap (λ (o : Parsed). o.refused) f in cc)
first-read n Cnf t ts ss e ih f = absurd (let r : Some (BadLine t.line) ≡ None = ap (λ (o : Parsed). o.refused) f in cc)
first-read n Qrat t ts ss e ih f = absurd (let r : Some (BadLine t.line) ≡ None = ap (λ (o : Parsed). o.refused) f in cc)
first-read n A t ts ss e ih f = absurd (let r : Some (BadLine t.line) ≡ None = ap (λ (o : Parsed). o.refused) f in cc)
first-read n Other t ts ss e ih f = absurd (let r : Some (BadLine t.line) ≡ None = ap (λ (o : Parsed). o.refused) f in cc)

pub all-from : (n : ℕ) (ts : List Token) → Reads n ts
all-from n [] None ss e = record { texts = []; tokens_are = refl; spelled = tt; steps_are = sym (ap (λ (o : Parsed). o.steps) e) }
all-from n [] (Some o) ss e = λ p. absurd (let r : Some (BadLine n) ≡ None = ap (λ (o : Parsed). o.refused) e in cc)
all-from n (t ∷ ts) None ss e = first-read n t.kind t ts ss refl (all-from n ts) e
all-from n (t ∷ ts) (Some o) ss e = λ p. later-read n o t.kind t ts ss refl p (all-from n ts) e

-- a list of steps comes from an parsed with no refusal
none-refused : (o : Parsed) (ss : Stepped) → all_or_none o.refused o.steps ≡ Some ss → o ≡ all_read ss
none-refused o ss e = go o.refused refl e
  where
    go : (r : Option LogError) → o.refused ≡ r → all_or_none r o.steps ≡ Some ss → o ≡ all_read ss
    go None f g =
        let s : o.steps ≡ ss = cc in
        ap (λ (x : Stepped). let y : Parsed = record { steps = x; refused = o.refused } in y) s ∙ ap (λ (r : Option LogError). let y : Parsed = record { steps = ss; refused = r } in y) f
    go (Some x) f g = absurd (cc)

never-past : (n : ℕ) (ts : List Token) (b : Option OpenStep) (ss : Stepped) → parsed (past_limit n) b ts ≡ all_read ss → ⊥
never-past n [] b ss e = let r : Some (Limit n) ≡ None = ap (λ (o : Parsed). o.refused) e in cc
never-past n (t ∷ ts) b ss e = go (move b t) (never-past n ts) e
  where
    go : (m : Move) → ((b : Option OpenStep) (ss : Stepped) → parsed (past_limit n) b ts ≡ all_read ss → ⊥) → follow m t.line (λ b. parsed (past_limit n) b ts) ≡ all_read ss → ⊥
    go (ends_step l s) ih f =
        let later : Parsed = parsed (past_limit n) None ts in
        let done : later.refused ≡ None = ap (λ (o : Parsed). o.refused) f in
        ih None later.steps (ap (λ (r : Option LogError). let x : Parsed = record { steps = later.steps; refused = r } in x) done)
    go (goes_on o) ih f = ih (Some o) ss f
    go unfit ih f = let r : Some (BadLine t.line) ≡ None = ap (λ (o : Parsed). o.refused) f in cc

pub read-spelled : (limit : ℕ) (bytes : List ℕ) (steps : Stepped) → Steps limit bytes ≡ Some steps → Log limit bytes steps
read-spelled limit bytes steps e = go (nat_le (length bytes) limit) refl (none-refused (read limit bytes) steps e)
  where
    go : (u : Bool) → nat_le (length bytes) limit ≡ u →
        (if u then parsed (at_end (line_after bytes)) None (tokens_of bytes) else parsed (past_limit (line_after (take limit bytes))) None (tokens_ended (take limit bytes))) ≡ all_read steps →
        Log limit bytes steps
    go true u f =
        let r : FromStart (tokens_of bytes) steps = all-from (line_after bytes) (tokens_of bytes) None steps f in
        record { texts = r.texts; short = grind (arith, nat_tests); tokens = r.tokens_are; spelled = r.spelled; steps_are = r.steps_are }
    go false u f = absurd (never-past (line_after (take limit bytes)) (tokens_ended (take limit bytes)) None steps f)
