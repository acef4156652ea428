-- The readers of logs as runs from state to state.
use Rattle.std.proofs.Common.{◌≡◌, ◌⊎◌, ◌==◌, inl, inr, ℕ, zero, suc, Bool, true, false, if◌then◌else◌, List, [], ◌∷◌, ◌++◌, Option, Some, None, refl, ap, sym, ◌∙◌, subst, pos, negsuc}
use Rattle.std.specs.List.{AllByRecursion}
use Rattle.q_logic.specs.declared.steps.Kind.{Kind}
use Rattle.q_logic.specs.declared.steps.Kind.TheVariants.{Add, Delete, Drop, Fresh, Remove}
use Rattle.q_logic.specs.Prelude.{Literal, ProofPart, ProofStep, step_of, kind_of}
use Rattle.q_text.specs.declared.tokens.Token.{Token}
use Rattle.q_text.specs.declared.tokens.TokenKind.{TokenKind}
use Rattle.q_text.specs.declared.tokens.TokenKind.TheVariants.{Number, P, Cnf, Qrat, E, A, D, U, R, Other}
use Rattle.q_log.specs.declared.error.LogError.{LogError}
use Rattle.q_log.specs.declared.error.LogError.TheVariants.{BadLine}
use Rattle.q_log.specs.Grammar.{OpenStep, Move, ends_step, goes_on, unfit, move}
use Rattle.q_log.specs.Logs as plain_logs
use Rattle.q_log.specs.Spelled.{StepText, IsSpelled, tokens_in}
use Rattle.q_log.proofs.LogSpelledIsRead.{step-read}
use Rattle.q_log.proofs.LogReadIsSpelled.{FromStart, all-from}
use Rattle.q_hinted.specs.declared.builder.Stage.{Stage}
use Rattle.q_hinted.specs.declared.builder.Stage.TheVariants as stage
use Rattle.q_hinted.specs.Grammar.{Place, nowhere, format, version, plain, steps, proving, EntryMove, hands, leads, misfit, place_move, behind_step, in_plain, in_steps, front_move, format_move, version_move, with_zero, with_number, kind_move, part_move, number_in}
use Rattle.q_hinted.specs.Logs.{Entries, follow, parsed, at_end}
use Rattle.q_hinted.specs.Spelled.{HintedText, IsHintedSpelled, hinted_of, kinds_of, header_kinds}
use Rattle.q_hinted.specs.Spelled as hinted
use Rattle.q_hinted.proofs.HintedSpelledIsRead.{header-read, texts-read, kind-kept}
use Rattle.q_hinted.proofs.HintedReadIsSpelled.{all_read, front-parsed}
use Rattle.q_offences.specs.Logs.{IsPlainLog, IsHintedLog, IsLog}
use Rattle.q_offences.proofs.TokenRuns.{Run, reached, stopped, go_on, run, Ends, Reads}
use Rattle.q_offences.proofs.OpenSteps.{IsOpen, LeadsOpen, Fills, fillable, one_token, zero_token, one-moves, zero-moves, move-open}

-- what a run says at the end
abbrev pub refusal : {S : Type 0} → (S → Option LogError) → Run S → Option LogError
refusal last (reached s) = last s
refusal last (stopped n) = Some (BadLine n)

-- logs without hints

abbrev pub behind_move : Move → Option (Option OpenStep)
behind_move (ends_step n s) = Some None
behind_move (goes_on o) = Some (Some o)
behind_move unfit = None

abbrev pub plain_step : Option OpenStep → Token → Option (Option OpenStep)
plain_step b t = behind_move (move b t)

abbrev pub is_idle : Option OpenStep → Bool
is_idle None = true
is_idle (Some o) = false

pub plain-refusal : (last : Option OpenStep → Option LogError) (b : Option OpenStep) (ts : List Token) → (plain_logs.parsed last b ts).refused ≡ refusal last (run plain_step b ts)
plain-refusal last b [] = refl
plain-refusal last b (t ∷ ts) = go (move b t) (λ c. plain-refusal last c ts) where
  go : (m : Move) → ((c : Option OpenStep) → (plain_logs.parsed last c ts).refused ≡ refusal last (run plain_step c ts))
      → (plain_logs.follow m t.line (λ c. plain_logs.parsed last c ts)).refused ≡ refusal last (go_on (behind_move m) t.line (λ q. run plain_step q ts))
  go (ends_step n s) ih = ih None
  go (goes_on o) ih = ih (Some o)
  go unfit ih = refl

plain-quiet : (ts : List Token) → (plain_logs.parsed (plain_logs.at_end 0) None ts).refused ≡ None → Ends plain_step is_idle None ts
plain-quiet ts e = go (run plain_step None ts) refl (sym (plain-refusal (plain_logs.at_end 0) None ts) ∙ e) where
  go : (r : Run (Option OpenStep)) → run plain_step None ts ≡ r → refusal (plain_logs.at_end 0) r ≡ None → Ends plain_step is_idle None ts
  go (reached None) i f = (None, i, refl)
  go (reached (Some o)) i f = cc
  go (stopped n) i f = cc

texts-plain : (last : Option OpenStep → Option LogError) (texts : List StepText) → AllByRecursion IsSpelled texts → (plain_logs.parsed last None (tokens_in texts)).refused ≡ last None
texts-plain last [] a = refl
texts-plain last (t ∷ texts) (h, hs) =
    ap (λ (o : plain_logs.Parsed). o.refused) (step-read last (tokens_in texts) t.kind t.lits t.tokens h.kinds h.numbers h.form) ∙ texts-plain last texts hs

plain-takes : (ts : List Token) → IsPlainLog ts → Ends plain_step is_idle None ts
plain-takes ts h = plain-quiet ts (ap (λ us. (plain_logs.parsed (plain_logs.at_end 0) None us).refused) h.are ∙ texts-plain (plain_logs.at_end 0) h.texts h.spelled)

unrefused : (o : plain_logs.Parsed) → o.refused ≡ None → o ≡ record { steps = o.steps; refused = None }
unrefused o e = ap (λ (r : Option LogError). let p : plain_logs.Parsed = record { steps = o.steps; refused = r } in p) e

plain-takes-only : (ts : List Token) → Ends plain_step is_idle None ts → IsPlainLog ts
plain-takes-only ts (None, e, w) =
    let o = plain_logs.parsed (plain_logs.at_end 0) None ts in
    let q : (plain_logs.parsed (plain_logs.at_end 0) None ts).refused ≡ None = plain-refusal (plain_logs.at_end 0) None ts ∙ ap (refusal (plain_logs.at_end 0)) e in
    let r : FromStart ts (plain_logs.parsed (plain_logs.at_end 0) None ts).steps = all-from 0 ts None (plain_logs.parsed (plain_logs.at_end 0) None ts).steps (unrefused (plain_logs.parsed (plain_logs.at_end 0) None ts) q) in
    record { texts = r.texts; are = r.tokens_are; spelled = r.spelled }
plain-takes-only ts (Some o, e, w) = cc

-- so many variables, and a 0
abbrev filling : ℕ → List Token → List Token
filling zero ts = zero_token ∷ ts
filling (suc n) ts = one_token ∷ filling n ts

plain-fills : (l : ℕ) (k : Kind) (ls : List Literal) (n : ℕ) → Fills k ls n → run plain_step (Some (record { line = l; kind = k; lits = ls })) (filling n []) ≡ reached None
plain-fills l k ls zero h = ap (λ m. go_on (behind_move m) 0 (λ q. run plain_step q [])) (zero-moves l k ls h)
plain-fills l k ls (suc n) h = ap (λ m. go_on (behind_move m) 0 (λ q. run plain_step q (filling n []))) (one-moves l k ls h.0) ∙ plain-fills l k (ls ++ record { var = 1; negative = false } ∷ []) n h.1

plain-open : (b : Option OpenStep) (ts : List Token) (c : Option OpenStep) → IsOpen b → run plain_step b ts ≡ reached c → IsOpen c
plain-open b [] c h e = let i : b ≡ c = cc in subst IsOpen i h
plain-open b (t ∷ ts) c h e = go (move b t) (move-open b t) e (λ d. plain-open d ts c) where
  go : (m : Move) → LeadsOpen m → go_on (behind_move m) t.line (λ q. run plain_step q ts) ≡ reached c → ((d : Option OpenStep) → IsOpen d → run plain_step d ts ≡ reached c → IsOpen c) → IsOpen c
  go (ends_step n s) h f ih = ih None tt f
  go (goes_on o) h f ih = ih (Some o) h f
  go unfit h f ih = cc

plain-can-end : (b : Option OpenStep) → IsOpen b → (more : List Token) × Ends plain_step is_idle b more
plain-can-end None h = ([], (None, refl, refl))
plain-can-end (Some o) h = let f = fillable o h in (filling f.0 [], (None, plain-fills o.line o.kind o.lits f.0 f.1, refl))

pub plain-reads : Reads IsPlainLog plain_step is_idle None
plain-reads = record {
  takes = plain-takes;
  takes_only = plain-takes-only;
  can_end = λ ts s e. plain-can-end s (plain-open None ts s tt e);
}

-- logs of either profile

abbrev pub behind_entry : EntryMove → Option Place
behind_entry (hands n s t q) = Some q
behind_entry (leads q) = Some q
behind_entry misfit = None

abbrev pub both_step : Place → Token → Option Place
both_step p t = behind_entry (place_move p t)

abbrev pub is_whole_at : Place → Bool
is_whole_at nowhere = true
is_whole_at format = false
is_whole_at version = false
is_whole_at (plain o) = is_idle o
is_whole_at (steps o) = is_idle o
is_whole_at (proving n s g p) = false

pub both-refusal : (last : Place → Option LogError) (p : Place) (ts : List Token) → (parsed last p ts).refused ≡ refusal last (run both_step p ts)
both-refusal last p [] = refl
both-refusal last p (t ∷ ts) = go (place_move p t) (λ q. both-refusal last q ts) where
  go : (m : EntryMove) → ((q : Place) → (parsed last q ts).refused ≡ refusal last (run both_step q ts))
      → (follow m t.line (λ q. parsed last q ts)).refused ≡ refusal last (go_on (behind_entry m) t.line (λ q. run both_step q ts))
  go (hands n s o q) ih = ih q
  go (leads q) ih = ih q
  go misfit ih = refl

whole-end : (n : ℕ) (p : Place) → at_end n p ≡ None → is_whole_at p ≡ true
whole-end n nowhere e = refl
whole-end n format e = cc
whole-end n version e = cc
whole-end n (plain None) e = refl
whole-end n (plain (Some o)) e = cc
whole-end n (steps None) e = refl
whole-end n (steps (Some o)) e = cc
whole-end n (proving l s g p) e = cc

end-whole : (n : ℕ) (p : Place) → is_whole_at p ≡ true → at_end n p ≡ None
end-whole n nowhere e = refl
end-whole n format e = cc
end-whole n version e = cc
end-whole n (plain None) e = refl
end-whole n (plain (Some o)) e = cc
end-whole n (steps None) e = refl
end-whole n (steps (Some o)) e = cc
end-whole n (proving l s g p) e = cc

pub at-place : (n : ℕ) (p : Place) → at_end n p ≡ (if is_whole_at p then None else Some (BadLine n))
at-place n nowhere = refl
at-place n format = refl
at-place n version = refl
at-place n (plain None) = refl
at-place n (plain (Some o)) = refl
at-place n (steps None) = refl
at-place n (steps (Some o)) = refl
at-place n (proving l s g p) = refl

both-quiet : (ts : List Token) → (parsed (at_end 0) nowhere ts).refused ≡ None → Ends both_step is_whole_at nowhere ts
both-quiet ts e = go (run both_step nowhere ts) refl (sym (both-refusal (at_end 0) nowhere ts) ∙ e) where
  go : (r : Run Place) → run both_step nowhere ts ≡ r → refusal (at_end 0) r ≡ None → Ends both_step is_whole_at nowhere ts
  go (reached p) i f = (p, i, whole-end 0 p f)
  go (stopped n) i f = cc

hinted-takes : (ts : List Token) → IsHintedLog ts → Ends both_step is_whole_at nowhere ts
hinted-takes ts h =
    both-quiet ts (ap (λ us. (parsed (at_end 0) nowhere us).refused) h.are
    ∙ ap (λ (o : Entries). o.refused) (header-read (at_end 0) h.header (hinted.tokens_in h.texts) h.opens ∙ texts-read (at_end 0) h.texts h.spelled))

-- the first profile

abbrev as_plain : Run (Option OpenStep) → Run Place
as_plain (reached b) = reached (plain b)
as_plain (stopped n) = stopped n

plain-runs : (b : Option OpenStep) (ts : List Token) → run both_step (plain b) ts ≡ as_plain (run plain_step b ts)
plain-runs b [] = refl
plain-runs b (t ∷ ts) = go (move b t) (λ c. plain-runs c ts) where
  go : (m : Move) → ((c : Option OpenStep) → run both_step (plain c) ts ≡ as_plain (run plain_step c ts))
      → go_on (behind_entry (in_plain m)) t.line (λ q. run both_step q ts) ≡ as_plain (go_on (behind_move m) t.line (λ q. run plain_step q ts))
  go (ends_step n s) ih = ih None
  go (goes_on o) ih = ih (Some o)
  go unfit ih = refl

-- a first token other than p is one of the first profile; p is none
abbrev FrontIs : Token → TokenKind → Type 0
FrontIs t k = ((k ≡ P) × (behind_move (move None t) ≡ None)) ⊎ (front_move t k ≡ in_plain (move None t))

front-is : (t : Token) (k : TokenKind) → t.kind ≡ k → FrontIs t k
front-is t P e = inl (refl, rw e refl)
front-is t (Number z) e = inr refl
front-is t Cnf e = inr refl
front-is t Qrat e = inr refl
front-is t E e = inr refl
front-is t A e = inr refl
front-is t D e = inr refl
front-is t U e = inr refl
front-is t R e = inr refl
front-is t Other e = inr refl

front-runs : (t : Token) (ts : List Token) → front_move t t.kind ≡ in_plain (move None t) → run both_step nowhere (t ∷ ts) ≡ as_plain (run plain_step None (t ∷ ts))
front-runs t ts e = ap (λ m. go_on (behind_entry m) t.line (λ q. run both_step q ts)) e ∙ plain-runs None (t ∷ ts)

plain-log-takes : (ts : List Token) → IsPlainLog ts → Ends both_step is_whole_at nowhere ts
plain-log-takes [] h = (nowhere, refl, refl)
plain-log-takes (t ∷ ts) h = go (plain-takes (t ∷ ts) h) (front-is t t.kind refl) where
  go : Ends plain_step is_idle None (t ∷ ts) → FrontIs t t.kind → Ends both_step is_whole_at nowhere (t ∷ ts)
  go (b, e, w) (inl f) = absurd (let g : run plain_step None (t ∷ ts) ≡ stopped t.line = ap (λ o. go_on o t.line (λ q. run plain_step q ts)) f.1 in cc)
  go (b, e, w) (inr f) = (plain b, front-runs t ts f ∙ ap as_plain e, w)

takes : (ts : List Token) → IsLog ts → Ends both_step is_whole_at nowhere ts
takes ts (inl h) = plain-log-takes ts h
takes ts (inr h) = hinted-takes ts h

nothing-plain : IsPlainLog []
nothing-plain = record { texts = []; are = refl; spelled = tt }

plain-back : (ts : List Token) (r : Run (Option OpenStep)) (p : Place) → run plain_step None ts ≡ r → as_plain r ≡ reached p → is_whole_at p ≡ true → IsPlainLog ts
plain-back ts (reached b) p i e w =
    let f : plain b ≡ p = cc in
    let g : is_idle b ≡ true = ap is_whole_at f ∙ w in
    plain-takes-only ts (b, i, g)
plain-back ts (stopped n) p i e w = cc

unrefused-entries : (o : Entries) → o.refused ≡ None → o ≡ all_read o.entries
unrefused-entries o e = ap (λ (r : Option LogError). let p : Entries = record { entries = o.entries; refused = r } in p) e

behind-p : (t : Token) (ts : List Token) → t.kind ≡ P → run both_step nowhere (t ∷ ts) ≡ run both_step format ts
behind-p t ts k = ap (λ m. go_on (behind_entry (front_move t m)) t.line (λ q. run both_step q ts)) k

hinted-back : (t : Token) (ts : List Token) → t.kind ≡ P → Ends both_step is_whole_at nowhere (t ∷ ts) → IsHintedLog (t ∷ ts)
hinted-back t ts k (p, e, w) =
    let q : (parsed (at_end 0) format ts).refused ≡ None = both-refusal (at_end 0) format ts ∙ (ap (refusal (at_end 0)) (sym (behind-p t ts k) ∙ e) ∙ end-whole 0 p w) in
    let r = front-parsed 0 t ts (parsed (at_end 0) format ts).entries k (unrefused-entries (parsed (at_end 0) format ts) q) in
    record { header = r.header; texts = r.steps.texts; opens = r.opens; are = r.split ∙ ap (λ us. r.header ++ us) r.steps.tokens_are; spelled = r.steps.spelled }

takes-only : (ts : List Token) → Ends both_step is_whole_at nowhere ts → IsLog ts
takes-only [] h = inl nothing-plain
takes-only (t ∷ ts) h = go (front-is t t.kind refl) h where
  go : FrontIs t t.kind → Ends both_step is_whole_at nowhere (t ∷ ts) → IsLog (t ∷ ts)
  go (inl f) h = inr (hinted-back t ts f.0 h)
  go (inr f) (p, e, w) = inl (plain-back (t ∷ ts) (run plain_step None (t ∷ ts)) p refl (sym (front-runs t ts f) ∙ e) w)

-- each place can be ended

abbrev CanEnd : Place → Type 0
CanEnd p = (more : List Token) × Ends both_step is_whole_at p more

abbrev three : Token
three = record { kind = Number (pos 3); line = 0 }

abbrev two : Token
two = record { kind = Number (pos 2); line = 0 }

abbrev qrat : Token
qrat = record { kind = Qrat; line = 0 }

part-can-end : (n : ℕ) (s : ProofStep) (g : Stage) (t : ProofPart) → CanEnd (proving n s g t)
part-can-end n s stage.Number t = (one_token ∷ three ∷ zero_token ∷ [], (steps None, refl, refl))
part-can-end n s stage.Kind t = (three ∷ zero_token ∷ [], (steps None, refl, refl))
part-can-end n s stage.Hints t = (zero_token ∷ [], (steps None, refl, refl))
part-can-end n s stage.Targets t = (zero_token ∷ [], (steps None, refl, refl))
part-can-end n s stage.GroupHints t = (zero_token ∷ zero_token ∷ [], (steps None, refl, refl))
part-can-end n s stage.Zero t = (zero_token ∷ [], (steps None, refl, refl))

-- one token more in front
leads-on : (p q : Place) (t : Token) → both_step p t ≡ Some q → CanEnd q → CanEnd p
leads-on p q t e (more, (s, f, w)) = (t ∷ more, (s, ap (λ o. go_on o t.line (λ q. run both_step q more)) e ∙ f, w))

behind-can-end : (k : Kind) (p : Place) (l : ℕ) (s : ProofStep) → both_step p zero_token ≡ behind_entry (behind_step k l s) → CanEnd p
behind-can-end Add p l s e = leads-on p _ zero_token e (part-can-end l s stage.Kind _)
behind-can-end Delete p l s e = leads-on p _ zero_token e (part-can-end l s stage.Number _)
behind-can-end Drop p l s e = leads-on p _ zero_token e (part-can-end l s stage.Number _)
behind-can-end Fresh p l s e = leads-on p (steps None) zero_token e ([], (steps None, refl, refl))
behind-can-end Remove p l s e = leads-on p (steps None) zero_token e ([], (steps None, refl, refl))

steps-can-end : (l : ℕ) (k : Kind) (ls : List Literal) (n : ℕ) → Fills k ls n → CanEnd (steps (Some (record { line = l; kind = k; lits = ls })))
steps-can-end l k ls zero h =
    behind-can-end k (steps (Some (record { line = l; kind = k; lits = ls }))) l (step_of k ls)
    (ap (λ m. behind_entry (in_steps m)) (zero-moves l k ls h) ∙ ap (λ j. behind_entry (behind_step j l (step_of k ls))) (kind-kept k ls))
steps-can-end l k ls (suc n) h =
    leads-on (steps (Some (record { line = l; kind = k; lits = ls }))) (steps (Some (record { line = l; kind = k; lits = ls ++ record { var = 1; negative = false } ∷ [] }))) one_token
    (ap (λ m. behind_entry (in_steps m)) (one-moves l k ls h.0)) (steps-can-end l k (ls ++ record { var = 1; negative = false } ∷ []) n h.1)

abbrev IsOpenPlace : Place → Type 0
IsOpenPlace nowhere = Unit {0}
IsOpenPlace format = Unit {0}
IsOpenPlace version = Unit {0}
IsOpenPlace (plain o) = IsOpen o
IsOpenPlace (steps o) = IsOpen o
IsOpenPlace (proving n s g p) = Unit {0}

place-can-end : (p : Place) → IsOpenPlace p → CanEnd p
place-can-end nowhere h = ([], (nowhere, refl, refl))
place-can-end format h = (qrat ∷ two ∷ [], (steps None, refl, refl))
place-can-end version h = (two ∷ [], (steps None, refl, refl))
place-can-end (plain b) h = let c = plain-can-end b h in (c.0, (plain c.1.0, plain-runs b c.0 ∙ ap as_plain c.1.1, c.1.2))
place-can-end (steps None) h = ([], (steps None, refl, refl))
place-can-end (steps (Some o)) h = let f = fillable o h in steps-can-end o.line o.kind o.lits f.0 f.1
place-can-end (proving n s g t) h = part-can-end n s g t

-- what a token leads to is open

abbrev LeadsToOpen : EntryMove → Type 0
LeadsToOpen (hands n s t q) = IsOpenPlace q
LeadsToOpen (leads q) = IsOpenPlace q
LeadsToOpen misfit = Unit {0}

either-entry : (b : Bool) (x y : EntryMove) → LeadsToOpen x → LeadsToOpen y → LeadsToOpen (if b then x else y)
either-entry true x y h k = h
either-entry false x y h k = k

plain-leads : (m : Move) → LeadsOpen m → LeadsToOpen (in_plain m)
plain-leads (ends_step n s) h = tt
plain-leads (goes_on o) h = h
plain-leads unfit h = tt

behind-leads : (k : Kind) (n : ℕ) (s : ProofStep) → LeadsToOpen (behind_step k n s)
behind-leads Add n s = tt
behind-leads Delete n s = tt
behind-leads Drop n s = tt
behind-leads Fresh n s = tt
behind-leads Remove n s = tt

steps-leads : (m : Move) → LeadsOpen m → LeadsToOpen (in_steps m)
steps-leads (ends_step n s) h = behind-leads (kind_of s) n s
steps-leads (goes_on o) h = h
steps-leads unfit h = tt

zero-leads : (n : ℕ) (s : ProofStep) (t : ProofPart) (g : Stage) → LeadsToOpen (with_zero n s t g)
zero-leads n s t stage.Number = tt
zero-leads n s t stage.Kind = tt
zero-leads n s t stage.Hints = tt
zero-leads n s t stage.Targets = tt
zero-leads n s t stage.GroupHints = tt
zero-leads n s t stage.Zero = tt

kind-leads : (n : ℕ) (s : ProofStep) (t : ProofPart) (v : ℕ) → LeadsToOpen (kind_move n s t v)
kind-leads n s t v = either-entry (v == 1) _ _ tt (either-entry (v == 2) _ _ tt (either-entry (v == 3) _ _ tt tt))

number-leads : (n : ℕ) (s : ProofStep) (t : ProofPart) (v : ℕ) (g : Stage) → LeadsToOpen (with_number n s t v g)
number-leads n s t v stage.Number = tt
number-leads n s t v stage.Kind = kind-leads n s t v
number-leads n s t v stage.Hints = tt
number-leads n s t v stage.Targets = tt
number-leads n s t v stage.GroupHints = tt
number-leads n s t v stage.Zero = tt

part-leads : (n : ℕ) (s : ProofStep) (t : ProofPart) (g : Stage) (o : Option ℕ) → LeadsToOpen (part_move n s t g o)
part-leads n s t g None = tt
part-leads n s t g (Some v) = either-entry (v == 0) (with_zero n s t g) (with_number n s t v g) (zero-leads n s t g) (number-leads n s t v g)

front-leads : (t : Token) (k : TokenKind) → LeadsToOpen (front_move t k)
front-leads t P = tt
front-leads t (Number z) = plain-leads (move None t) (move-open None t)
front-leads t Cnf = plain-leads (move None t) (move-open None t)
front-leads t Qrat = plain-leads (move None t) (move-open None t)
front-leads t E = plain-leads (move None t) (move-open None t)
front-leads t A = plain-leads (move None t) (move-open None t)
front-leads t D = plain-leads (move None t) (move-open None t)
front-leads t U = plain-leads (move None t) (move-open None t)
front-leads t R = plain-leads (move None t) (move-open None t)
front-leads t Other = plain-leads (move None t) (move-open None t)

format-leads : (k : TokenKind) → LeadsToOpen (format_move k)
format-leads Qrat = tt
format-leads P = tt
format-leads (Number z) = tt
format-leads Cnf = tt
format-leads E = tt
format-leads A = tt
format-leads D = tt
format-leads U = tt
format-leads R = tt
format-leads Other = tt

version-leads : (k : TokenKind) → LeadsToOpen (version_move k)
version-leads (Number (pos v)) = either-entry (v == 2) (leads (steps None)) misfit tt tt
version-leads (Number (negsuc v)) = tt
version-leads P = tt
version-leads Cnf = tt
version-leads Qrat = tt
version-leads E = tt
version-leads A = tt
version-leads D = tt
version-leads U = tt
version-leads R = tt
version-leads Other = tt

place-leads : (p : Place) (t : Token) → LeadsToOpen (place_move p t)
place-leads nowhere t = front-leads t t.kind
place-leads format t = format-leads t.kind
place-leads version t = version-leads t.kind
place-leads (plain o) t = plain-leads (move o t) (move-open o t)
place-leads (steps o) t = steps-leads (move o t) (move-open o t)
place-leads (proving n s g p) t = part-leads n s p g (number_in t.kind)

place-open : (p : Place) (ts : List Token) (q : Place) → IsOpenPlace p → run both_step p ts ≡ reached q → IsOpenPlace q
place-open p [] q h e = let i : p ≡ q = cc in subst IsOpenPlace i h
place-open p (t ∷ ts) q h e = go (place_move p t) (place-leads p t) e (λ r. place-open r ts q) where
  go : (m : EntryMove) → LeadsToOpen m → go_on (behind_entry m) t.line (λ r. run both_step r ts) ≡ reached q → ((r : Place) → IsOpenPlace r → run both_step r ts ≡ reached q → IsOpenPlace q) → IsOpenPlace q
  go (hands n s o r) h f ih = ih r h f
  go (leads r) h f ih = ih r h f
  go misfit h f ih = cc

pub both-reads : Reads IsLog both_step is_whole_at nowhere
both-reads = record {
  takes = takes;
  takes_only = takes-only;
  can_end = λ ts s e. place-can-end s (place-open nowhere ts s tt e);
}
