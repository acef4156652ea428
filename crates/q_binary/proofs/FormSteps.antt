-- A proof whose form its first two bytes tell, read byte by byte.
use Rattle.std.proofs.Common.{◌≡◌, ◌≢◌, ◌<◌, ◌≤◌, ◌+◌, ◌-◌, ◌==◌, ℕ, zero, suc, Bool, true, false, if◌then◌else◌, List, [], ◌∷◌, ◌++◌, length, take, drop, Result, Ok, Err, Option, None, Some, IfOk, refl, sym, ap, ◌∙◌, arith, subst, get_or, append_assoc}
use Rattle.std.proofs.lemmas.List.{take-append-drop}
use Rattle.std.proofs.lemmas.Bool.Decides.{nat_tests}
use Rattle.q_logic.specs.Prelude.{ProofStep}
use Rattle.q_text.specs.Words.{is_separator}
use Rattle.q_log.specs.declared.error.LogError.{LogError}
use Rattle.q_log.specs.declared.error.LogError.TheVariants.{BadLine, Limit, NoMemory}
use Rattle.q_log.specs.Logs.{Parsed}
use Rattle.q_log.specs.Reading as log
use Rattle.q_hinted.specs.Logs.{Entry, Entries, plain_entries}
use Rattle.q_hinted.specs.Reading.{BothState}
use Rattle.q_hinted.specs.Reading as reading
use Rattle.q_binary.specs.Reading.{BinaryState}
use Rattle.q_binary.specs.Reading as bytes
use Rattle.q_binary.specs.Forms.{AreBoth, Begins, IsOfEnd, IsOfOne, IsStop, Passes, ProofState, as_entry, by_form, goes_on_binary, left_of, to_come}
use Rattle.q_binary.specs.declared.form.Form.{Form}
use Rattle.q_binary.specs.declared.form.Form.TheVariants.{Unread, Begun, Text, Binary}

abbrev pub state : BothState → BinaryState → Form → ProofState
state t b f = record { text = t; binary = b; form = f }

-- the first byte of a piece, and what follows
first-of : (piece rest : List ℕ) (n : ℕ) → 0 < n → 0 < length piece → (more : List ℕ) × (take n piece ++ rest ≡ get_or piece 0 0 ∷ more)
first-of [] rest n h k = absurd (omega arith)
first-of (b ∷ bs) rest zero h k = absurd (omega arith)
first-of (b ∷ bs) rest (suc n) h k = (take n bs ++ rest, refl)

whole-of : (piece rest : List ℕ) → 0 < length piece → (more : List ℕ) × (piece ++ rest ≡ get_or piece 0 0 ∷ more)
whole-of [] rest h = absurd (omega arith)
whole-of (b ∷ bs) rest h = (bs ++ rest, refl)

-- a refusal stops what was to come
stop : (e : LogError) (before now : Entries) → reading.Leads (Err e) before now → IsStop e before
stop NoMemory before now h = tt
stop (BadLine n) before now h = h.0
stop (Limit n) before now h = h.0

-- what a binary proof says are steps without proof parts
leads-plain : (o : Option (ℕ × ProofStep)) (before now : Parsed) → log.Leads (Ok o) before now →
    reading.Leads (Ok (as_entry o)) (plain_entries before) (plain_entries now)
leads-plain None before now h = ap plain_entries h
leads-plain (Some s) before now h = ap plain_entries h

stop-plain : (e : LogError) (before now : Parsed) → log.Leads (Err e) before now → IsStop e (plain_entries before)
stop-plain NoMemory before now h = tt
stop-plain (BadLine n) before now h = ap plain_entries h.0
stop-plain (Limit n) before now h = ap plain_entries h.0

-- what is chosen for this byte stays chosen
abbrev Chooses : Form → Form → ℕ → Type 0
Chooses from to b = (more : List ℕ) (t u : Entries) → by_form from (b ∷ more) t u ≡ by_form to (b ∷ more) t u

pub chooses-same : (f to : Form) (b : ℕ) → f ≡ to → Chooses f to b
chooses-same f to b e more t u = rw e refl

pub chooses-text : (f : Form) (b : ℕ) → f ≡ Unread → (b == 97) ≡ false → (b == 100) ≡ false → Chooses f Text b
chooses-text f b k e d more t u = rw (k, e, d) refl

pub chooses-blank : (f : Form) (b : ℕ) → f ≡ Begun → true ≡ is_separator b → Chooses f Text b
chooses-blank f b k e more t u = rw (k, sym e) refl

pub chooses-other : (f : Form) (b : ℕ) → f ≡ Begun → false ≡ is_separator b → Chooses f Binary b
chooses-other f b k e more t u = rw (k, sym e) refl

-- the text is read on from a piece
text-ok : (f : Form) (t u : BothState) (b : BinaryState) (piece : List ℕ) (n : ℕ) (o : Option Entry) → Chooses f Text (get_or piece 0 0) →
    0 < n → 0 < length piece → reading.Passes (Ok (n, o)) t u piece → Passes (Ok (n, o)) (state t b f) (state u b Text) piece
text-ok f t u b piece n o c k s h rest =
    let x = first-of piece rest n k s in
    let same : to_come (state t b f) (take n piece ++ rest) ≡ reading.to_come t (take n piece ++ rest) =
    rw x.1 (c x.0 (reading.to_come t (get_or piece 0 0 ∷ x.0)) (plain_entries (bytes.to_come b (get_or piece 0 0 ∷ x.0)))) in
    subst (λ (p : Entries). reading.Leads (Ok o) p (reading.to_come u rest)) (sym same) (h rest)

text-err : (f : Form) (t u : BothState) (b : BinaryState) (piece : List ℕ) (e : LogError) → Chooses f Text (get_or piece 0 0) →
    0 < length piece → reading.Passes (Err e) t u piece → Passes (Err e) (state t b f) (state u b Text) piece
text-err f t u b piece e ch s (n, h) rest =
    let x = whole-of piece rest s in
    let same : to_come (state t b f) (piece ++ rest) ≡ reading.to_come t (piece ++ rest) =
    rw x.1 (ch x.0 (reading.to_come t (get_or piece 0 0 ∷ x.0)) (plain_entries (bytes.to_come b (get_or piece 0 0 ∷ x.0)))) in
    let all : take n piece ++ (drop n piece ++ rest) ≡ piece ++ rest =
    sym (append_assoc (take n piece) (drop n piece) rest) ∙ ap (λ (xs : List ℕ). xs ++ rest) (take-append-drop n piece) in
    let stops : IsStop e (reading.to_come t (piece ++ rest)) =
    subst (λ (xs : List ℕ). IsStop e (reading.to_come t xs)) all
    (stop e (reading.to_come t (take n piece ++ (drop n piece ++ rest))) (reading.to_come u (drop n piece ++ rest)) (h (drop n piece ++ rest))) in
    subst (IsStop e) (sym same) stops

text-all : (a : Result (ℕ × Option Entry) LogError) (f : Form) (t u : BothState) (b : BinaryState) (piece : List ℕ) → Chooses f Text (get_or piece 0 0) →
    0 < length piece → IfOk a (λ r. (0 < r.0) × (r.0 ≤ length piece)) → reading.Passes a t u piece → Passes a (state t b f) (state u b Text) piece
text-all (Ok (n, o)) f t u b piece c s w h = text-ok f t u b piece n o c w.0 s h
text-all (Err e) f t u b piece c s w h = text-err f t u b piece e c s h

pub text-passes : (a : Result (ℕ × Option Entry) LogError) (f g : Form) (t u : BothState) (b : BinaryState) (p : ProofState) (piece : List ℕ) →
    state t b f ≡ p → g ≡ Text → Chooses f Text (get_or piece 0 0) → 0 < length piece →
    IfOk a (λ r. (0 < r.0) × (r.0 ≤ length piece)) → reading.Passes a t u piece → Passes a p (state u b g) piece
text-passes a f g t u b p piece v k c s w h =
    subst (λ (q : ProofState). Passes a q (state u b g) piece) v
    (subst (λ (j : Form). Passes a (state t b f) (state u b j) piece) (sym k) (text-all a f t u b piece c s w h))

-- a binary proof is read on from a byte
binary-ok : (f : Form) (t : BothState) (b c : BinaryState) (piece : List ℕ) (o : Option (ℕ × ProofStep)) → Chooses f Binary (get_or piece 0 0) →
    0 < length piece → ((rest : List ℕ) → log.Leads (Ok o) (bytes.to_come b (get_or piece 0 0 ∷ rest)) (bytes.to_come c rest)) →
    Passes (Ok (1, as_entry o)) (state t b f) (state t c Binary) piece
binary-ok f t b c [] o ch s h rest = absurd (omega arith)
binary-ok f t b c (x ∷ xs) o ch s h rest =
    subst (λ (p : Entries). reading.Leads (Ok (as_entry o)) p (plain_entries (bytes.to_come c rest)))
    (sym (ch rest (reading.to_come t (x ∷ rest)) (plain_entries (bytes.to_come b (x ∷ rest)))))
    (leads-plain o (bytes.to_come b (x ∷ rest)) (bytes.to_come c rest) (h rest))

binary-err : (f : Form) (t : BothState) (b c : BinaryState) (piece : List ℕ) (e : LogError) → Chooses f Binary (get_or piece 0 0) →
    0 < length piece → ((rest : List ℕ) → log.Leads (Err e) (bytes.to_come b (get_or piece 0 0 ∷ rest)) (bytes.to_come c rest)) →
    Passes (Err e) (state t b f) (state t c Binary) piece
binary-err f t b c [] e ch s h rest = absurd (omega arith)
binary-err f t b c (x ∷ xs) e ch s h rest =
    subst (IsStop e) (sym (ch (xs ++ rest) (reading.to_come t (x ∷ (xs ++ rest))) (plain_entries (bytes.to_come b (x ∷ (xs ++ rest))))))
    (stop-plain e (bytes.to_come b (x ∷ (xs ++ rest))) (bytes.to_come c (xs ++ rest)) (h (xs ++ rest)))

binary-all : (a : Result (Option (ℕ × ProofStep)) LogError) (r : Result (ℕ × Option Entry) LogError) (f : Form) (t : BothState) (b c : BinaryState) (piece : List ℕ) →
    IsOfOne a r → Chooses f Binary (get_or piece 0 0) → 0 < length piece →
    ((rest : List ℕ) → log.Leads a (bytes.to_come b (get_or piece 0 0 ∷ rest)) (bytes.to_come c rest)) →
    Passes r (state t b f) (state t c Binary) piece
binary-all (Ok o) r f t b c piece e ch s h =
    subst (λ (q : Result (ℕ × Option Entry) LogError). Passes q (state t b f) (state t c Binary) piece) (sym e) (binary-ok f t b c piece o ch s h)
binary-all (Err x) r f t b c piece e ch s h =
    subst (λ (q : Result (ℕ × Option Entry) LogError). Passes q (state t b f) (state t c Binary) piece) (sym e) (binary-err f t b c piece x ch s h)

pub binary-passes : (a : Result (Option (ℕ × ProofStep)) LogError) (r : Result (ℕ × Option Entry) LogError) (f g : Form) (t : BothState) (b c : BinaryState) (p : ProofState) (piece : List ℕ) →
    state t b f ≡ p → g ≡ Binary → IsOfOne a r → Chooses f Binary (get_or piece 0 0) → 0 < length piece →
    ((rest : List ℕ) → log.Leads a (bytes.to_come b (get_or piece 0 0 ∷ rest)) (bytes.to_come c rest)) →
    Passes r p (state t c g) piece
binary-passes a r f g t b c p piece v k e ch s h =
    subst (λ (q : ProofState). Passes r q (state t c g) piece) v
    (subst (λ (j : Form). Passes r (state t b f) (state t c j) piece) (sym k) (binary-all a r f t b c piece e ch s h))

-- a `d` in front
pub begun-passes : (a : Result (ℕ × Option Entry) LogError) (old new : ProofState) (piece : List ℕ) →
    0 < length piece → get_or piece 0 0 ≡ 100 → Begins a old new → Passes a old new piece
begun-passes (Ok r) old new [] s e h = absurd (omega arith)
begun-passes (Ok r) old new (x ∷ xs) s e (h, l, k) =
    subst (λ (q : ℕ × Option Entry). Passes (Ok q) old new (x ∷ xs)) (sym h) (λ (rest : List ℕ). ap (λ (y : ℕ). to_come old (y ∷ rest)) e ∙ k rest)
begun-passes (Err x) old new piece s e h = λ (rest : List ℕ). subst (λ (q : LogError). IsStop q (to_come old (piece ++ rest))) (sym h) tt

swap : (c : Bool) (x y v w : Entries) → x ≡ v → y ≡ w → (if c then x else y) ≡ (if c then v else w)
swap true x y v w e f = e
swap false x y v w e f = f

-- neither form makes a step of it
quiet-text : (limit : ℕ) (u : BothState) (o : Option Entry) → 0 < limit →
    reading.Answers (Ok o) u (reading.transition (reading.start limit) 100) → (o ≡ None) × (u.left + 1 ≡ limit)
quiet-text limit u o h a =
    let e : (limit == 0) ≡ false = grind (arith, nat_tests) in
    let b = rw e at a in
    let n : limit - 1 + 1 ≡ limit = omega arith in
    (cc b.0, ap (λ (s : BothState). s.left + 1) b.1 ∙ n)

quiet-binary : (limit : ℕ) (c : BinaryState) (o : Option (ℕ × ProofStep)) → 0 < limit →
    bytes.Answers (Ok o) c (bytes.transition (bytes.start limit) 100) → o ≡ None
quiet-binary limit c o h a =
    let e : (limit == 0) ≡ false = grind (arith, nat_tests) in
    let b = rw e at a in
    cc b.0

module _ (t u : BothState) (b c : BinaryState) (o : Option Entry) (q : Option (ℕ × ProofStep)) where
  unread-begun : AreBoth Unread t b → reading.Answers (Ok o) u (reading.transition t 100) → bytes.Answers (Ok q) c (bytes.transition b 100) →
      ((rest : List ℕ) → reading.Leads (Ok o) (reading.to_come t (100 ∷ rest)) (reading.to_come u rest)) →
      ((rest : List ℕ) → log.Leads (Ok q) (bytes.to_come b (100 ∷ rest)) (bytes.to_come c rest)) →
      (u.left + 1 ≡ t.left) × ((rest : List ℕ) → to_come (state t b Unread) (100 ∷ rest) ≡ to_come (state u c Begun) rest)
  unread-begun (limit, some, te, be) ta ba tl bl =
      let x = quiet-text limit u o some (subst (λ (s : BothState). reading.Answers (Ok o) u (reading.transition s 100)) te ta) in
      let y = quiet-binary limit c q some (subst (λ (s : BinaryState). bytes.Answers (Ok q) c (bytes.transition s 100)) be ba) in (
        x.1 ∙ sym (ap (λ (s : BothState). s.left) te),
        λ rest. swap (goes_on_binary rest) (plain_entries (bytes.to_come b (100 ∷ rest))) (reading.to_come t (100 ∷ rest)) (plain_entries (bytes.to_come c rest)) (reading.to_come u rest)
            (ap plain_entries (subst (λ (z : Option (ℕ × ProofStep)). log.Leads (Ok z) (bytes.to_come b (100 ∷ rest)) (bytes.to_come c rest)) y (bl rest)))
            (subst (λ (z : Option Entry). reading.Leads (Ok z) (reading.to_come t (100 ∷ rest)) (reading.to_come u rest)) x.0 (tl rest)),
      )

  pub begun : (f : Form) (p : ProofState) → state t b f ≡ p → p.form ≡ Unread → AreBoth f t b →
      reading.Answers (Ok o) u (reading.transition t 100) → bytes.Answers (Ok q) c (bytes.transition b 100) →
      ((rest : List ℕ) → reading.Leads (Ok o) (reading.to_come t (100 ∷ rest)) (reading.to_come u rest)) →
      ((rest : List ℕ) → log.Leads (Ok q) (bytes.to_come b (100 ∷ rest)) (bytes.to_come c rest)) →
      (u.left + 1 ≡ left_of p) × ((rest : List ℕ) → to_come p (100 ∷ rest) ≡ to_come (state u c Begun) rest)
  begun f p v k both ta ba tl bl =
      let w : f ≡ Unread = ap (λ (x : ProofState). x.form) v ∙ k in
      let z : state t b Unread ≡ p = ap (state t b) (sym w) ∙ v in
      subst (λ (x : ProofState). (u.left + 1 ≡ left_of x) × ((rest : List ℕ) → to_come x (100 ∷ rest) ≡ to_come (state u c Begun) rest)) z
      (unread-begun (subst (λ (j : Form). AreBoth j t b) w both) ta ba tl bl)

-- the end is that of a log, where the proof is not known to be binary
pub ends-text : (f : Form) (t : BothState) (b : BinaryState) (p : ProofState) → state t b f ≡ p → f ≢ Binary → reading.to_come t [] ≡ to_come p []
ends-text f t b p v n = go f n ∙ ap (λ (x : ProofState). to_come x []) v
  where
    go : (j : Form) → j ≢ Binary → reading.to_come t [] ≡ to_come (state t b j) []
    go Unread m = refl
    go Begun m = refl
    go Text m = refl
    go Binary m = absurd (m refl)

-- the end is that of a binary proof
end-plain : (a : Result (Option (ℕ × ProofStep)) LogError) (before : Parsed) → log.Ends a before →
    (r : Result (Option Entry) LogError) → IsOfEnd a r → reading.Ends r (plain_entries before)
end-plain (Ok None) before h r e = subst (λ (x : Result (Option Entry) LogError). reading.Ends x (plain_entries before)) (sym e) (ap plain_entries h)
end-plain (Ok (Some s)) before h r e = subst (λ (x : Result (Option Entry) LogError). reading.Ends x (plain_entries before)) (sym e) (ap plain_entries h)
end-plain (Err NoMemory) before h r e = subst (λ (x : Result (Option Entry) LogError). reading.Ends x (plain_entries before)) (sym e) tt
end-plain (Err (BadLine n)) before h r e = subst (λ (x : Result (Option Entry) LogError). reading.Ends x (plain_entries before)) (sym e) (ap plain_entries h)
end-plain (Err (Limit n)) before h r e = subst (λ (x : Result (Option Entry) LogError). reading.Ends x (plain_entries before)) (sym e) (ap plain_entries h)

pub ends-binary : (a : Result (Option (ℕ × ProofStep)) LogError) (r : Result (Option Entry) LogError) (f : Form) (t : BothState) (b : BinaryState) (p : ProofState) →
    state t b f ≡ p → f ≡ Binary → IsOfEnd a r → log.Ends a (bytes.to_come b []) → reading.Ends r (to_come p [])
ends-binary a r f t b p v k e h =
    subst (λ (x : ProofState). reading.Ends r (to_come x [])) v
    (subst (λ (j : Form). reading.Ends r (to_come (state t b j) [])) (sym k) (end-plain a (bytes.to_come b []) h r e))
