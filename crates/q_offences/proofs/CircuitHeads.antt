-- The header's rows, and the limit on bytes.
use Rattle.std.proofs.Common.{◌≡◌, ℕ, ◌+◌, ◌<◌, ◌≤◌, ◌==◌, ◌&&◌, nat_lt, nat_le, not, Bool, true, false, cond, List, [], ◌∷◌, length, take, Ok, Err, Result, Option, Some, None, refl, ap, sym, ◌∙◌, arith, subst}
use Rattle.std.proofs.lemmas.Bool.Decides.{nat_tests}
use Rattle.std.proofs.lemmas.Bool.{eqb-true}
use Rattle.q_logic.proofs.Booleans.{both-left, both-right}
use Rattle.q_text.specs.Words.{digits}
use Rattle.q_text.specs.Texts.{line_after}
use Rattle.q_aiger.specs.Lines.{clipped, words, lines_of}
use Rattle.q_aiger.specs.Headers.{Counts, is_aag, counts_with, counts_of, Header, header_with, header_of}
use Rattle.q_aiger.specs.Grammar.{AreNumbers}
use Rattle.q_aiger.specs.Circuits.{first_line, on_line, and_then, few_bytes}
use Rattle.q_offences.specs.CircuitTable.{HasCounts, FileHas, HeadRow, bad_header, has_latch, header_limit, byte_limit, head_table, HeadApplies, head_cause, head_line, IsHeadOffence, IsHeaded}
use Rattle.q_offences.proofs.FirstRows.{first_true, Tests, true-first, first-true}

aag-is : (w : List ℕ) → is_aag w ≡ true → w ≡ 97 ∷ 97 ∷ 103 ∷ []
aag-is [] e = absurd (cc)
aag-is (a ∷ []) e = absurd (cc)
aag-is (a ∷ b ∷ []) e = absurd (cc)
aag-is (a ∷ b ∷ c ∷ []) e =
    let p = eqb-true a 97 (both-left _ _ e) in
    let e1 = both-right (a == 97) _ e in
    let q = eqb-true b 97 (both-left _ _ e1) in
    let r = eqb-true c 103 (both-right (b == 97) _ e1) in
    ap (λ (x : ℕ). x ∷ b ∷ c ∷ []) p ∙ (ap (λ (x : ℕ). 97 ∷ x ∷ c ∷ []) q ∙ ap (λ (x : ℕ). 97 ∷ 97 ∷ x ∷ []) r)
aag-is (a ∷ b ∷ c ∷ d ∷ bs) e = absurd (cc)

-- the six words, and what they say

abbrev NumbersOf : Counts → List ℕ
NumbersOf c = c.max ∷ c.inputs ∷ c.latches ∷ c.outputs ∷ c.gates ∷ []

record IsCounted (ws : List (List ℕ)) (c : Counts) : Type 0 where
  numbers : List (List ℕ)
  spelled : ws ≡ (97 ∷ 97 ∷ 103 ∷ []) ∷ numbers
  are : AreNumbers numbers (NumbersOf c)

five : (t m i l o a : List ℕ) (c : Counts) → t ≡ 97 ∷ 97 ∷ 103 ∷ [] → counts_with (digits m) (digits i) (digits l) (digits o) (digits a) ≡ Some c → IsCounted (t ∷ m ∷ i ∷ l ∷ o ∷ a ∷ []) c
five t m i l o a c p e = go (digits m) refl (digits i) refl (digits l) refl (digits o) refl (digits a) refl e where
  go : (x1 : Option ℕ) → digits m ≡ x1 → (x2 : Option ℕ) → digits i ≡ x2 → (x3 : Option ℕ) → digits l ≡ x3 → (x4 : Option ℕ) → digits o ≡ x4 → (x5 : Option ℕ) → digits a ≡ x5
      → counts_with x1 x2 x3 x4 x5 ≡ Some c → IsCounted (t ∷ m ∷ i ∷ l ∷ o ∷ a ∷ []) c
  go None q1 x2 q2 x3 q3 x4 q4 x5 q5 f = absurd (cc)
  go (Some y1) q1 None q2 x3 q3 x4 q4 x5 q5 f = absurd (cc)
  go (Some y1) q1 (Some y2) q2 None q3 x4 q4 x5 q5 f = absurd (cc)
  go (Some y1) q1 (Some y2) q2 (Some y3) q3 None q4 x5 q5 f = absurd (cc)
  go (Some y1) q1 (Some y2) q2 (Some y3) q3 (Some y4) q4 None q5 f = absurd (cc)
  go (Some y1) q1 (Some y2) q2 (Some y3) q3 (Some y4) q4 (Some y5) q5 f =
      let z : ◌≡◌ {A = Counts} (record { max = y1; inputs = y2; latches = y3; outputs = y4; gates = y5 }) c = cc in
      record {
        numbers = m ∷ i ∷ l ∷ o ∷ a ∷ [];
        spelled = ap (λ (x : List ℕ). x ∷ m ∷ i ∷ l ∷ o ∷ a ∷ []) p;
        are = subst (λ (k : Counts). AreNumbers (m ∷ i ∷ l ∷ o ∷ a ∷ []) (NumbersOf k)) z (q1, (q2, (q3, (q4, (q5, tt)))));
      }

counted : (ws : List (List ℕ)) (c : Counts) → counts_of ws ≡ Some c → IsCounted ws c
counted [] c e = absurd (cc)
counted (t ∷ []) c e = absurd (cc)
counted (t ∷ m ∷ []) c e = absurd (cc)
counted (t ∷ m ∷ i ∷ []) c e = absurd (cc)
counted (t ∷ m ∷ i ∷ l ∷ []) c e = absurd (cc)
counted (t ∷ m ∷ i ∷ l ∷ o ∷ []) c e = absurd (cc)
counted (t ∷ m ∷ i ∷ l ∷ o ∷ a ∷ []) c e = go (is_aag t) refl e
  where
    go : (b : Bool) → is_aag t ≡ b → cond b (counts_with (digits m) (digits i) (digits l) (digits o) (digits a)) None ≡ Some c → IsCounted (t ∷ m ∷ i ∷ l ∷ o ∷ a ∷ []) c
    go false p f = absurd (cc)
    go true p f = five t m i l o a c (aag-is t p) f
counted (t ∷ m ∷ i ∷ l ∷ o ∷ a ∷ x ∷ ws) c e = absurd (cc)

numbers-counted : (ws : List (List ℕ)) (m i l o a : ℕ) → AreNumbers ws (m ∷ i ∷ l ∷ o ∷ a ∷ []) → counts_of ((97 ∷ 97 ∷ 103 ∷ []) ∷ ws) ≡ Some (record { max = m; inputs = i; latches = l; outputs = o; gates = a })
numbers-counted [] m i l o a h = absurd h
numbers-counted (u ∷ []) m i l o a h = absurd h.1
numbers-counted (u ∷ v ∷ []) m i l o a h = absurd h.1.1
numbers-counted (u ∷ v ∷ w ∷ []) m i l o a h = absurd h.1.1.1
numbers-counted (u ∷ v ∷ w ∷ x ∷ []) m i l o a h = absurd h.1.1.1.1
numbers-counted (u ∷ v ∷ w ∷ x ∷ y ∷ []) m i l o a h =
    ap (λ n. counts_with n (digits v) (digits w) (digits x) (digits y)) h.0
    ∙ (ap (λ n. counts_with (Some m) n (digits w) (digits x) (digits y)) h.1.0
    ∙ (ap (λ n. counts_with (Some m) (Some i) n (digits x) (digits y)) h.1.1.0
    ∙ (ap (λ n. counts_with (Some m) (Some i) (Some l) n (digits y)) h.1.1.1.0
    ∙ ap (λ n. counts_with (Some m) (Some i) (Some l) (Some o) n) h.1.1.1.1.0)))
numbers-counted (u ∷ v ∷ w ∷ x ∷ y ∷ z ∷ ws) m i l o a h = absurd h.1.1.1.1.1

has-counted : (l : List ℕ) (c : Counts) → HasCounts l c → counts_of (words l) ≡ Some c
has-counted l c h = ap counts_of h.spelled ∙ numbers-counted h.numbers c.max c.inputs c.latches c.outputs c.gates h.are

-- tests of what the line says

abbrev is_over : Option Counts → Bool
is_over None = true
is_over (Some c) = nat_lt c.max (c.inputs + c.latches + c.gates)

abbrev is_latched : Option Counts → Bool
is_latched None = false
is_latched (Some c) = not (nat_lt c.max (c.inputs + c.latches + c.gates)) && nat_lt 0 c.latches

abbrev is_large : Option Counts → Bool
is_large None = false
is_large (Some c) = not (nat_lt c.max (c.inputs + c.latches + c.gates)) && nat_lt 268435456 c.max

abbrev counts_at : List ℕ → Option Counts
counts_at bytes = counts_of (words (first_line (lines_of bytes)))

abbrev head_test : List ℕ → Option Counts → HeadRow → Bool
head_test bytes o bad_header = is_over o
head_test bytes o has_latch = is_latched o
head_test bytes o header_limit = is_large o
head_test bytes o byte_limit = not (nat_le (length bytes) 1099511627776)

not-over : (c : Counts) → c.inputs + c.latches + c.gates ≤ c.max → nat_lt c.max (c.inputs + c.latches + c.gates) ≡ false
not-over c h = grind (arith, nat_tests)

has-fits : (bytes : List ℕ) (o : Option Counts) (c : Counts) → counts_at bytes ≡ o → FileHas bytes c → o ≡ Some c
has-fits bytes o c e h = sym e ∙ has-counted (first_line (lines_of bytes)) c h

fits-has : (bytes : List ℕ) (c : Counts) → counts_at bytes ≡ Some c → nat_lt c.max (c.inputs + c.latches + c.gates) ≡ false → FileHas bytes c
fits-has bytes c e f =
    let r = counted (words (first_line (lines_of bytes))) c e in
    record { numbers = r.numbers; spelled = r.spelled; are = r.are; room = grind (arith, nat_tests) }

not-is : (a : Bool) → not a ≡ true → a ≡ false
not-is true e = cc
not-is false e = refl

pair : (a b : Bool) → a ≡ true → b ≡ true → a && b ≡ true
pair a b e f = rw (e, f) refl

head-tests : (bytes : List ℕ) → Tests (HeadApplies bytes) (head_test bytes (counts_at bytes))
head-tests bytes bad_header = go (counts_at bytes) refl where
  go : (o : Option Counts) → counts_at bytes ≡ o → (HeadApplies bytes bad_header → is_over o ≡ true) × (is_over o ≡ true → HeadApplies bytes bad_header)
  go None e = (λ h. refl, λ t x. let f : None ≡ Some x.0 = has-fits bytes None x.0 e x.1 in cc)
  go (Some c) e = (
    λ h. over (nat_lt c.max (c.inputs + c.latches + c.gates)) refl h,
    λ t x. (let f : Some c ≡ Some x.0 = has-fits bytes (Some c) x.0 e x.1 in let g : c ≡ x.0 = cc in let r : c.inputs + c.latches + c.gates ≤ c.max = subst (λ (k : Counts). k.inputs + k.latches + k.gates ≤ k.max) (sym g) x.1.room in let n = not-over c r in cc),
  ) where
    over : (b : Bool) → nat_lt c.max (c.inputs + c.latches + c.gates) ≡ b → ¬ ((c : Counts) × FileHas bytes c) → b ≡ true
    over true f h = refl
    over false f h = absurd (h (c, fits-has bytes c e f))
head-tests bytes has_latch = go (counts_at bytes) refl where
  go : (o : Option Counts) → counts_at bytes ≡ o → (HeadApplies bytes has_latch → is_latched o ≡ true) × (is_latched o ≡ true → HeadApplies bytes has_latch)
  go None e = (λ h. absurd (let f : None ≡ Some h.0 = has-fits bytes None h.0 e h.1 in cc), λ t. cc)
  go (Some c) e = (down, up) where
    down : HeadApplies bytes has_latch → is_latched (Some c) ≡ true
    down (d, h, l) =
        let f : Some c ≡ Some d = has-fits bytes (Some c) d e h in
        let g : d ≡ c = cc in
        subst (λ (k : Counts). is_latched (Some k) ≡ true) g (let n = not-over d h.room in pair (not (nat_lt d.max (d.inputs + d.latches + d.gates))) (nat_lt 0 d.latches) (rw n refl) (grind (arith, nat_tests)))

    up : is_latched (Some c) ≡ true → HeadApplies bytes has_latch
    up t =
        let a = not-is (nat_lt c.max (c.inputs + c.latches + c.gates)) (both-left _ _ t) in
        let b = both-right (not (nat_lt c.max (c.inputs + c.latches + c.gates))) _ t in
        (c, fits-has bytes c e a, grind (arith, nat_tests))
head-tests bytes header_limit = go (counts_at bytes) refl where
  go : (o : Option Counts) → counts_at bytes ≡ o → (HeadApplies bytes header_limit → is_large o ≡ true) × (is_large o ≡ true → HeadApplies bytes header_limit)
  go None e = (λ h. absurd (let f : None ≡ Some h.0 = has-fits bytes None h.0 e h.1 in cc), λ t. cc)
  go (Some c) e = (down, up) where
    down : HeadApplies bytes header_limit → is_large (Some c) ≡ true
    down (d, h, l) =
        let f : Some c ≡ Some d = has-fits bytes (Some c) d e h in
        let g : d ≡ c = cc in
        subst (λ (k : Counts). is_large (Some k) ≡ true) g (let n = not-over d h.room in pair (not (nat_lt d.max (d.inputs + d.latches + d.gates))) (nat_lt 268435456 d.max) (rw n refl) (grind (arith, nat_tests)))

    up : is_large (Some c) ≡ true → HeadApplies bytes header_limit
    up t =
        let a = not-is (nat_lt c.max (c.inputs + c.latches + c.gates)) (both-left _ _ t) in
        let b : nat_lt 268435456 c.max ≡ true = both-right (not (nat_lt c.max (c.inputs + c.latches + c.gates))) _ t in
        (c, fits-has bytes c e a, grind (arith, nat_tests))
head-tests bytes byte_limit = (λ h. byte (nat_le (length bytes) 1099511627776) refl h, λ t. let f = not-is (nat_le (length bytes) 1099511627776) t in grind (arith, nat_tests)) where
  byte : (b : Bool) → nat_le (length bytes) 1099511627776 ≡ b → 1099511627776 < length bytes → not b ≡ true
  byte true e h = absurd (let l : length bytes ≤ 1099511627776 = grind (arith, nat_tests) in omega arith)
  byte false e h = refl

-- the reader's first stage

abbrev pub headed : List ℕ → Result Header (ℕ × ℕ)
headed bytes = and_then (on_line 1 (header_of (first_line (lines_of bytes)))) (few_bytes bytes)

abbrev pub header_in : Counts → Header
header_in c = record { max = c.max; inputs = c.inputs; outputs = clipped c.outputs; gates = c.gates }

abbrev row_fault : List ℕ → Option HeadRow → Option (ℕ × ℕ)
row_fault bytes None = None
row_fault bytes (Some r) = Some (head_line bytes r, head_cause r)

abbrev fault : {X : Type 0} → Result X (ℕ × ℕ) → Option (ℕ × ℕ)
fault (Ok x) = None
fault (Err e) = Some e

abbrev headed_by : List ℕ → Option Counts → Result Header (ℕ × ℕ)
headed_by bytes o = and_then (on_line 1 (header_with o)) (few_bytes bytes)

headed-fault : (bytes : List ℕ) (o : Option Counts) → fault (headed_by bytes o) ≡ row_fault bytes (first_true (head_test bytes o) head_table)
headed-fault bytes None = refl
headed-fault bytes (Some c) = go (nat_lt c.max (c.inputs + c.latches + c.gates)) (nat_lt 0 c.latches) (nat_lt 268435456 c.max) (nat_le (length bytes) 1099511627776) where
  go : (x y z w : Bool)
      → fault (and_then (on_line 1 (cond {A = Result Header ℕ} x (Err 1) (cond {A = Result Header ℕ} y (Err 3) (cond {A = Result Header ℕ} z (Err 9) (Ok (header_in c)))))) (λ h. cond {A = Result Header (ℕ × ℕ)} w (Ok h) (Err (line_after (take 1099511627776 bytes), 9))))
      ≡ row_fault bytes (cond {A = Option HeadRow} x (Some bad_header) (cond {A = Option HeadRow} (not x && y) (Some has_latch) (cond {A = Option HeadRow} (not x && z) (Some header_limit) (cond {A = Option HeadRow} (not w) (Some byte_limit) None))))
  go true y z w = refl
  go false true z w = refl
  go false false true w = refl
  go false false false true = refl
  go false false false false = refl

pub head-offence : (bytes : List ℕ) (line cause : ℕ) → headed bytes ≡ Err (line, cause) → IsHeadOffence bytes line cause
head-offence bytes line cause e = go (first_true (head_test bytes (counts_at bytes)) head_table) refl (sym (ap fault e) ∙ headed-fault bytes (counts_at bytes)) where
  go : (o : Option HeadRow) → first_true (head_test bytes (counts_at bytes)) head_table ≡ o → Some (line, cause) ≡ row_fault bytes o → IsHeadOffence bytes line cause
  go None f g = cc
  go (Some r) f g =
      let h : (line, cause) ≡ (head_line bytes r, head_cause r) = cc in
      record { row = r; applies = true-first (HeadApplies bytes) (head_test bytes (counts_at bytes)) (head-tests bytes) head_table r f; line_is = ap (λ (p : ℕ × ℕ). p.0) h; cause_is = ap (λ (p : ℕ × ℕ). p.1) h }

pub offence-head : (bytes : List ℕ) (line cause : ℕ) → IsHeadOffence bytes line cause → headed bytes ≡ Err (line, cause)
offence-head bytes line cause o = go (headed bytes) refl where
  go : (r : Result Header (ℕ × ℕ)) → headed bytes ≡ r → headed bytes ≡ Err (line, cause)
  go (Ok h) e = absurd (let g = sym (ap fault e) ∙ (headed-fault bytes (counts_at bytes) ∙ ap (row_fault bytes) (first-true (HeadApplies bytes) (head_test bytes (counts_at bytes)) (head-tests bytes) head_table o.row o.applies)) in cc)
  go (Err p) e =
      let g = sym (ap fault e) ∙ (headed-fault bytes (counts_at bytes) ∙ ap (row_fault bytes) (first-true (HeadApplies bytes) (head_test bytes (counts_at bytes)) (head-tests bytes) head_table o.row o.applies)) in
      let h : p ≡ (head_line bytes o.row, head_cause o.row) = cc in
      let l = o.line_is in
      let c = o.cause_is in
      e ∙ (ap Err h ∙ rw (l, c) refl)

pub headed-is : (bytes : List ℕ) (h : Header) → headed bytes ≡ Ok h → (c : Counts) × IsHeaded bytes c × (h ≡ header_in c)
headed-is bytes h e = go (counts_at bytes) refl e where
  go : (o : Option Counts) → counts_at bytes ≡ o → headed_by bytes o ≡ Ok h → (c : Counts) × IsHeaded bytes c × (h ≡ header_in c)
  go None p f = absurd (cc)
  go (Some c) p f = by (nat_lt c.max (c.inputs + c.latches + c.gates)) refl (nat_lt 0 c.latches) refl (nat_lt 268435456 c.max) refl (nat_le (length bytes) 1099511627776) refl f where
    by : (x : Bool) → nat_lt c.max (c.inputs + c.latches + c.gates) ≡ x → (y : Bool) → nat_lt 0 c.latches ≡ y → (z : Bool) → nat_lt 268435456 c.max ≡ z → (w : Bool) → nat_le (length bytes) 1099511627776 ≡ w
        → and_then (on_line 1 (cond {A = Result Header ℕ} x (Err 1) (cond {A = Result Header ℕ} y (Err 3) (cond {A = Result Header ℕ} z (Err 9) (Ok (header_in c)))))) (λ h. cond {A = Result Header (ℕ × ℕ)} w (Ok h) (Err (line_after (take 1099511627776 bytes), 9))) ≡ Ok h
        → (c : Counts) × IsHeaded bytes c × (h ≡ header_in c)
    by true a y b z d w q g = absurd (cc)
    by false a true b z d w q g = absurd (cc)
    by false a false b true d w q g = absurd (cc)
    by false a false b false d false q g = absurd (cc)
    by false a false b false d true q g =
        let k : header_in c ≡ h = cc in
        (c, record { says = fits-has bytes c p a; no_latch = grind (arith, nat_tests); max = grind (arith, nat_tests); short = grind (arith, nat_tests) }, sym k)

pub is-headed : (bytes : List ℕ) (c : Counts) → IsHeaded bytes c → headed bytes ≡ Ok (header_in c)
is-headed bytes c h =
    let o = has-counted (first_line (lines_of bytes)) c h.says in
    let n = not-over c h.says.room in
    let l : nat_lt 0 c.latches ≡ false = let z = h.no_latch in grind (arith, nat_tests) in
    let m : nat_lt 268435456 c.max ≡ false = let z = h.max in grind (arith, nat_tests) in
    let b : nat_le (length bytes) 1099511627776 ≡ true = let z = h.short in grind (arith, nat_tests) in
    ap (headed_by bytes) o ∙ rw (n, l, m, b) refl
