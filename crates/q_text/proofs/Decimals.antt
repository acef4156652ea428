-- The decimal text of a number is a number token of this number.
use Rattle.std.proofs.Common.{◌==◌, ℤ, negsuc, suc, zero, ◌||◌, map, append_assoc, ◌≡◌, ◌≢◌, ℕ, ◌+◌, ◌-◌, ◌*◌, ◌/◌, ◌%◌, ◌<◌, ◌≤◌, ◌^◌, Bool, true, false, List, [], ◌∷◌, ◌++◌, Some, None, refl, ap, ◌∙◌, arith, if◌then◌else◌, pos}
use Rattle.std.specs.Fmt.{decimal}
use Rattle.std.specs.List.{AllByRecursion}
use Rattle.std.proofs.lemmas.Fmt.{decimal_by_steps}
use Rattle.std.proofs.lemmas.Bool.Decides.{nat_tests}
use Rattle.q_text.specs.declared.tokens.TokenKind.TheVariants.{Number}
use Rattle.q_text.specs.Words.{is_digit, clipped, digits, digits_behind, plain, letter, kind_of}
use Rattle.q_text.specs.declared.shape.Shape.{Shape}
use Rattle.q_text.specs.declared.shape.Shape.TheVariants.{Start, Between}
use Rattle.q_text.specs.declared.tokens.Token.{Token}
use Rattle.q_text.specs.Words.{is_separator, negative}
use Rattle.q_text.specs.Texts.{has_separator}
use Rattle.q_text.specs.Tokens.{to_come}
use Rattle.q_text.specs.Numbers.{number_text, numbers_text}
use Rattle.q_text.proofs.TokenLaw.{at}
use Rattle.q_text.proofs.SpelledWords.{Opens, opens-between, word-space, word-line}
use Rattle.q_text.proofs.WordShapes.{digit_no_c, digit_no_minus, digit_no_q, no_c_no_cnf, no_q_no_qrat}

digit-is : (d : ℕ) → d < 10 → is_digit (48 + d) ≡ true
digit-is d h = grind (arith, nat_tests)

digits-snoc : (m k d : ℕ) (ds : List ℕ) → d < 10 → digits_behind m ds ≡ Some k → digits_behind m (ds ++ (48 + d) ∷ []) ≡ Some (10 * k + d)
digits-snoc m k d [] h e =
    let s : m ≡ k = cc in
    let f : (48 + d) - 48 ≡ d = omega arith in
    rw (digit-is d h, f, s) refl
digits-snoc m k d (b ∷ ds) h e = go (is_digit b) e (digits-snoc (10 * m + (b - 48)) k d ds h) where
  go : (t : Bool) → (if t then digits_behind (10 * m + (b - 48)) ds else None) ≡ Some k → (digits_behind (10 * m + (b - 48)) ds ≡ Some k → digits_behind (10 * m + (b - 48)) (ds ++ (48 + d) ∷ []) ≡ Some (10 * k + d))
      → (if t then digits_behind (10 * m + (b - 48)) (ds ++ (48 + d) ∷ []) else None) ≡ Some (10 * k + d)
  go true e ih = ih e
  go false e ih = cc

one-digit : (n : ℕ) → n < 10 → digits_behind 0 ((48 + n) ∷ []) ≡ Some n
one-digit n h = let e = digits-snoc 0 0 n [] h refl in let f : 10 * 0 + n ≡ n = omega arith in rw f at e

pub decimal-digits : (n : ℕ) → n < 2 ^ 64 → digits_behind 0 (decimal n) ≡ Some n
decimal-digits n h = decimal_by_steps (λ k ds. digits_behind 0 ds ≡ Some k) one-digit
    (λ k ds l e. let s = digits-snoc 0 (k / 10) (k % 10) ds (omega arith) e in let f : 10 * (k / 10) + k % 10 ≡ k = omega arith in rw f at s) n h

first-digit : (m k b : ℕ) (bs : List ℕ) → digits_behind m (b ∷ bs) ≡ Some k → is_digit b ≡ true
first-digit m k b bs e = go (is_digit b) e where
  go : (t : Bool) → (if t then digits_behind (10 * m + (b - 48)) bs else None) ≡ Some k → t ≡ true
  go true e = refl
  go false e = cc

letter-digit : (b : ℕ) → is_digit b ≡ true → letter b ≡ plain (digits (b ∷ []))
letter-digit b d = grind (arith, nat_tests)

kind-of-digits : (k : ℕ) (ds : List ℕ) → digits_behind 0 ds ≡ Some k → ds ≢ [] → kind_of ds ≡ Number (pos (clipped k))
kind-of-digits k [] e h = absurd (h refl)
kind-of-digits k (b ∷ []) e h = letter-digit b (first-digit 0 k b [] e) ∙ ap plain e
kind-of-digits k (b ∷ c ∷ bs) e h =
    let d = first-digit 0 k b (c ∷ bs) e in
    let n = no_c_no_cnf b c bs (digit_no_c b d) in
    let q = no_q_no_qrat b c bs (digit_no_q b d) in
    let m = digit_no_minus b d in
    rw (n, q, m) (ap plain e)

not-empty : (n : ℕ) (ds : List ℕ) → digits_behind 0 ds ≡ Some n → 0 < n → ds ≢ []
not-empty n [] e h f = let s : 0 ≡ n = cc in omega arith
not-empty n (b ∷ ds) e h f = cc

-- a positive number up to the clip is read back
pub decimal-kind : (n : ℕ) → 0 < n → n ≤ 4611686018427387904 → kind_of (decimal n) ≡ Number (pos n)
decimal-kind n h l =
    let e = decimal-digits n (let s : n < 2 ^ 64 = omega arith in s) in
    let c : clipped n ≡ n = omega arith in
    kind-of-digits n (decimal n) e (not-empty n (decimal n) e h) ∙ ap (λ k. Number (pos k)) c

-- a number that is not clipped
abbrev pub IsShown : ℤ → Type 0
IsShown (pos n) = n ≤ 4611686018427387904
IsShown (negsuc n) = n < 4611686018427387904

abbrev pub token_of : ℕ → ℤ → Token
token_of n z = record { kind = Number z; line = n }

digit-plain : (b : ℕ) → is_digit b ≡ true → is_separator b ≡ false
digit-plain b d = grind (arith, nat_tests, d)

digits-plain : (m k : ℕ) (ds : List ℕ) → digits_behind m ds ≡ Some k → has_separator ds ≡ false
digits-plain m k [] e = refl
digits-plain m k (b ∷ ds) e = go (is_digit b) refl e (digits-plain (10 * m + (b - 48)) k ds) where
  go : (t : Bool) → is_digit b ≡ t → (if t then digits_behind (10 * m + (b - 48)) ds else None) ≡ Some k
      → (digits_behind (10 * m + (b - 48)) ds ≡ Some k → has_separator ds ≡ false) → (is_separator b || has_separator ds) ≡ false
  go true d e ih = rw (digit-plain b d, ih e) refl
  go false d e ih = cc

negative-kind : (m c : ℕ) (bs : List ℕ) → suc m ≤ 4611686018427387904 → digits_behind 0 (c ∷ bs) ≡ Some (suc m) → kind_of (45 ∷ c ∷ bs) ≡ Number (negsuc m)
negative-kind m c bs l e =
    let n = no_c_no_cnf 45 c bs refl in
    let k : clipped (suc m) ≡ suc m = omega arith in
    let f : (suc m == 0) ≡ false = grind (arith, nat_tests) in
    rw n (ap negative e ∙ rw (f, k) refl)

decimal-zero : decimal 0 ≡ 48 ∷ []
decimal-zero = decimal_by_steps (λ k ds. k ≡ 0 → ds ≡ 48 ∷ []) (λ n h e. ap (λ d. (48 + d) ∷ []) e) (λ k ds l e z. absurd (omega arith)) 0 (omega arith) refl

-- a number and a space
pub number-space : (n : ℕ) (s : Shape) (z : ℤ) (rest : List ℕ) → Opens s → IsShown z → to_come (at n s) (number_text z ++ rest) ≡ token_of n z ∷ to_come (at n Between) rest
number-space n s (pos zero) rest o h = rw decimal-zero (word-space n 48 [] rest s o refl refl)
number-space n s (pos (suc m)) rest o h = go (decimal (suc m)) (decimal-digits (suc m) (omega arith)) (decimal-kind (suc m) (omega arith) h) where
  go : (ds : List ℕ) → digits_behind 0 ds ≡ Some (suc m) → kind_of ds ≡ Number (pos (suc m)) → to_come (at n s) ((ds ++ 32 ∷ []) ++ rest) ≡ token_of n (pos (suc m)) ∷ to_come (at n Between) rest
  go [] e k = absurd (not-empty (suc m) [] e (omega arith) refl)
  go (b ∷ bs) e k =
      ap (to_come (at n s)) (append_assoc (b ∷ bs) (32 ∷ []) rest)
      ∙ (word-space n b bs rest s o (digit_no_c b (first-digit 0 (suc m) b bs e)) (digits-plain 0 (suc m) (b ∷ bs) e)
      ∙ ap (λ x. let t : Token = record { kind = x; line = n } in t ∷ to_come (at n Between) rest) k)
number-space n s (negsuc m) rest o h = go (decimal (suc m)) (decimal-digits (suc m) (omega arith)) where
  go : (ds : List ℕ) → digits_behind 0 ds ≡ Some (suc m) → to_come (at n s) ((45 ∷ ds ++ 32 ∷ []) ++ rest) ≡ token_of n (negsuc m) ∷ to_come (at n Between) rest
  go [] e = absurd (not-empty (suc m) [] e (omega arith) refl)
  go (c ∷ bs) e =
      ap (to_come (at n s)) (append_assoc (45 ∷ c ∷ bs) (32 ∷ []) rest)
      ∙ (word-space n 45 (c ∷ bs) rest s o refl (digits-plain 0 (suc m) (c ∷ bs) e)
      ∙ ap (λ x. let t : Token = record { kind = x; line = n } in t ∷ to_come (at n Between) rest) (negative-kind m c bs (omega arith) e))

-- a count and LF
pub count-line : (n : ℕ) (s : Shape) (m : ℕ) (rest : List ℕ) → Opens s → m ≤ 4611686018427387904 → to_come (at n s) (decimal m ++ 10 ∷ rest) ≡ token_of n (pos m) ∷ to_come (at (n + 1) Start) rest
count-line n s zero rest o h = rw decimal-zero (word-line n 48 [] rest s o refl refl)
count-line n s (suc m) rest o h = go (decimal (suc m)) (decimal-digits (suc m) (omega arith)) (decimal-kind (suc m) (omega arith) h)
  where
    go : (ds : List ℕ) → digits_behind 0 ds ≡ Some (suc m) → kind_of ds ≡ Number (pos (suc m)) → to_come (at n s) (ds ++ 10 ∷ rest) ≡ token_of n (pos (suc m)) ∷ to_come (at (n + 1) Start) rest
    go [] e k = absurd (not-empty (suc m) [] e (omega arith) refl)
    go (b ∷ bs) e k =
        word-line n b bs rest s o (digit_no_c b (first-digit 0 (suc m) b bs e)) (digits-plain 0 (suc m) (b ∷ bs) e)
        ∙ ap (λ x. let t : Token = record { kind = x; line = n } in t ∷ to_come (at (n + 1) Start) rest) k

-- a line of numbers, 0 at its end
pub numbers-line : (n : ℕ) (s : Shape) (zs : List ℤ) (rest : List ℕ) → Opens s → AllByRecursion IsShown zs →
    to_come (at n s) (numbers_text zs ++ 48 ∷ 10 ∷ rest) ≡ map (token_of n) zs ++ token_of n (pos 0) ∷ to_come (at (n + 1) Start) rest
numbers-line n s [] rest o h = word-line n 48 [] rest s o refl refl
numbers-line n s (z ∷ zs) rest o (h, hs) =
    ap (to_come (at n s)) (append_assoc (number_text z) (numbers_text zs) (48 ∷ 10 ∷ rest))
    ∙ (number-space n s z (numbers_text zs ++ 48 ∷ 10 ∷ rest) o h
    ∙ ap (λ ts. token_of n z ∷ ts) (numbers-line n Between zs rest opens-between hs))
