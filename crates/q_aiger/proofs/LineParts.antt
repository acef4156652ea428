-- Lines and words of texts that are put together.
use Rattle.std.proofs.Common.{◌≡◌, ℕ, ◌+◌, ◌-◌, ◌*◌, ◌%◌, ◌<◌, ◌≤◌, ◌^◌, ◌==◌, cond, Bool, true, false, List, [], ◌∷◌, ◌++◌, length, refl, ap, sym, ◌∙◌, arith, Some, None, append-nil, append_assoc, length-append}
use Rattle.std.specs.List.{AllByRecursion}
use Rattle.std.specs.Fmt.{decimal}
use Rattle.std.proofs.lemmas.Fmt.{decimal_by_steps}
use Rattle.std.proofs.lemmas.Bool.Decides.{nat_tests}
use Rattle.q_text.specs.Texts.{lines, onto_first}
use Rattle.q_text.specs.Words.{is_digit, digits, digits_behind}
use Rattle.q_text.proofs.Decimals.{decimal-digits}
use Rattle.q_aiger.specs.Lines.{is_blank, words_after, words, without_return, ended, lines_of}
use Rattle.q_aiger.proofs.LineCuts.{ended-more}

-- the byte ends no line
abbrev pub IsInside : ℕ → Type 0
IsInside b = ((b == 10) ≡ false) × ((b == 13) ≡ false)

-- the byte ends no word
abbrev pub IsPlain : ℕ → Type 0
IsPlain b = is_blank b ≡ false

pub all-weaker : {X : Type 0} (P Q : X → Type 0) (xs : List X) → ((x : X) → P x → Q x) → AllByRecursion P xs → AllByRecursion Q xs
all-weaker P Q [] f h = tt
all-weaker P Q (x ∷ xs) f h = (f x h.0, all-weaker P Q xs f h.1)

lines-step : (l rest : List ℕ) → AllByRecursion IsInside l → lines (l ++ 10 ∷ rest) ≡ l ∷ lines rest
lines-step [] rest h = refl
lines-step (b ∷ l) rest h =
    ap (λ t. cond t ([] ∷ lines (l ++ 10 ∷ rest)) (onto_first b (lines (l ++ 10 ∷ rest)))) h.0.0 ∙ ap (onto_first b) (lines-step l rest h.1)

no-return : (l : List ℕ) → AllByRecursion IsInside l → without_return l ≡ l
no-return [] h = refl
no-return (b ∷ []) h = ap (λ t. cond t [] (b ∷ [])) h.0.1
no-return (b ∷ c ∷ l) h = ap (λ x. b ∷ x) (no-return (c ∷ l) h.1)

pub line-of : (l rest : List ℕ) → AllByRecursion IsInside l → lines_of (l ++ 10 ∷ rest) ≡ l ∷ lines_of rest
line-of l rest h = ap ended (lines-step l rest h) ∙ (ended-more l rest ∙ ap (λ x. x ∷ lines_of rest) (no-return l h))

words-plain : (v w rest : List ℕ) → AllByRecursion IsPlain w → words_after v (w ++ rest) ≡ words_after (v ++ w) rest
words-plain v [] rest h = ap (λ x. words_after x rest) (sym (append-nil v))
words-plain v (b ∷ w) rest h =
    step h.0 ∙ (words-plain (v ++ b ∷ []) w rest h.1 ∙ ap (λ x. words_after x rest) (append_assoc v (b ∷ []) w))
  where
    step : is_blank b ≡ false → words_after v (b ∷ (w ++ rest)) ≡ words_after (v ++ b ∷ []) (w ++ rest)
    step e = rw e refl

pub word-space : (w rest : List ℕ) → 1 ≤ length w → AllByRecursion IsPlain w → words (w ++ 32 ∷ rest) ≡ w ∷ words rest
word-space [] rest n h = absurd (omega arith)
word-space (b ∷ w) rest n h = words-plain [] (b ∷ w) (32 ∷ rest) h

pub word-last : (w : List ℕ) → 1 ≤ length w → AllByRecursion IsPlain w → words w ≡ w ∷ []
word-last [] n h = absurd (omega arith)
word-last (b ∷ w) n h = ap words (sym (append-nil (b ∷ w))) ∙ words-plain [] (b ∷ w) [] h

-- the word is this number, in digits
pub record IsShown (w : List ℕ) (n : ℕ) : Type 0 where
  pub value : digits w ≡ Some n
  pub all_digits : AllByRecursion (λ b. is_digit b ≡ true) w
  pub long : 1 ≤ length w

all-digits : (m k : ℕ) (ds : List ℕ) → digits_behind m ds ≡ Some k → AllByRecursion (λ b. is_digit b ≡ true) ds
all-digits m k [] e = tt
all-digits m k (b ∷ ds) e = go (is_digit b) refl (all-digits (10 * m + (b - 48)) k ds)
  where
    go : (t : Bool) → is_digit b ≡ t → (digits_behind (10 * m + (b - 48)) ds ≡ Some k → AllByRecursion (λ b. is_digit b ≡ true) ds) → AllByRecursion (λ b. is_digit b ≡ true) (b ∷ ds)
    go true p ih = (p, ih (ap (λ t. cond t (digits_behind (10 * m + (b - 48)) ds) None) (sym p) ∙ e))
    go false p ih = absurd (let f : None ≡ Some k = ap (λ t. cond t (digits_behind (10 * m + (b - 48)) ds) None) (sym p) ∙ e in cc)

decimal-long : (n : ℕ) → n < 2 ^ 64 → 1 ≤ length (decimal n)
decimal-long n h = decimal_by_steps (λ k ds. 1 ≤ length ds) (λ k l. omega arith) (λ k ds l i. let a = length-append ds ((48 + k % 10) ∷ []) in omega arith) n h

pub shown : (n : ℕ) → n < 2 ^ 64 → IsShown (decimal n) n
shown n h = go (decimal n) (decimal-digits n h) (decimal-long n h)
  where
    go : (ds : List ℕ) → digits_behind 0 ds ≡ Some n → 1 ≤ length ds → IsShown ds n
    go [] e l = absurd (omega arith)
    go (b ∷ ds) e l = record { value = e; all_digits = all-digits 0 n (b ∷ ds) e; long = l }

digit-inside : (b : ℕ) → is_digit b ≡ true → IsInside b
digit-inside b e = (no-lf b e, no-cr b e)
  where
    no-lf : (b : ℕ) → is_digit b ≡ true → (b == 10) ≡ false
    no-lf b e = grind (arith, nat_tests)

    no-cr : (b : ℕ) → is_digit b ≡ true → (b == 13) ≡ false
    no-cr b e = grind (arith, nat_tests)

digit-plain : (b : ℕ) → is_digit b ≡ true → IsPlain b
digit-plain b e = grind (arith, nat_tests)

pub shown-inside : (w : List ℕ) (n : ℕ) → IsShown w n → AllByRecursion IsInside w
shown-inside w n s = all-weaker (λ b. is_digit b ≡ true) IsInside w digit-inside s.all_digits

pub shown-plain : (w : List ℕ) (n : ℕ) → IsShown w n → AllByRecursion IsPlain w
shown-plain w n s = all-weaker (λ b. is_digit b ≡ true) IsPlain w digit-plain s.all_digits
