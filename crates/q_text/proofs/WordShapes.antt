-- The shape of a whole word tells its kind.
use Rattle.std.proofs.Common.{◌≡◌, ℕ, ◌+◌, ◌-◌, ◌*◌, Bool, true, false, cond, List, [], ◌∷◌, ◌++◌, Some, None, refl, ap, sym, ◌∙◌, arith, ◌==◌, ◌&&◌, if◌then◌else◌, pos, eqb-true, subst}
use Rattle.std.proofs.lemmas.Bool.Decides.{nat_tests}
use Rattle.q_text.specs.declared.tokens.TokenKind.{TokenKind}
use Rattle.q_text.specs.declared.tokens.TokenKind.TheVariants.{Number, P, Cnf, Qrat, E, A, D, U, R, Other}
use Rattle.q_text.specs.declared.shape.Shape.{Shape}
use Rattle.q_text.specs.declared.shape.Shape.TheVariants.{Between, Digits, Cn, Qr, Qra, Word}
use Rattle.q_text.specs.Words.{is_digit, clipped, digits_behind, plain, negative, letter, is_cnf, is_done, is_qrat, kind_of}
use Rattle.q_text.specs.Tokens.{first_shape, grown, kind_in}

abbrev pub shape_after : Shape → List ℕ → Shape
shape_after s [] = s
shape_after s (b ∷ bs) = shape_after (grown s b) bs

abbrev pub shape_of : List ℕ → Shape
shape_of w = shape_after Between w

pub shape_after-snoc : (s : Shape) (w : List ℕ) (b : ℕ) → shape_after s (w ++ b ∷ []) ≡ grown (shape_after s w) b
shape_after-snoc s [] b = refl
shape_after-snoc s (c ∷ w) b = shape_after-snoc (grown s c) w b

word_stays : (bs : List ℕ) → kind_in (shape_after (Word Other) bs) ≡ Some Other
word_stays [] = refl
word_stays (b ∷ bs) = word_stays bs

clip_step : (n m d : ℕ) → m ≡ clipped n → clipped (10 * m + d) ≡ clipped (10 * n + d)
clip_step n m d e = omega arith

clip_again : (n m : ℕ) → m ≡ clipped n → clipped m ≡ clipped n
clip_again n m e = omega arith

plain_digits : (n m : ℕ) (bs : List ℕ) → m ≡ clipped n → kind_in (shape_after (Digits false m) bs) ≡ Some (plain (digits_behind n bs))
plain_digits n m [] e = ap (λ k. Some (Number (pos k))) (clip_again n m e)
plain_digits n m (b ∷ bs) e = go (is_digit b) refl (plain_digits (10 * n + (b - 48)) (clipped (10 * m + (b - 48))) bs (clip_step n m (b - 48) e)) where
  go : (t : Bool) → is_digit b ≡ t → kind_in (shape_after (Digits false (clipped (10 * m + (b - 48)))) bs) ≡ Some (plain (digits_behind (10 * n + (b - 48)) bs))
      → kind_in (shape_after (cond t (Digits false (clipped (10 * m + (b - 48)))) (Word Other)) bs) ≡ Some (plain (cond t (digits_behind (10 * n + (b - 48)) bs) None))
  go true h ih = ih
  go false h ih = word_stays bs

negative_end : (n m : ℕ) → m ≡ clipped n → kind_in (Digits true m) ≡ Some (negative (Some n))
negative_end n m e = grind (arith, nat_tests, e)

negative_digits : (n m : ℕ) (bs : List ℕ) → m ≡ clipped n → kind_in (shape_after (Digits true m) bs) ≡ Some (negative (digits_behind n bs))
negative_digits n m [] e = negative_end n m e
negative_digits n m (b ∷ bs) e = go (is_digit b) refl (negative_digits (10 * n + (b - 48)) (clipped (10 * m + (b - 48))) bs (clip_step n m (b - 48) e)) where
  go : (t : Bool) → is_digit b ≡ t → kind_in (shape_after (Digits true (clipped (10 * m + (b - 48)))) bs) ≡ Some (negative (digits_behind (10 * n + (b - 48)) bs))
      → kind_in (shape_after (cond t (Digits true (clipped (10 * m + (b - 48)))) (Word Other)) bs) ≡ Some (negative (cond t (digits_behind (10 * n + (b - 48)) bs) None))
  go true h ih = ih
  go false h ih = word_stays bs

one_byte : (b : ℕ) → kind_in (first_shape b) ≡ Some (letter b)
one_byte b = grind (arith, nat_tests)

letter_stays : (k : TokenKind) (c : ℕ) (bs : List ℕ) → kind_in (shape_after (Word k) (c ∷ bs)) ≡ Some Other
letter_stays k c bs = word_stays bs

-- behind a byte that is no digit, no minus, no c and no q there is no number
no_number : (b c : ℕ) (bs : List ℕ) → is_digit b ≡ false → (b == 45) ≡ false → (b == 99) ≡ false → (b == 113) ≡ false → kind_of (b ∷ c ∷ bs) ≡ Other
no_number b c [] d m e q = simp (d, m)
no_number b c (x ∷ []) d m e q = simp (d, m, e)
no_number b c (x ∷ y ∷ bs) d m e q = simp (d, m, q)

record IsOther (s : Shape) (c : ℕ) (bs : List ℕ) : Type 0 where
  is : kind_in (shape_after s (c ∷ bs)) ≡ Some Other

other_if : {s : Shape} {c : ℕ} {bs : List ℕ} (t : Bool) (k : TokenKind) → IsOther s c bs → IsOther (cond t (Word k) s) c bs
other_if {c = c} {bs = bs} true k h = record { is = letter_stays k c bs }
other_if false k h = h

other_letters : (b c : ℕ) (bs : List ℕ) → IsOther (if b == 112 then Word P else (if b == 101 then Word E else (if b == 97 then Word A else (if b == 100 then Word D else (if b == 117 then Word U else (if b == 114 then Word R else Word Other)))))) c bs
other_letters b c bs =
    other_if (b == 112) P (other_if (b == 101) E (other_if (b == 97) A (other_if (b == 100) D (other_if (b == 117) U (other_if (b == 114) R (record { is = letter_stays Other c bs }))))))

no_digit_shape : (b c : ℕ) (bs : List ℕ) → is_digit b ≡ false → (b == 45) ≡ false → (b == 99) ≡ false → (b == 113) ≡ false → kind_in (shape_after (first_shape b) (c ∷ bs)) ≡ Some Other
no_digit_shape b c bs d m e q = simp (d, m, e, q) ((other_letters b c bs).is)

-- a digit is no c
pub digit_no_c : (b : ℕ) → is_digit b ≡ true → (b == 99) ≡ false
digit_no_c b d = grind (arith, nat_tests)

pub digit_no_minus : (b : ℕ) → is_digit b ≡ true → (b == 45) ≡ false
digit_no_minus b d = grind (arith, nat_tests)

pub no_c_no_cnf : (b c : ℕ) (bs : List ℕ) → (b == 99) ≡ false → is_cnf (b ∷ c ∷ bs) ≡ false
no_c_no_cnf b c [] e = refl
no_c_no_cnf b c (x ∷ []) e = rw e refl
no_c_no_cnf b c (x ∷ y ∷ bs) e = refl

pub digit_no_q : (b : ℕ) → is_digit b ≡ true → (b == 113) ≡ false
digit_no_q b d = grind (arith, nat_tests)

pub no_q_no_qrat : (b c : ℕ) (bs : List ℕ) → (b == 113) ≡ false → is_qrat (b ∷ c ∷ bs) ≡ false
no_q_no_qrat b c [] e = refl
no_q_no_qrat b c (x ∷ []) e = refl
no_q_no_qrat b c (x ∷ y ∷ bs) e = rw e refl

digit_small : (b : ℕ) → is_digit b ≡ true → b - 48 ≡ clipped (10 * 0 + (b - 48))
digit_small b d = grind (arith, nat_tests)

digit_first : (b c : ℕ) (bs : List ℕ) → is_digit b ≡ true → kind_in (shape_after (first_shape b) (c ∷ bs)) ≡ Some (kind_of (b ∷ c ∷ bs))
digit_first b c bs d =
    let n = no_c_no_cnf b c bs (digit_no_c b d) in
    let m = digit_no_minus b d in
    let q = no_q_no_qrat b c bs (digit_no_q b d) in
    simp (d, n, q, m) (plain_digits (0 + (b - 48)) (b - 48) (c ∷ bs) (digit_small b d))

minus_first : (c : ℕ) (bs : List ℕ) → kind_in (shape_after (first_shape 45) (c ∷ bs)) ≡ Some (kind_of (45 ∷ c ∷ bs))
minus_first c bs = rw (no_c_no_cnf 45 c bs refl) (go (is_digit c) refl) where
  go : (t : Bool) → is_digit c ≡ t → kind_in (shape_after (cond t (Digits true (c - 48)) (Word Other)) bs) ≡ Some (negative (cond t (digits_behind (0 + (c - 48)) bs) None))
  go true d = negative_digits (0 + (c - 48)) (c - 48) bs (digit_small c d)
  go false d = word_stays bs

c_first : (c : ℕ) (bs : List ℕ) → kind_in (shape_after (first_shape 99) (c ∷ bs)) ≡ Some (kind_of (99 ∷ c ∷ bs))
c_first c [] = go (c == 110) where
  go : (t : Bool) → kind_in (cond t Cn (Word Other)) ≡ Some Other
  go true = refl
  go false = refl
c_first c (x ∷ []) = go (c == 110) where
  last : (u : Bool) → kind_in (cond u (Word Cnf) (Word Other)) ≡ Some (cond u Cnf Other)
  last true = refl
  last false = refl

  go : (t : Bool) → kind_in (grown (cond t Cn (Word Other)) x) ≡ Some (cond (t && (x == 102)) Cnf Other)
  go true = last (x == 102)
  go false = refl
c_first c (x ∷ y ∷ bs) = go (c == 110) where
  last : (u : Bool) → kind_in (shape_after (grown (cond u (Word Cnf) (Word Other)) y) bs) ≡ Some Other
  last true = word_stays bs
  last false = word_stays bs

  go : (t : Bool) → kind_in (shape_after (grown (grown (cond t Cn (Word Other)) x) y) bs) ≡ Some Other
  go true = last (x == 102)
  go false = word_stays bs

q_first : (c : ℕ) (bs : List ℕ) → kind_in (shape_after (first_shape 113) (c ∷ bs)) ≡ Some (kind_of (113 ∷ c ∷ bs))
q_first c [] = go (c == 114) where
  go : (t : Bool) → kind_in (cond t Qr (Word Other)) ≡ Some Other
  go true = refl
  go false = refl
q_first c (x ∷ []) = go (c == 114) where
  last : (u : Bool) → kind_in (cond u Qra (Word Other)) ≡ Some Other
  last true = refl
  last false = refl

  go : (t : Bool) → kind_in (grown (cond t Qr (Word Other)) x) ≡ Some Other
  go true = last (x == 97)
  go false = refl
q_first c (x ∷ y ∷ bs) = go (c == 114) where
  whole : (bs : List ℕ) (v : Bool) → kind_in (shape_after (cond v (Word Qrat) (Word Other)) bs) ≡ Some (cond (v && is_done bs) Qrat Other)
  whole [] true = refl
  whole [] false = refl
  whole (z ∷ zs) true = word_stays zs
  whole (z ∷ zs) false = word_stays zs

  last : (u : Bool) → kind_in (shape_after (grown (cond u Qra (Word Other)) y) bs) ≡ Some (cond (u && (y == 116) && is_done bs) Qrat Other)
  last true = whole bs (y == 116)
  last false = word_stays bs

  go : (t : Bool) → kind_in (shape_after (grown (grown (cond t Qr (Word Other)) x) y) bs) ≡ Some (cond (t && (x == 97) && (y == 116) && is_done bs) Qrat Other)
  go true = last (x == 97)
  go false = word_stays bs

-- what follows a first byte
many : (b c : ℕ) (bs : List ℕ) → kind_in (shape_after (first_shape b) (c ∷ bs)) ≡ Some (kind_of (b ∷ c ∷ bs))
many b c bs = go (is_digit b) (b == 45) (b == 99) (b == 113) refl refl refl refl where
  go : (d m e q : Bool) → is_digit b ≡ d → (b == 45) ≡ m → (b == 99) ≡ e → (b == 113) ≡ q → kind_in (shape_after (first_shape b) (c ∷ bs)) ≡ Some (kind_of (b ∷ c ∷ bs))
  go true m e q h i j k = digit_first b c bs h
  go false true e q h i j k = subst (λ x. kind_in (shape_after (first_shape x) (c ∷ bs)) ≡ Some (kind_of (x ∷ c ∷ bs))) (sym (eqb-true b 45 i)) (minus_first c bs)
  go false false true q h i j k = subst (λ x. kind_in (shape_after (first_shape x) (c ∷ bs)) ≡ Some (kind_of (x ∷ c ∷ bs))) (sym (eqb-true b 99 j)) (c_first c bs)
  go false false false true h i j k = subst (λ x. kind_in (shape_after (first_shape x) (c ∷ bs)) ≡ Some (kind_of (x ∷ c ∷ bs))) (sym (eqb-true b 113 k)) (q_first c bs)
  go false false false false h i j k = no_digit_shape b c bs h i j k ∙ ap Some (sym (no_number b c bs h i j k))

pub shape_of-kind : (b : ℕ) (bs : List ℕ) → kind_in (shape_of (b ∷ bs)) ≡ Some (kind_of (b ∷ bs))
shape_of-kind b [] = one_byte b
shape_of-kind b (c ∷ bs) = many b c bs
