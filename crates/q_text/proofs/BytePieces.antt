-- Many bytes at once: digits behind digits, a word at the front of a piece, and the byte behind it.
use Rattle.std.proofs.Common.{◌≡◌, ◌<◌, ◌≤◌, ℕ, ◌+◌, ◌-◌, ◌*◌, suc, Bool, true, false, List, [], ◌∷◌, ◌++◌, length, take, drop, get_or, refl, sym, ap, ◌∙◌, arith, ◌==◌, if◌then◌else◌, Some, None, cond, add-one, eqb-true, subst}
use Rattle.std.proofs.lemmas.Bool.Decides.{nat_tests}
use Rattle.std.proofs.Math.Seq.{take-suc}
use Rattle.q_text.specs.declared.tokens.TokenKind.TheVariants.{Other}
use Rattle.q_text.specs.declared.shape.Shape.{Shape}
use Rattle.q_text.specs.declared.shape.Shape.TheVariants.{Start, Comment, Between, Minus, Digits, C, Cn, Q, Qr, Qra, Word}
use Rattle.q_text.specs.declared.tokens.Tokens.{Tokens}
use Rattle.q_text.specs.Words.{is_separator, is_digit, clipped}
use Rattle.q_text.specs.Tokens.{grown, handed, after, all_handed, listed}
use Rattle.q_text.specs.Pieces.{after_all, may_begin, behind_zero, zero_token, Goes, AreDigits}
use Rattle.q_text.proofs.TokenLaw.{at}

pub after_all-append : (t : Tokens) (xs ys : List ℕ) → after_all t (xs ++ ys) ≡ after_all (after_all t xs) ys
after_all-append t [] ys = refl
after_all-append t (x ∷ xs) ys = after_all-append (after t x) xs ys

pub handed-append : (t : Tokens) (xs ys : List ℕ) → all_handed t xs ≡ [] → all_handed t (xs ++ ys) ≡ all_handed (after_all t xs) ys
handed-append t [] ys h = refl
handed-append t (x ∷ xs) ys h = go (handed t x) h (handed-append (after t x) xs ys) where
  go : (o : _) → listed o ++ all_handed (after t x) xs ≡ [] → (all_handed (after t x) xs ≡ [] → all_handed (after t x) (xs ++ ys) ≡ all_handed (after_all (after t x) xs) ys)
      → listed o ++ all_handed (after t x) (xs ++ ys) ≡ all_handed (after_all (after t x) xs) ys
  go None e ih = ih e
  go (Some k) e ih = cc

take-next : (bs : List ℕ) (i : ℕ) → i < length bs → take (i + 1) bs ≡ take i bs ++ get_or bs i 0 ∷ []
take-next bs i h = rw add-one (take-suc bs i 0 h)

digit-plain : (b : ℕ) → is_digit b ≡ true → is_separator b ≡ false
digit-plain b d = grind (arith, nat_tests, d)

no-line_feed : (b : ℕ) → is_separator b ≡ false → (b == 10) ≡ false
no-line_feed b e = grind (arith, nat_tests, e)

-- a byte of a word
pub after-plain : (n b : ℕ) (s : Shape) → is_separator b ≡ false → after (at n s) b ≡ at n (grown s b)
after-plain n b s e = let f = no-line_feed b e in let g = rw f at e in simp (f, g) refl

pub handed-plain : (n b : ℕ) (s : Shape) → is_separator b ≡ false → handed (at n s) b ≡ None
handed-plain n b s e = rw e refl

pub after-digit : (n b m : ℕ) (s : Bool) → is_digit b ≡ true → after (at n (Digits s m)) b ≡ at n (Digits s (clipped (10 * m + (b - 48))))
after-digit n b m s d = after-plain n b (Digits s m) (digit-plain b d) ∙ ap (λ t. at n (cond t (Digits s (clipped (10 * m + (b - 48)))) (Word Other))) d

pub no-digits : (bs : List ℕ) (m : ℕ) → AreDigits bs m 0 m
no-digits bs m = record { within = omega arith; silent = λ n s. refl; state = λ n s. refl }

pub digits-more : (bs : List ℕ) (m i v : ℕ) → AreDigits bs m i v → i < length bs → is_digit (get_or bs i 0) ≡ true → AreDigits bs m (i + 1) (clipped (10 * v + (get_or bs i 0 - 48)))
digits-more bs m i v h l d = record {
  within = omega arith;
  silent = λ n s. rw (take-next bs i l) (handed-append (at n (Digits s m)) (take i bs) (get_or bs i 0 ∷ []) (h.silent n s) ∙ (ap (λ t. all_handed t (get_or bs i 0 ∷ [])) (h.state n s) ∙ ap (λ o. listed o ++ []) (handed-plain n (get_or bs i 0) (Digits s v) (digit-plain (get_or bs i 0) d))));
  state = λ n s. rw (take-next bs i l) (after_all-append (at n (Digits s m)) (take i bs) (get_or bs i 0 ∷ []) ∙ (ap (λ t. after t (get_or bs i 0)) (h.state n s) ∙ after-digit n (get_or bs i 0) v s d));
}

take-front : (bs : List ℕ) (k : ℕ) → 0 < length bs → take (k + 1) bs ≡ get_or bs 0 0 ∷ take k (drop 1 bs)
take-front [] k h = absurd (omega arith)
take-front (b ∷ bs) k h = rw add-one refl

take-front-two : (bs : List ℕ) (k : ℕ) → 1 < length bs → take (k + 2) bs ≡ get_or bs 0 0 ∷ get_or bs 1 0 ∷ take k (drop 2 bs)
take-front-two [] k h = absurd (omega arith)
take-front-two (b ∷ []) k h = absurd (omega arith)
take-front-two (b ∷ c ∷ bs) k h = let e : k + 2 ≡ suc (suc k) = omega arith in rw e refl

-- the first digit of a word
first-digit : (n b : ℕ) (s : Shape) → may_begin s ≡ true → is_digit b ≡ true → after (at n s) b ≡ at n (Digits false (b - 48))
first-digit n b s h d = after-plain n b s (digit-plain b d) ∙ ap (at n) (grows s h) where
  no_c : (b == 99) ≡ false
  no_c = grind (arith, nat_tests, d)

  grows : (s : Shape) → may_begin s ≡ true → grown s b ≡ Digits false (b - 48)
  grows Start h = rw (no_c, d) refl
  grows Between h = rw d refl
  grows Comment h = cc
  grows Minus h = cc
  grows (Digits x m) h = cc
  grows C h = cc
  grows Cn h = cc
  grows Q h = cc
  grows Qr h = cc
  grows Qra h = cc
  grows (Word k) h = cc

minus : (n : ℕ) (s : Shape) → may_begin s ≡ true → after (at n s) 45 ≡ at n Minus
minus n Start h = refl
minus n Between h = refl
minus n Comment h = cc
minus n Minus h = cc
minus n (Digits x m) h = cc
minus n C h = cc
minus n Cn h = cc
minus n Q h = cc
minus n Qr h = cc
minus n Qra h = cc
minus n (Word k) h = cc

behind-minus : (n b : ℕ) → is_digit b ≡ true → after (at n Minus) b ≡ at n (Digits true (b - 48))
behind-minus n b d = after-plain n b Minus (digit-plain b d) ∙ ap (λ t. at n (cond t (Digits true (b - 48)) (Word Other))) d

pub plain-silent : (bs : List ℕ) (k v : ℕ) (t : Tokens) → 0 < length bs → is_digit (get_or bs 0 0) ≡ true → AreDigits (drop 1 bs) (get_or bs 0 0 - 48) k v → may_begin t.shape ≡ true → all_handed t (take (k + 1) bs) ≡ []
plain-silent bs k v t l d h m =
    rw (take-front bs k l) (ap (λ o. listed o ++ all_handed (after t (get_or bs 0 0)) (take k (drop 1 bs))) (handed-plain t.line (get_or bs 0 0) t.shape (digit-plain (get_or bs 0 0) d))
    ∙ (ap (λ u. all_handed u (take k (drop 1 bs))) (first-digit t.line (get_or bs 0 0) t.shape m d) ∙ h.silent t.line false))

pub plain-state : (bs : List ℕ) (k v : ℕ) (t : Tokens) → 0 < length bs → is_digit (get_or bs 0 0) ≡ true → AreDigits (drop 1 bs) (get_or bs 0 0 - 48) k v → may_begin t.shape ≡ true → after_all t (take (k + 1) bs) ≡ at t.line (Digits false v)
plain-state bs k v t l d h m =
    rw (take-front bs k l) (ap (λ u. after_all u (take k (drop 1 bs))) (first-digit t.line (get_or bs 0 0) t.shape m d) ∙ h.state t.line false)

pub negative-silent : (bs : List ℕ) (k v : ℕ) (t : Tokens) → 1 < length bs → get_or bs 0 0 ≡ 45 → is_digit (get_or bs 1 0) ≡ true → AreDigits (drop 2 bs) (get_or bs 1 0 - 48) k v → may_begin t.shape ≡ true → all_handed t (take (k + 2) bs) ≡ []
negative-silent bs k v t l e d h m =
    rw (take-front-two bs k l, e)
    (ap (λ u. listed (handed u (get_or bs 1 0)) ++ all_handed (after u (get_or bs 1 0)) (take k (drop 2 bs))) (minus t.line t.shape m)
    ∙ (ap (λ o. listed o ++ all_handed (after (at t.line Minus) (get_or bs 1 0)) (take k (drop 2 bs))) (handed-plain t.line (get_or bs 1 0) Minus (digit-plain (get_or bs 1 0) d))
    ∙ (ap (λ u. all_handed u (take k (drop 2 bs))) (behind-minus t.line (get_or bs 1 0) d) ∙ h.silent t.line true)))

pub negative-state : (bs : List ℕ) (k v : ℕ) (t : Tokens) → 1 < length bs → get_or bs 0 0 ≡ 45 → is_digit (get_or bs 1 0) ≡ true → AreDigits (drop 2 bs) (get_or bs 1 0 - 48) k v → may_begin t.shape ≡ true → after_all t (take (k + 2) bs) ≡ at t.line (Digits true v)
negative-state bs k v t l e d h m =
    rw (take-front-two bs k l, e)
    (ap (λ u. after_all (after u (get_or bs 1 0)) (take k (drop 2 bs))) (minus t.line t.shape m)
    ∙ (ap (λ u. after_all u (take k (drop 2 bs))) (behind-minus t.line (get_or bs 1 0) d) ∙ h.state t.line true))

-- the length of the sign
abbrev pub sign_of : Bool → ℕ
sign_of n = if n then 1 else 0

signed-silent : (bs : List ℕ) (k v : ℕ) (n : Bool) (t : Tokens) → 3 ≤ length bs → (get_or bs 0 0 == 45) ≡ n → is_digit (get_or bs (sign_of n) 0) ≡ true
    → AreDigits (drop (sign_of n + 1) bs) (get_or bs (sign_of n) 0 - 48) k v → may_begin t.shape ≡ true → all_handed t (take (sign_of n + 1 + k) bs) ≡ []
signed-silent bs k v false t l s d h m = let e : k + 1 ≡ 0 + 1 + k = omega arith in subst (λ (j : ℕ). all_handed t (take j bs) ≡ []) e (plain-silent bs k v t (omega arith) d h m)
signed-silent bs k v true t l s d h m = let e : k + 2 ≡ 1 + 1 + k = omega arith in subst (λ (j : ℕ). all_handed t (take j bs) ≡ []) e (negative-silent bs k v t (omega arith) (eqb-true (get_or bs 0 0) 45 s) d h m)

signed-state : (bs : List ℕ) (k v : ℕ) (n : Bool) (t : Tokens) → 3 ≤ length bs → (get_or bs 0 0 == 45) ≡ n → is_digit (get_or bs (sign_of n) 0) ≡ true
    → AreDigits (drop (sign_of n + 1) bs) (get_or bs (sign_of n) 0 - 48) k v → may_begin t.shape ≡ true → after_all t (take (sign_of n + 1 + k) bs) ≡ at t.line (Digits n v)
signed-state bs k v false t l s d h m = let e : k + 1 ≡ 0 + 1 + k = omega arith in subst (λ (j : ℕ). after_all t (take j bs) ≡ at t.line (Digits false v)) e (plain-state bs k v t (omega arith) d h m)
signed-state bs k v true t l s d h m = let e : k + 2 ≡ 1 + 1 + k = omega arith in subst (λ (j : ℕ). after_all t (take j bs) ≡ at t.line (Digits true v)) e (negative-state bs k v t (omega arith) (eqb-true (get_or bs 0 0) 45 s) d h m)

-- the word with its sign, if it has one
pub word-silent : (bs : List ℕ) (k v a : ℕ) (n : Bool) (t : Tokens) → 3 ≤ length bs → (get_or bs 0 0 == 45) ≡ n → a ≡ sign_of n → is_digit (get_or bs a 0) ≡ true
    → AreDigits (drop (a + 1) bs) (get_or bs a 0 - 48) k v → may_begin t.shape ≡ true → all_handed t (take (a + 1 + k) bs) ≡ []
word-silent bs k v a n t l s e d h m = let f = rw e at d in let g = rw e at h in rw e (signed-silent bs k v n t l s f g m)

pub word-state : (bs : List ℕ) (k v a : ℕ) (n : Bool) (t : Tokens) → 3 ≤ length bs → (get_or bs 0 0 == 45) ≡ n → a ≡ sign_of n → is_digit (get_or bs a 0) ≡ true
    → AreDigits (drop (a + 1) bs) (get_or bs a 0 - 48) k v → may_begin t.shape ≡ true → after_all t (take (a + 1 + k) bs) ≡ at t.line (Digits n v)
word-state bs k v a n t l s e d h m = let f = rw e at d in let g = rw e at h in rw e (signed-state bs k v n t l s f g m)

-- a 0 and a LF
pub zero_goes : (bs : List ℕ) (t : Tokens) → may_begin t.shape ≡ true → 2 ≤ length bs → get_or bs 0 0 ≡ 48 → get_or bs 1 0 ≡ 10 → Goes t (behind_zero t) bs 2 (Some (zero_token t.line))
zero_goes [] t m l e f = absurd (omega arith)
zero_goes (b ∷ []) t m l e f = absurd (omega arith)
zero_goes (b ∷ c ∷ bs) t m l e f =
    let d : after t 48 ≡ at t.line (Digits false 0) = first-digit t.line 48 t.shape m refl in
    record {
      front = 1;
      counted = refl;
      within = omega arith;
      silent = rw e refl;
      handed_out = rw (e, f) (ap (λ (u : Tokens). handed u 10) (sym d));
      state = rw (e, f) refl;
    }
