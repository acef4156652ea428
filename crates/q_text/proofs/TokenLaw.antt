-- What comes from the start on are the tokens of the whole text.
use Rattle.std.proofs.Common.{◌≡◌, ℕ, ◌+◌, ◌-◌, ◌*◌, Bool, true, false, cond, List, [], ◌∷◌, ◌++◌, map, Option, Some, None, refl, ap, sym, ◌∙◌, subst, ◌==◌, ◌||◌, if◌then◌else◌, append_assoc, append-nil, eqb-true}
use Rattle.q_text.specs.declared.shape.Shape.{Shape}
use Rattle.q_text.specs.declared.shape.Shape.TheVariants.{Start, Comment, Between, Minus, Digits, C, Cn, Q, Qr, Qra, Word}
use Rattle.q_text.specs.declared.tokens.Token.{Token}
use Rattle.q_text.specs.declared.tokens.TokenKind.TheVariants.{Other, Cnf, Qrat}
use Rattle.q_text.specs.declared.tokens.Tokens.{Tokens}
use Rattle.q_text.specs.Words.{is_separator, is_digit, clipped}
use Rattle.q_text.specs.Texts.{lines, onto_first, word_before, words_after, token_at, line_tokens, lines_tokens, tokens_of, has_separator, up_to_separator, tokens_ended}
use Rattle.q_text.specs.Tokens.{first_shape, grown, kind_in, after_blank, token_in, listed, handed, after, to_come, all_handed}
use Rattle.q_text.proofs.WordShapes.{shape_of, shape_after, shape_after-snoc, shape_of-kind}

abbrev first : List (List ℕ) → List ℕ
first [] = []
first (l ∷ ls) = l

abbrev later : List (List ℕ) → List (List ℕ)
later [] = []
later (l ∷ ls) = ls

first-onto : (b : ℕ) (ls : List (List ℕ)) → first (onto_first b ls) ≡ b ∷ first ls
first-onto b [] = refl
first-onto b (l ∷ ls) = refl

later-onto : (b : ℕ) (ls : List (List ℕ)) → later (onto_first b ls) ≡ later ls
later-onto b [] = refl
later-onto b (l ∷ ls) = refl

lines-split : (n : ℕ) (ls : List (List ℕ)) → lines_tokens n ls ≡ line_tokens n (first ls) ++ lines_tokens (n + 1) (later ls)
lines-split n [] = refl
lines-split n (l ∷ ls) = refl

abbrev pub at : ℕ → Shape → Tokens
at n s = record { line = n; shape = s }

-- the word that ends is the only token there
ended : (n : ℕ) (w : List ℕ) → listed (token_in (kind_in (shape_of w)) n) ≡ map (token_at n) (word_before w [])
ended n [] = refl
ended n (b ∷ bs) = ap (λ k. listed (token_in k n)) (shape_of-kind b bs)

-- what is listed in front of tokens, where none come
pub none-listed : (o : Option Token) (ts : List Token) → listed o ++ ts ≡ [] → o ≡ None
none-listed None ts e = refl
none-listed (Some t) ts e = cc

pub rest-listed : (o : Option Token) (ts : List Token) → listed o ++ ts ≡ [] → ts ≡ []
rest-listed None ts e = e
rest-listed (Some t) ts e = cc

ended-before : (n : ℕ) (w : List ℕ) (ws : List (List ℕ)) → map (token_at n) (word_before w ws) ≡ map (token_at n) (word_before w []) ++ map (token_at n) ws
ended-before n [] ws = refl
ended-before n (b ∷ bs) ws = refl

record Comes (bs : List ℕ) : Type 0 where
  word : (n : ℕ) (w : List ℕ) → to_come (at n (shape_of w)) bs ≡ map (token_at n) (words_after w (first (lines bs))) ++ lines_tokens (n + 1) (later (lines bs))
  comment : (n : ℕ) → to_come (at n Comment) bs ≡ lines_tokens (n + 1) (later (lines bs))
  start : (n : ℕ) → to_come (at n Start) bs ≡ lines_tokens n (lines bs)

record_word : (n : ℕ) (w : List ℕ) → listed (token_in (kind_in (shape_of w)) n) ≡ map (token_at n) (word_before w []) ++ []
record_word n w = rw append-nil (ended n w)

nothing : Comes []
nothing = record {
  word = λ n w. record_word n w;
  comment = λ n. refl;
  start = λ n. refl;
}

line_feed : (bs : List ℕ) → Comes bs → Comes (10 ∷ bs)
line_feed bs h = record {
  word = λ n w. rw (ended n w, h.start (n + 1)) refl;
  comment = λ n. h.start (n + 1);
  start = λ n. h.start (n + 1);
}

split : (t : Bool) (x y : Shape) → after_blank x ≡ Between → after_blank y ≡ Between → after_blank (cond t x y) ≡ Between
split true x y h k = h
split false x y h k = k

record StaysIn (s : Shape) : Type 0 where
  is : after_blank s ≡ Between

stays_if : {x y : Shape} (t : Bool) → StaysIn x → StaysIn y → StaysIn (cond t x y)
stays_if true h k = h
stays_if false h k = k

first-stays : (b : ℕ) → StaysIn (first_shape b)
first-stays b =
    stays_if (is_digit b) (record { is = refl }) (stays_if (b == 45) (record { is = refl }) (stays_if (b == 112) (record { is = refl }) (stays_if (b == 101) (record { is = refl })
    (stays_if (b == 97) (record { is = refl }) (stays_if (b == 100) (record { is = refl }) (stays_if (b == 117) (record { is = refl }) (stays_if (b == 114) (record { is = refl })
    (stays_if (b == 99) (record { is = refl }) (stays_if (b == 113) (record { is = refl }) (record { is = refl }))))))))))

first-in_line : (b : ℕ) → after_blank (first_shape b) ≡ Between
first-in_line b = (first-stays b).is

grown-in_line : (s : Shape) (b : ℕ) → after_blank s ≡ Between → after_blank (grown s b) ≡ Between
grown-in_line Start b h = cc
grown-in_line Comment b h = cc
grown-in_line Between b h = first-in_line b
grown-in_line Minus b h = split (is_digit b) (Digits true (b - 48)) (Word Other) refl refl
grown-in_line (Digits s m) b h = split (is_digit b) (Digits s (clipped (10 * m + (b - 48)))) (Word Other) refl refl
grown-in_line C b h = split (b == 110) Cn (Word Other) refl refl
grown-in_line Cn b h = split (b == 102) (Word Cnf) (Word Other) refl refl
grown-in_line Q b h = split (b == 114) Qr (Word Other) refl refl
grown-in_line Qr b h = split (b == 97) Qra (Word Other) refl refl
grown-in_line Qra b h = split (b == 116) (Word Qrat) (Word Other) refl refl
grown-in_line (Word k) b h = refl

pub shape-in_line : (s : Shape) (w : List ℕ) → after_blank s ≡ Between → after_blank (shape_after s w) ≡ Between
shape-in_line s [] h = h
shape-in_line s (b ∷ w) h = shape-in_line (grown s b) w (grown-in_line s b h)

blank_word : (n : ℕ) (w l : List ℕ) (rest : List Token) →
    listed (token_in (kind_in (shape_of w)) n) ++ (map (token_at n) (words_after [] l) ++ rest) ≡ map (token_at n) (word_before w (words_after [] l)) ++ rest
blank_word n w l rest = rw (ended n w, ended-before n w (words_after [] l), append_assoc) refl

blank : (b : ℕ) (bs : List ℕ) → (b == 10) ≡ false → is_separator b ≡ true → Comes bs → Comes (b ∷ bs)
blank b bs e s h =
    let f = rw e at s in
    record {
      word = λ n w. simp (e, f, first-onto, later-onto, shape-in_line Between w refl, h.word n []) (blank_word n w (first (lines bs)) (lines_tokens (n + 1) (later (lines bs))));
      comment = λ n. simp (e, f, later-onto, h.comment n) refl;
      start = λ n. simp (e, f, lines-split n (onto_first b (lines bs)), first-onto, later-onto) (h.start n ∙ lines-split n (lines bs));
    }

other_start : (b : ℕ) (bs : List ℕ) → Comes bs → (n : ℕ) →
    to_come (at n (if b == 99 then Comment else first_shape b)) bs ≡ (if b == 99 then [] else map (token_at n) (words_after (b ∷ []) (first (lines bs)))) ++ lines_tokens (n + 1) (later (lines bs))
other_start b bs h n = go (b == 99) where
  go : (t : Bool) → to_come (at n (if t then Comment else first_shape b)) bs ≡ (if t then [] else map (token_at n) (words_after (b ∷ []) (first (lines bs)))) ++ lines_tokens (n + 1) (later (lines bs))
  go true = h.comment n
  go false = h.word n (b ∷ [])

other : (b : ℕ) (bs : List ℕ) → (b == 10) ≡ false → is_separator b ≡ false → Comes bs → Comes (b ∷ bs)
other b bs e s h =
    let f = rw e at s in
    record {
      word = λ n w. simp (e, f, first-onto, later-onto, sym (shape_after-snoc Between w b)) (h.word n (w ++ b ∷ []));
      comment = λ n. simp (e, f, later-onto) (h.comment n);
      start = λ n. simp (e, f, lines-split n (onto_first b (lines bs)), first-onto, later-onto) (other_start b bs h n);
    }

comes_next : (b : ℕ) (bs : List ℕ) (t s : Bool) → (b == 10) ≡ t → is_separator b ≡ s → Comes bs → Comes (b ∷ bs)
comes_next b bs true s e f h = subst (λ c. Comes (c ∷ bs)) (sym (eqb-true b 10 e)) (line_feed bs h)
comes_next b bs false true e f h = blank b bs e f h
comes_next b bs false false e f h = other b bs e f h

comes : (bs : List ℕ) → Comes bs
comes [] = nothing
comes (b ∷ bs) = comes_next b bs (b == 10) (is_separator b) refl refl (comes bs)

pub from_start : (bs : List ℕ) → to_come (at 1 Start) bs ≡ tokens_of bs
from_start bs = (comes bs).start 1

none-handed : (t : Tokens) (bs : List ℕ) → has_separator bs ≡ false → all_handed t bs ≡ []
none-handed t [] h = refl
none-handed t (b ∷ bs) h = go (is_separator b) refl h (none-handed (after t b) bs) where
  go : (s : Bool) → is_separator b ≡ s → (s || has_separator bs) ≡ false → (has_separator bs ≡ false → all_handed (after t b) bs ≡ []) → listed (handed t b) ++ all_handed (after t b) bs ≡ []
  go true e f ih = cc
  go false e f ih = ap (λ ts. listed (handed t b) ++ ts) (ih f) ∙ rw e refl

cut-none : (bs : List ℕ) → has_separator bs ≡ false → up_to_separator bs ≡ []
cut-none [] h = refl
cut-none (b ∷ bs) h = rw h refl

none_in-blank : (s : Shape) → kind_in (after_blank s) ≡ None
none_in-blank Start = refl
none_in-blank Comment = refl
none_in-blank Between = refl
none_in-blank Minus = refl
none_in-blank (Digits s m) = refl
none_in-blank C = refl
none_in-blank Cn = refl
none_in-blank Q = refl
none_in-blank Qr = refl
none_in-blank Qra = refl
none_in-blank (Word k) = refl

nothing-behind : (t : Tokens) (b : ℕ) → is_separator b ≡ true → to_come (after t b) [] ≡ []
nothing-behind t b e = go (b == 10) where
  go : (s : Bool) → to_come (if s then record { line = t.line + 1; shape = Start } else (if is_separator b then record { line = t.line; shape = after_blank t.shape } else record { line = t.line; shape = grown t.shape b })) [] ≡ []
  go true = refl
  go false = rw (e, none_in-blank t.shape) refl

some-handed : (t : Tokens) (bs : List ℕ) → has_separator bs ≡ true → all_handed t bs ≡ to_come t (up_to_separator bs)
some-handed t [] h = cc
some-handed t (b ∷ bs) h = rw h (go (has_separator bs) (is_separator b) refl refl h (some-handed (after t b) bs)) where
  go : (u s : Bool) → has_separator bs ≡ u → is_separator b ≡ s → (s || u) ≡ true → (has_separator bs ≡ true → all_handed (after t b) bs ≡ to_come (after t b) (up_to_separator bs))
      → listed (handed t b) ++ all_handed (after t b) bs ≡ listed (handed t b) ++ to_come (after t b) (up_to_separator bs)
  go true s e f g ih = ap (λ ts. listed (handed t b) ++ ts) (ih e)
  go false true e f g ih = ap (λ ts. listed (handed t b) ++ ts) (none-handed (after t b) bs e ∙ sym (ap (to_come (after t b)) (cut-none bs e) ∙ nothing-behind t b f))
  go false false e f g ih = cc

pub handed-ended : (bs : List ℕ) → all_handed (at 1 Start) bs ≡ tokens_ended bs
handed-ended bs = go (has_separator bs) refl where
  go : (u : Bool) → has_separator bs ≡ u → all_handed (at 1 Start) bs ≡ tokens_ended bs
  go true e = some-handed (at 1 Start) bs e ∙ from_start (up_to_separator bs)
  go false e = none-handed (at 1 Start) bs e ∙ rw (cut-none bs e) refl
