-- What comes from the start on are the words of the whole text.
use Rattle.std.proofs.Common.{◌≡◌, ℕ, ◌+◌, ◌*◌, Bool, true, false, List, [], ◌∷◌, ◌++◌, map, Option, Some, None, refl, ap, sym, ◌∙◌, subst, ◌==◌, ◌||◌, if◌then◌else◌, append_assoc, append-nil, eqb-true, arith, min}
use Rattle.q_text.specs.declared.shape.Shape.{Shape}
use Rattle.q_text.specs.declared.shape.Shape.TheVariants.{Start, Comment, Between, Minus, Digits, C, Cn, Q, Qr, Qra, Word}
use Rattle.q_text.specs.declared.tokens.Token.{Token}
use Rattle.q_text.specs.Words.{is_separator}
use Rattle.q_text.specs.Texts.{lines, onto_first, word_before, words_after, token_at, has_separator, up_to_separator}
use Rattle.q_text.specs.declared.tokens.Tokens.{Tokens}
use Rattle.q_text.specs.Tokens.{first_shape, grown, kind_in, after_blank, token_in, after as tokens_after, listed as token_listed, handed_at_end as handed_at_end_of_tokens}
use Rattle.q_text.proofs.WordShapes.{shape_of, shape_after-snoc, shape_of-kind}
use Rattle.q_text.proofs.TokenLaw.{shape-in_line}
use Rattle.q_qrp.specs.declared.words.Spoken.{Spoken}
use Rattle.q_qrp.specs.declared.words.Words.{Words}
use Rattle.q_qrp.specs.Words.{packed, clipped_name, name_of, spoken_at, line_words, lines_words, words_of, words_ended, named, handed, handed_at_end, name_after, after, begun}

abbrev pub listed : Option Spoken → List Spoken
listed None = []
listed (Some w) = w ∷ []

-- the words that come where these bytes follow
abbrev pub to_come : Words → List ℕ → List Spoken
to_come w [] = listed (handed_at_end w)
to_come w (b ∷ bs) = listed (handed w b) ++ to_come (after w b) bs

-- the words that these bytes hand out
abbrev pub all_handed : Words → List ℕ → List Spoken
all_handed w [] = []
all_handed w (b ∷ bs) = listed (handed w b) ++ all_handed (after w b) bs

abbrev first : List (List ℕ) → List ℕ
first [] = []
first (l ∷ ls) = l

abbrev later : List (List ℕ) → List (List ℕ)
later [] = []
later (l ∷ ls) = ls

first-onto : (b : ℕ) (ls : List (List ℕ)) → first (onto_first b ls) ≡ b ∷ first ls
first-onto b [] = refl
first-onto b (l ∷ ls) = refl

later-onto : (b : ℕ) (ls : List (List ℕ)) → later (onto_first b ls) ≡ later ls
later-onto b [] = refl
later-onto b (l ∷ ls) = refl

lines-split : (n : ℕ) (ls : List (List ℕ)) → lines_words n ls ≡ line_words n (first ls) ++ lines_words (n + 1) (later ls)
lines-split n [] = refl
lines-split n (l ∷ ls) = refl

abbrev pub at : ℕ → Shape → ℕ → Words
at n s k = record { tokens = record { line = n; shape = s }; name = k }

clip-again : (x : ℕ) → clipped_name (clipped_name x) ≡ clipped_name x
clip-again x = omega arith

clip-step : (x b : ℕ) → clipped_name (256 * clipped_name x + b) ≡ clipped_name (256 * x + b)
clip-step x b = omega arith

packed-snoc : (n : ℕ) (w : List ℕ) (b : ℕ) → packed n (w ++ b ∷ []) ≡ 256 * packed n w + b
packed-snoc n [] b = refl
packed-snoc n (c ∷ w) b = packed-snoc (256 * n + c) w b

name-snoc : (w : List ℕ) (b : ℕ) → clipped_name (256 * name_of w + b) ≡ name_of (w ++ b ∷ [])
name-snoc w b = clip-step (packed 1 w) b ∙ ap clipped_name (sym (packed-snoc 1 w b))

-- the word that ends is the only word there
ended : (n : ℕ) (w : List ℕ) → listed (named (token_in (kind_in (shape_of w)) n) (clipped_name (name_of w))) ≡ map (spoken_at n) (word_before w [])
ended n [] = refl
ended n (b ∷ bs) =
    ap (λ k. listed (named (token_in k n) (clipped_name (name_of (b ∷ bs))))) (shape_of-kind b bs)
    ∙ ap (λ (k : ℕ). let s : Spoken = record { token = token_at n (b ∷ bs); name = k } in s ∷ []) (clip-again (packed 1 (b ∷ bs)))

ended-before : (n : ℕ) (w : List ℕ) (ws : List (List ℕ)) → map (spoken_at n) (word_before w ws) ≡ map (spoken_at n) (word_before w []) ++ map (spoken_at n) ws
ended-before n [] ws = refl
ended-before n (b ∷ bs) ws = refl

record Comes (bs : List ℕ) : Type 0 where
  word : (n : ℕ) (w : List ℕ) → to_come (at n (shape_of w) (name_of w)) bs ≡ map (spoken_at n) (words_after w (first (lines bs))) ++ lines_words (n + 1) (later (lines bs))
  comment : (n k : ℕ) → to_come (at n Comment k) bs ≡ lines_words (n + 1) (later (lines bs))
  start : (n : ℕ) → to_come (at n Start 1) bs ≡ lines_words n (lines bs)

record_word : (n : ℕ) (w : List ℕ) → listed (named (token_in (kind_in (shape_of w)) n) (clipped_name (name_of w))) ≡ map (spoken_at n) (word_before w []) ++ []
record_word n w = rw append-nil (ended n w)

nothing : Comes []
nothing = record {
  word = λ n w. record_word n w;
  comment = λ n k. refl;
  start = λ n. refl;
}

line_feed : (bs : List ℕ) → Comes bs → Comes (10 ∷ bs)
line_feed bs h = record {
  word = λ n w. rw (ended n w, h.start (n + 1)) refl;
  comment = λ n k. h.start (n + 1);
  start = λ n. h.start (n + 1);
}

blank_word : (n : ℕ) (w l : List ℕ) (rest : List Spoken) →
    listed (named (token_in (kind_in (shape_of w)) n) (clipped_name (name_of w))) ++ (map (spoken_at n) (words_after [] l) ++ rest) ≡ map (spoken_at n) (word_before w (words_after [] l)) ++ rest
blank_word n w l rest = rw (ended n w, ended-before n w (words_after [] l), append_assoc) refl

blank : (b : ℕ) (bs : List ℕ) → (b == 10) ≡ false → is_separator b ≡ true → Comes bs → Comes (b ∷ bs)
blank b bs e s h =
    let f = rw e at s in
    record {
      word = λ n w. simp (e, f, first-onto, later-onto, shape-in_line Between w refl, h.word n []) (blank_word n w (first (lines bs)) (lines_words (n + 1) (later (lines bs))));
      comment = λ n k. simp (e, f, later-onto, h.comment n 1) refl;
      start = λ n. simp (e, f, lines-split n (onto_first b (lines bs)), first-onto, later-onto) (h.start n ∙ lines-split n (lines bs));
    }

other_start : (b : ℕ) (bs : List ℕ) → Comes bs → (n : ℕ) →
    to_come (at n (if b == 99 then Comment else first_shape b) (clipped_name (256 + b))) bs ≡ (if b == 99 then [] else map (spoken_at n) (words_after (b ∷ []) (first (lines bs)))) ++ lines_words (n + 1) (later (lines bs))
other_start b bs h n = go (b == 99) where
  go : (t : Bool) → to_come (at n (if t then Comment else first_shape b) (clipped_name (256 + b))) bs ≡ (if t then [] else map (spoken_at n) (words_after (b ∷ []) (first (lines bs)))) ++ lines_words (n + 1) (later (lines bs))
  go true = h.comment n (clipped_name (256 + b))
  go false = h.word n (b ∷ [])

other : (b : ℕ) (bs : List ℕ) → (b == 10) ≡ false → is_separator b ≡ false → Comes bs → Comes (b ∷ bs)
other b bs e s h =
    let f = rw e at s in
    record {
      word = λ n w. simp (e, f, first-onto, later-onto, sym (shape_after-snoc Between w b), name-snoc w b) (h.word n (w ++ b ∷ []));
      comment = λ n k. simp (e, f, later-onto) (h.comment n (clipped_name (256 * k + b)));
      start = λ n. simp (e, f, lines-split n (onto_first b (lines bs)), first-onto, later-onto) (other_start b bs h n);
    }

comes_next : (b : ℕ) (bs : List ℕ) (t s : Bool) → (b == 10) ≡ t → is_separator b ≡ s → Comes bs → Comes (b ∷ bs)
comes_next b bs true s e f h = subst (λ c. Comes (c ∷ bs)) (sym (eqb-true b 10 e)) (line_feed bs h)
comes_next b bs false true e f h = blank b bs e f h
comes_next b bs false false e f h = other b bs e f h

comes : (bs : List ℕ) → Comes bs
comes [] = nothing
comes (b ∷ bs) = comes_next b bs (b == 10) (is_separator b) refl refl (comes bs)

pub from_start : (bs : List ℕ) → to_come begun bs ≡ words_of bs
from_start bs = (comes bs).start 1

none-handed : (w : Words) (bs : List ℕ) → has_separator bs ≡ false → all_handed w bs ≡ []
none-handed w [] h = refl
none-handed w (b ∷ bs) h = go (is_separator b) refl h (none-handed (after w b) bs) where
  go : (s : Bool) → is_separator b ≡ s → (s || has_separator bs) ≡ false → (has_separator bs ≡ false → all_handed (after w b) bs ≡ []) → listed (handed w b) ++ all_handed (after w b) bs ≡ []
  go true e f ih = cc
  go false e f ih = ap (λ ts. listed (handed w b) ++ ts) (ih f) ∙ rw e refl

cut-none : (bs : List ℕ) → has_separator bs ≡ false → up_to_separator bs ≡ []
cut-none [] h = refl
cut-none (b ∷ bs) h = rw h refl

tokens-named : (o : Option Token) (k : ℕ) → token_listed o ≡ [] → listed (named o k) ≡ []
tokens-named None k e = refl
tokens-named (Some t) k e = cc

none_in-blank : (s : Shape) → kind_in (after_blank s) ≡ None
none_in-blank Start = refl
none_in-blank Comment = refl
none_in-blank Between = refl
none_in-blank Minus = refl
none_in-blank (Digits s m) = refl
none_in-blank C = refl
none_in-blank Cn = refl
none_in-blank Q = refl
none_in-blank Qr = refl
none_in-blank Qra = refl
none_in-blank (Word k) = refl

token-nothing-behind : (t : Tokens) (b : ℕ) → is_separator b ≡ true → token_listed (handed_at_end_of_tokens (tokens_after t b)) ≡ []
token-nothing-behind t b e = go (b == 10) where
  go : (s : Bool) → token_listed (handed_at_end_of_tokens (if s then record { line = t.line + 1; shape = Start } else (if is_separator b then record { line = t.line; shape = after_blank t.shape } else record { line = t.line; shape = grown t.shape b }))) ≡ []
  go true = refl
  go false = rw (e, none_in-blank t.shape) refl

nothing-behind : (w : Words) (b : ℕ) → is_separator b ≡ true → to_come (after w b) [] ≡ []
nothing-behind w b e = tokens-named (handed_at_end_of_tokens (tokens_after w.tokens b)) (clipped_name (name_after w.name b)) (token-nothing-behind w.tokens b e)

some-handed : (w : Words) (bs : List ℕ) → has_separator bs ≡ true → all_handed w bs ≡ to_come w (up_to_separator bs)
some-handed w [] h = cc
some-handed w (b ∷ bs) h = rw h (go (has_separator bs) (is_separator b) refl refl h (some-handed (after w b) bs)) where
  go : (u s : Bool) → has_separator bs ≡ u → is_separator b ≡ s → (s || u) ≡ true → (has_separator bs ≡ true → all_handed (after w b) bs ≡ to_come (after w b) (up_to_separator bs))
      → listed (handed w b) ++ all_handed (after w b) bs ≡ listed (handed w b) ++ to_come (after w b) (up_to_separator bs)
  go true s e f g ih = ap (λ ts. listed (handed w b) ++ ts) (ih e)
  go false true e f g ih = ap (λ ts. listed (handed w b) ++ ts) (none-handed (after w b) bs e ∙ sym (ap (to_come (after w b)) (cut-none bs e) ∙ nothing-behind w b f))
  go false false e f g ih = cc

pub handed-ended : (bs : List ℕ) → all_handed begun bs ≡ words_ended bs
handed-ended bs = go (has_separator bs) refl where
  go : (u : Bool) → has_separator bs ≡ u → all_handed begun bs ≡ words_ended bs
  go true e = some-handed begun bs e ∙ from_start (up_to_separator bs)
  go false e = none-handed begun bs e ∙ rw (cut-none bs e) refl
