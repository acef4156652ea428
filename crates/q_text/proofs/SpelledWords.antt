-- A word and the separator behind it are read as its token.
use Rattle.std.proofs.Common.{◌≡◌, ℕ, ◌+◌, ◌==◌, ◌||◌, Bool, true, false, List, [], ◌∷◌, ◌++◌, refl, ap, sym, ◌∙◌, arith, append_assoc, append-nil}
use Rattle.std.proofs.lemmas.Bool.Decides.{nat_tests}
use Rattle.q_text.specs.declared.shape.Shape.{Shape}
use Rattle.q_text.specs.declared.shape.Shape.TheVariants.{Start, Between}
use Rattle.q_text.specs.Words.{is_separator}
use Rattle.q_text.specs.Texts.{has_separator, token_at}
use Rattle.q_text.specs.Tokens.{first_shape, grown, after_blank, to_come}
use Rattle.q_text.proofs.WordShapes.{shape_of, shape_after-snoc, shape_of-kind}
use Rattle.q_text.proofs.TokenLaw.{at, shape-in_line}

-- a word can begin here
pub record Opens (s : Shape) : Type 0 where
  pub is : (b : ℕ) → (b == 99) ≡ false → grown s b ≡ first_shape b

pub opens-start : Opens Start
opens-start = record { is = λ b e. rw e refl }

pub opens-between : Opens Between
opens-between = record { is = λ b e. refl }

no-line_feed : (b : ℕ) → is_separator b ≡ false → (b == 10) ≡ false
no-line_feed b e = grind (arith, nat_tests, e)

-- one more byte of a word
word-byte : (n b : ℕ) (s : Shape) (rest : List ℕ) → is_separator b ≡ false → to_come (at n s) (b ∷ rest) ≡ to_come (at n (grown s b)) rest
word-byte n b s rest e =
    let f = no-line_feed b e in
    let g = rw f at e in
    simp (f, g) refl

word-bytes : (n : ℕ) (w bs rest : List ℕ) → has_separator bs ≡ false → to_come (at n (shape_of w)) (bs ++ rest) ≡ to_come (at n (shape_of (w ++ bs))) rest
word-bytes n w [] rest h = rw append-nil refl
word-bytes n w (b ∷ bs) rest h = go (is_separator b) refl h (word-bytes n (w ++ b ∷ []) bs rest) where
  go : (t : Bool) → is_separator b ≡ t → (t || has_separator bs) ≡ false
      → (has_separator bs ≡ false → to_come (at n (shape_of (w ++ b ∷ []))) (bs ++ rest) ≡ to_come (at n (shape_of ((w ++ b ∷ []) ++ bs))) rest)
      → to_come (at n (shape_of w)) (b ∷ bs ++ rest) ≡ to_come (at n (shape_of (w ++ b ∷ bs))) rest
  go true e f ih = cc
  go false e f ih =
      word-byte n b (shape_of w) (bs ++ rest) e
      ∙ (ap (λ s. to_come (at n s) (bs ++ rest)) (sym (shape_after-snoc Between w b))
      ∙ (ih f ∙ ap (λ v. to_come (at n (shape_of v)) rest) (append_assoc w (b ∷ []) bs)))

pub record IsWord (w : List ℕ) : Type 0 where
  pub first : ℕ
  pub rest : List ℕ
  pub is : w ≡ first ∷ rest
  pub no_comment : (first == 99) ≡ false
  pub no_separator : has_separator w ≡ false

word-whole : (n b : ℕ) (bs rest : List ℕ) (s : Shape) → Opens s → (b == 99) ≡ false → has_separator (b ∷ bs) ≡ false →
    to_come (at n s) (b ∷ bs ++ rest) ≡ to_come (at n (shape_of (b ∷ bs))) rest
word-whole n b bs rest s o c h = go (is_separator b) refl h where
  go : (t : Bool) → is_separator b ≡ t → (t || has_separator bs) ≡ false → to_come (at n s) (b ∷ bs ++ rest) ≡ to_come (at n (shape_of (b ∷ bs))) rest
  go true e f = cc
  go false e f =
      word-byte n b s (bs ++ rest) e
      ∙ (ap (λ x. to_come (at n x) (bs ++ rest)) (o.is b c) ∙ word-bytes n (b ∷ []) bs rest f)

in_line : (b : ℕ) (bs : List ℕ) → after_blank (shape_of (b ∷ bs)) ≡ Between
in_line b bs = shape-in_line Between (b ∷ bs) refl

-- before a space
pub word-space : (n b : ℕ) (bs rest : List ℕ) (s : Shape) → Opens s → (b == 99) ≡ false → has_separator (b ∷ bs) ≡ false →
    to_come (at n s) (b ∷ bs ++ 32 ∷ rest) ≡ token_at n (b ∷ bs) ∷ to_come (at n Between) rest
word-space n b bs rest s o c h = word-whole n b bs (32 ∷ rest) s o c h ∙ simp (shape_of-kind b bs, in_line b bs) refl

-- before LF
pub word-line : (n b : ℕ) (bs rest : List ℕ) (s : Shape) → Opens s → (b == 99) ≡ false → has_separator (b ∷ bs) ≡ false →
    to_come (at n s) (b ∷ bs ++ 10 ∷ rest) ≡ token_at n (b ∷ bs) ∷ to_come (at (n + 1) Start) rest
word-line n b bs rest s o c h = word-whole n b bs (10 ∷ rest) s o c h ∙ simp (shape_of-kind b bs) refl
