-- Many bytes of a text at once: what they change, and what they hand out.
use Rattle.std.specs.Prelude.{◌≡◌, ◌≤◌, ◌<◌, ◌+◌, ◌^◌, ℕ, Bool, true, false, List, [], ◌∷◌, length, take, slice_index, Option, Some, pos}
use Rattle.q_text.specs.declared.shape.Shape.{Shape}
use Rattle.q_text.specs.declared.shape.Shape.TheVariants.{Start, Comment, Between, Minus, Digits, C, Cn, Q, Qr, Qra, Word}
use Rattle.q_text.specs.declared.tokens.Token.{Token}
use Rattle.q_text.specs.declared.tokens.Tokens.{Tokens}
use Rattle.q_text.specs.declared.tokens.TokenKind.TheVariants.{Number}
use Rattle.q_text.specs.declared.runs.NumberWord.{NumberWord}
use Rattle.q_text.specs.declared.runs.LiteralWord.{LiteralWord}
use Rattle.q_logic.specs.Prelude.{Literal, number_of}
use Rattle.q_text.specs.Words.{is_separator}
use Rattle.q_text.specs.Tokens.{handed, after, all_handed, kind_in}

abbrev pub after_all : Tokens → List ℕ → Tokens
after_all t [] = t
after_all t (b ∷ bs) = after_all (after t b) bs

-- a word may begin
abbrev pub may_begin : Shape → Bool
may_begin Start = true
may_begin Comment = false
may_begin Between = true
may_begin Minus = false
may_begin (Digits s m) = false
may_begin C = false
may_begin Cn = false
may_begin Q = false
may_begin Qr = false
may_begin Qra = false
may_begin (Word k) = false

-- the first bytes of the piece are taken: those before the last one of them hand out nothing
pub record Goes (old new : Tokens) (piece : List ℕ) (count : ℕ) (token : Option Token) : Type 0 where
  pub front : ℕ
  pub counted : count ≡ front + 1
  pub within : front < length piece
  pub silent : all_handed old (take front piece) ≡ []
  pub handed_out : token ≡ handed (after_all old (take front piece)) (slice_index piece front)
  pub state : new ≡ after (after_all old (take front piece)) (slice_index piece front)

-- the first bytes of the piece are digits, and take one magnitude to another
pub record AreDigits (bytes : List ℕ) (from : ℕ) (count to : ℕ) : Type 0 where
  pub within : count ≤ length bytes
  pub silent : (n : ℕ) (s : Bool) → all_handed (record { line = n; shape = Digits s from }) (take count bytes) ≡ []
  pub state : (n : ℕ) (s : Bool) → after_all (record { line = n; shape = Digits s from }) (take count bytes) ≡ record { line = n; shape = Digits s to }

-- the first bytes of the piece are digits, behind a sign where it is said so, and a byte stands behind them
pub record IsSignedWord (piece : List ℕ) (len : ℕ) (negative : Bool) (magnitude : ℕ) : Type 0 where
  pub within : len < length piece
  pub silent : (t : Tokens) → may_begin t.shape ≡ true → all_handed t (take len piece) ≡ []
  pub state : (t : Tokens) → may_begin t.shape ≡ true → after_all t (take len piece) ≡ record { line = t.line; shape = Digits negative magnitude }

-- the first bytes of the piece are a literal, and a space stands behind them
pub record IsLiteralWord (piece : List ℕ) (w : LiteralWord) : Type 0 where
  pub word : IsSignedWord piece w.len w.lit.negative w.lit.var
  pub positive : 1 ≤ w.lit.var
  pub small : w.lit.var < 2 ^ 31
  pub space : slice_index piece w.len ≡ 32

-- the tokens behind a literal and a space
abbrev pub behind_literal : Tokens → Tokens
behind_literal t = record { line = t.line; shape = Between }

-- the tokens behind a 0 and a LF
abbrev pub behind_zero : Tokens → Tokens
behind_zero t = record { line = t.line + 1; shape = Start }

abbrev pub zero_token : ℕ → Token
zero_token n = record { kind = Number (pos 0); line = n }

abbrev pub literal_token : Literal → ℕ → Token
literal_token l n = record { kind = Number (number_of l); line = n }

-- the first bytes of the piece are a number, and a byte that divides words stands behind them
pub record IsNumberWord (piece : List ℕ) (w : NumberWord) : Type 0 where
  pub sign : Bool
  pub magnitude : ℕ
  pub within : w.len < length piece
  pub blank : is_separator (slice_index piece w.len) ≡ true
  pub kind : kind_in (Digits sign magnitude) ≡ Some w.kind
  pub silent : (t : Tokens) → may_begin t.shape ≡ true → all_handed t (take w.len piece) ≡ []
  pub state : (t : Tokens) → may_begin t.shape ≡ true → after_all t (take w.len piece) ≡ record { line = t.line; shape = Digits sign magnitude }
