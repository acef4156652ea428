-- The number of a literal and the space behind it take at most twelve bytes.
use Rattle.std.proofs.Common.{◌≤◌, ◌<◌, ◌^◌, ℕ, zero, suc, Bool, true, false, [], ◌∷◌, length, length-append, ℤ, pos, negsuc, arith}
use Rattle.std.specs.Int.Signed.{mag}
use Rattle.std.specs.Fmt.{signed_decimal}
use Rattle.std.proofs.lemmas.Fmt.{length_signed_le}
use Rattle.q_logic.specs.Prelude.{Literal, number_of}
use Rattle.q_text.specs.Numbers.{number_text}

pub number-short : (z : ℤ) → mag z < 2 ^ 31 → length (number_text z) ≤ 12
number-short z h =
    let e = length_signed_le 10 z (omega arith) (omega arith) in
    rw (length-append (signed_decimal z) (32 ∷ [])) (omega arith)

literal_short : (v : ℕ) (b : Bool) → v < 2 ^ 31 → length (number_text (number_of (record { var = v; negative = b }))) ≤ 12
literal_short v false h = number-short (pos v) h
literal_short zero true h = number-short (pos 0) h
literal_short (suc v) true h = number-short (negsuc v) (omega arith)

pub literal-short : (l : Literal) → l.var < 2 ^ 31 → length (number_text (number_of l)) ≤ 12
literal-short l h = literal_short l.var l.negative h
