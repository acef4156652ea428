-- The causes for which a text is refused, by number.
use Rattle.std.specs.Prelude.{ℕ}
use Rattle.q_qrp.specs.declared.error.Cause.{Cause}
use Rattle.q_qrp.specs.declared.error.Cause.TheVariants.{BadWord, NoVerdict, NotRising, Limit}

abbrev pub cause_number : Cause → ℕ
cause_number BadWord = 1
cause_number NoVerdict = 2
cause_number NotRising = 3
cause_number Limit = 8

abbrev pub bad_word : ℕ
bad_word = cause_number BadWord

abbrev pub no_verdict : ℕ
no_verdict = cause_number NoVerdict

abbrev pub not_rising : ℕ
not_rising = cause_number NotRising

abbrev pub limit : ℕ
limit = cause_number Limit
