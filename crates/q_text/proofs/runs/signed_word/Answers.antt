use Rattle.std.proofs.Common.{◌≡◌, true, get_or, arith, refl}
use Rattle.std.proofs.lemmas.Bool.Decides.{nat_tests}
use Rattle.std.proofs.lemmas.List.{take_rest}
use Rattle.q_text.specs.Words.{is_digit}
use Rattle.q_text.proofs.BytePieces.{word-silent, word-state}
use Rattle.q_text.proofs.runs.signed_word.Goals as goal

pub returns : goal.returns
returns c =
    let d : is_digit (get_or c.args.piece.now c.sign_len-sign.result 0) ≡ true = grind (arith, nat_tests, c.is_ascii_digit.ensures.cases, c.if-not-is_ascii_digit.false) in
    let h = rw take_rest at c.run_of-run.ensures in
    record {
      within = omega arith;
      silent = λ t m. word-silent c.args.piece.now c.run_of-run.result.count c.run_of-run.result.magnitude c.sign_len-sign.result _ t (omega arith) refl c.sign_len-sign.ensures.value d h m;
      state = λ t m. word-state c.args.piece.now c.run_of-run.result.count c.run_of-run.result.magnitude c.sign_len-sign.result _ t (omega arith) refl c.sign_len-sign.ensures.value d h m;
    }
