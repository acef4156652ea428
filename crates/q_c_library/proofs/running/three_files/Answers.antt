use Rattle.std.proofs.Common.{◌∙◌, rules}
use Rattle.q_c_library.proofs.running.three_files.Goals as goal

pub returns : goal.returns
returns c = record {
  input_is = search rules;
  output_is = search rules;
  log_is = search rules;
  alone = λ name i o l. c.in_ok-put_file-2.ensures.others name l ∙ c.in_ok-put_file.ensures.others name o ∙ c.in_ok-files.ensures.alone name i;
}
