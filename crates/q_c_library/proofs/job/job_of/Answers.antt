use Rattle.std.proofs.Common.{◌≡◌, ◌∙◌, ◌++◌, ◌∷◌, [], ℕ, List, get_or, ap, sym, cond, Some}
use Rattle.q_c_library.specs.Jobs.{given_at, gives}
use Rattle.q_c_library.proofs.JobWords.{no_word, texts-more, given-more, utf8-more, utf8-one, utf8-whole, err_of}
use Rattle.q_c_library.proofs.job.job_of.Goals as goal

pub returns-in-Err-clause-no_text : goal.returns-in-Err-clause-no_text
returns-in-Err-clause-no_text c = λ e all. c.in-Err.ensures.no_text (err_of _ _ e) (utf8-one c.args.words.now c.loop-word.word-index c.loop-word-test.true all)

pub loop-word-preserved : goal.loop-word-preserved
loop-word-preserved c = record {
  words = c.in-Ok.ensures.words ∙ ap (λ (ts : List (List ℕ)). ts ++ (get_or c.args.words.now c.loop-word.word-index no_word).text.now ∷ []) c.loop-word.invariant.words ∙ sym (texts-more c.args.words.now c.loop-word.word-index c.loop-word-test.true);
  files = λ name. c.in-Ok.ensures.files name ∙ ap (λ (x : _). cond (gives name (get_or c.args.words.now c.loop-word.word-index no_word)) (Some (get_or c.args.words.now c.loop-word.word-index no_word).file.now) x) (c.loop-word.invariant.files name) ∙ sym (given-more c.args.words.now c.loop-word.word-index c.loop-word-test.true name);
  texts = utf8-more c.args.words.now c.loop-word.word-index c.loop-word-test.true c.loop-word.invariant.texts c.in-Ok.ensures.text;
}

pub returns-clause-texts : goal.returns-clause-texts
returns-clause-texts c = utf8-whole c.args.words.now c.loop-word.word-index c.loop-word-test.false c.loop-word.invariant.texts
