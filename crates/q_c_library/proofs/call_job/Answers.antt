use Rattle.std.proofs.Common.{◌≡◌, ◌∙◌, ℕ, List, length, arith, inl, subst}
use Rattle.std.proofs.lemmas.Grind.{common_steps}
use Rattle.q_c_library.specs.Calls.{Copied}
use Rattle.q_c_library.proofs.JobWords.{lengths-texts, made-texts}
use Rattle.q_c_library.proofs.call_job.Goals as goal

pub returns-in-Ok : goal.returns-in-Ok
returns-in-Ok c =
    let line = subst (λ (text : List ℕ). Copied text c.args.line.now c.put.new.buffer c.put.result) c.bytes.ensures c.put.ensures in
    let made = subst (λ (bytes : List ℕ). Copied bytes c.args.made.now c.put_made.new.buffer (length bytes)) (made-texts c.args.words.now c.in-Ok.done.left.files c.deref-in-Ok.result.now c.in-Ok.done.words.items c.deref-in-Ok.ensures.value c.in-Ok.ensures.words) c.put_made.ensures in
    let lengths = c.tell_lengths.ensures ∙ lengths-texts c.args.words.now c.in-Ok.done.left.files c.deref.result.now c.in-Ok.done.words.items c.deref.ensures.value c.in-Ok.ensures.words in
    inl (
      record {
        texts = c.in-Ok.ensures.texts;
        lengths_are = grind (arith, common_steps);
      },
      record {
        given = c.in-Ok.done.left.status;
        after = c.in-Ok.done.left.files;
        line = c.in-Ok.done.left.line;
        over = c.in-Ok.ensures.ran;
        code_is = c.code-in-Ok.ensures;
        kept = (line, made, lengths);
      },
    )
