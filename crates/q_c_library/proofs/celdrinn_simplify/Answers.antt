use Rattle.std.proofs.Common.{subst, inl, List, ℕ}
use Rattle.q_c_library.specs.Calls.{Copied}
use Rattle.q_c_library.proofs.celdrinn_simplify.Goals as goal

pub returns-in-Ok : goal.returns-in-Ok
returns-in-Ok c =
    inl (record {
      given = c.in-Ok.left.status;
      after = c.in-Ok.left.files;
      line = c.in-Ok.left.line;
      over = c.in-Ok.ensures;
      code_is = c.code.ensures;
      kept = (subst (λ (text : List ℕ). Copied text c.args.line.now c.put-lengths.new.buffer c.put-lengths.result) c.bytes.ensures c.put-lengths.ensures, c.put_file-lengths.ensures, c.put_file-lengths-in-Ok.ensures);
    })
