use Rattle.std.proofs.Common.{List, subst}
use Rattle.q_logic.specs.Prelude.{IsIn}
use Rattle.q_kernel.specs.Prelude.{slots}
use Rattle.q_reduce.specs.Forests.{ForestMap}
use Rattle.q_reduce.proofs.ForestPaths.{starts-near, ends-near}
use Rattle.q_reduce.proofs.forests.Forests.keep.Goals as goal

pub connect-requires-clause-right : goal.connect-requires-clause-right
connect-requires-clause-right c F m =
    let all = rw (← c.self.view_is) at c.requires.right in
    all F (subst (λ (Fs : List ForestMap). IsIn F Fs) c.deref.ensures.value m)

pub connect-requires-2-clause-right : goal.connect-requires-2-clause-right
connect-requires-2-clause-right c F m =
    let all = rw (← c.self.view_is) at c.requires.right in
    all F (subst (λ (Fs : List ForestMap). IsIn F Fs) c.deref-2.ensures.value m)

pub connect-requires-2-clause-sides : goal.connect-requires-2-clause-sides
connect-requires-2-clause-sides c =
    let k = c.args.kernel.now in
    let a = c.in_ok-begin.ensures in
    record {
      from_start = λ s m l. starts-near k.prefix (slots k) c.args.lit c.args.c c.begin.new.self.starts.items a.from_start s (c.in_ok-widen.ensures.starts s m) l;
      from_end = λ e m. ends-near k.prefix (slots k) c.args.lit c.begin.new.self.ends.items a.from_end e (c.in_ok-widen.ensures.ends e m);
    }
