use Rattle.std.proofs.Common.{◌≡◌, sym, ap, ◌∙◌, false, List, arith}
use Rattle.q_logic.specs.Prelude.{Literal}
use Rattle.q_derive.specs.Testing.{some}
use Rattle.q_resolve.specs.Tests.{is_other, is_anew}
use Rattle.q_resolve.proofs.LineFaults.{anew-none}
use Rattle.q_resolve.proofs.lines.merges_more.Goals as goal

pub returns-then-not-some_meets : goal.returns-then-not-some_meets
returns-then-not-some_meets c =
    let P = c.args.prefix.now in
    let T = c.args.own.now in
    let f : c.some_meets.result ≡ false = let x = c.if-not-some_meets.true in grind arith in
    sym (anew-none P T c.args.source.now (sym (ap (λ (V : List Literal). some (λ (k : Literal). is_other P T k) V) c.as_slice.ensures) ∙ sym c.some_meets.ensures ∙ f))

pub returns : goal.returns
returns c =
    let P = c.args.prefix.now in
    let T = c.args.own.now in
    c.merges_anew.ensures ∙ ap (λ (V : List Literal). some (λ (k : Literal). is_anew P T c.mark.new.marked k) V) c.as_slice-2.ensures ∙
    ap (λ (R : List Literal). some (λ (k : Literal). is_anew P T R k) T) c.in_ok-mark.ensures
