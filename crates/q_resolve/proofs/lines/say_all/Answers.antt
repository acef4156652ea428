use Rattle.std.proofs.Common.{◌≡◌, ◌∙◌, sym, ap, subst, false, List, arith}
use Rattle.q_logic.specs.Prelude.{Literal}
use Rattle.q_derive.specs.Testing.{some}
use Rattle.q_long.specs.Distant.{positive}
use Rattle.q_extract.specs.Saying.{said_in}
use Rattle.q_resolve.specs.Tests.{is_other}
use Rattle.q_resolve.specs.Merging.{IsSaidUpto}
use Rattle.q_resolve.proofs.LineFaults.{meeting-no}
use Rattle.q_resolve.proofs.Merging.{both-of}
use Rattle.q_resolve.proofs.Sayings.{resolved-none}
use Rattle.q_resolve.proofs.lines.say_all.Goals as goal

pub returns-then-not-some_meets : goal.returns-then-not-some_meets
returns-then-not-some_meets c =
    let P = c.args.prefix.now in
    let R = c.args.parent.now in
    let f : c.some_meets.result ≡ false = let x = c.if-not-some_meets.true in grind arith in
    let e : some (λ (k : Literal). is_other P R k) R ≡ false = sym (ap (λ (V : List Literal). some (λ (k : Literal). is_other P R k) V) c.as_slice.ensures) ∙ sym c.some_meets.ensures ∙ f in
    resolved-none c.args.owner P c.args.pivot (said_in c.args.said.now c.args.i) (said_in c.args.said.now c.args.j) c.args.first.now c.args.two.now R c.args.away.now.drops
    c.requires.sound c.requires.fresh (λ x m. let w = both-of P R x m in meeting-no P R R e (positive x, w.owned, w.yes, w.no))

pub returns : goal.returns
returns c =
    subst (λ (S : List Literal). IsSaidUpto c.args.owner c.args.prefix.now c.args.pivot (said_in c.args.said.now c.args.i) (said_in c.args.said.now c.args.j) S c.args.two.now c.args.parent.now c.args.parent.now
    c.args.away.now.drops c.say_resolved.new.drops) c.in_ok-mark.ensures c.in_ok-say_resolved.ensures
