use Rattle.std.proofs.Common.{◌≡◌, sym, ap, ◌∙◌, List}
use Rattle.q_logic.specs.Prelude.{Literal}
use Rattle.q_derive.specs.Testing.{some}
use Rattle.q_resolve.specs.Tests.{is_other}
use Rattle.q_resolve.proofs.LineFaults.{meeting-yes, meeting-no}
use Rattle.q_resolve.proofs.Standing.{may-decides}
use Rattle.q_resolve.proofs.lines.is_leaf.Goals as goal

pub returns-then-some_meets : goal.returns-then-some_meets
returns-then-some_meets c =
    let P = c.args.prefix.now in
    let T = c.args.term.now in
    let own : some (λ (k : Literal). is_other P T k) T ≡ c.some_meets.result = sym (c.some_meets.ensures ∙ ap (λ (V : List Literal). some (λ (k : Literal). is_other P V k) T) c.requires.own) in
    (λ h. absurd (cc), λ l. absurd (l.1 (meeting-yes P T T (own ∙ c.if-some_meets.true))))

pub returns : goal.returns
returns c =
    let P = c.args.prefix.now in
    let T = c.args.term.now in
    let own : some (λ (k : Literal). is_other P T k) T ≡ c.some_meets.result = sym (c.some_meets.ensures ∙ ap (λ (V : List Literal). some (λ (k : Literal). is_other P V k) T) c.requires.own) in
    let d = may-decides c.args.owner c.args.formula.now.matrix T in
    let e = c.may_stand.ensures in
    (λ h. (d.0 (sym e ∙ h), meeting-no P T T (own ∙ c.if-some_meets.false)), λ l. e ∙ d.1 l.0)
