use Rattle.std.proofs.Common.{◌≡◌, ◌∙◌, sym, ap, true, false, arith}
use Rattle.q_logic.specs.Prelude.{Literal}
use Rattle.q_derive.specs.Testing.{every}
use Rattle.q_resolve.specs.Tests.{is_front}
use Rattle.q_resolve.proofs.Reduced.{lost-is, kept-is, shed-is, unshed-is}
use Rattle.q_resolve.proofs.reducing.fault_of.Goals as goal

pub returns-then-loses : goal.returns-then-loses
returns-then-loses c = lost-is c.args.prefix.now c.args.parent.now c.args.marked.now (sym c.loses.ensures ∙ c.if-loses.true)

pub returns-then-not-is_clear_before : goal.returns-then-not-is_clear_before
returns-then-not-is_clear_before c =
    let P = c.args.prefix.now in
    let R = c.args.parent.now in
    let T = c.args.marked.now in
    let f : c.is_clear_before.result ≡ false = let x = c.if-not-is_clear_before.true in grind arith in
    let a = c.outermost_taken-at.ensures in (
      kept-is P R T (sym c.loses.ensures ∙ c.if-loses.false),
      unshed-is P R T c.requires.bound (sym (ap (λ n. every (λ (k : Literal). is_front P n k) R) a) ∙ sym c.is_clear_before.ensures ∙ f),
    )

pub returns : goal.returns
returns c =
    let P = c.args.prefix.now in
    let R = c.args.parent.now in
    let T = c.args.marked.now in
    let t : c.is_clear_before.result ≡ true = let x = c.if-not-is_clear_before.false in grind arith in
    let a = c.outermost_taken-at.ensures in (
      kept-is P R T (sym c.loses.ensures ∙ c.if-loses.false),
      shed-is P R T (sym (ap (λ n. every (λ (k : Literal). is_front P n k) R) a) ∙ sym c.is_clear_before.ensures ∙ t),
    )
