use Rattle.std.proofs.Common.{◌≡◌, ◌++◌, ◌≤◌, ◌∙◌, [], length, map, sym, ap, arith, List}
use Rattle.q_logic.specs.Prelude.{Literal}
use Rattle.q_long.specs.Decided.{drops_of}
use Rattle.q_extract.specs.Rows.{drops_in, values_next}
use Rattle.q_resolve.specs.Sides.{sided}
use Rattle.q_resolve.specs.Tests.{outermost}
use Rattle.q_resolve.specs.Reduced.{front_of, back_of}
use Rattle.q_resolve.proofs.Reduced.{back-none}
use Rattle.q_resolve.proofs.reducing.reduce.Goals as goal

pub returns-then-at-prefix : goal.returns-then-at-prefix
returns-then-at-prefix c =
    let a = c.outermost_taken-at.ensures in
    let m = c.in_ok-put_away.ensures.more in
    record { drops = (rw a at m.drops); merges = m.merges; sound = m.sound; next = c.in_ok-put_away.ensures.next }

pub returns : goal.returns
returns c =
    let P = c.args.prefix.now in
    let R = c.args.parent.now in
    let T = c.args.marked.now in
    let old = c.args.away.now.drops in
    let a = c.outermost_taken-at.ensures in
    let le : length P ≤ outermost P T R = let x = c.if-at-prefix.false in omega arith in
    let e : back_of P (outermost P T R) R ≡ [] = back-none P (outermost P T R) R le c.requires.bound in
    let m = c.in_ok-put_nothing.ensures.more in
    record {
      drops = m.drops ∙ sym (ap (λ (xs : List Literal). drops_in old ++ drops_of (values_next old (map (sided c.args.owner) xs))
          (values_next old (map (sided c.args.owner) (front_of P (outermost P T R) R)))) e);
      merges = m.merges;
      sound = m.sound;
      next = c.in_ok-put_nothing.ensures.next;
    }
